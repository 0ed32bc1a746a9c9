use Rattle.std.proofs.Common.{◌≡◌, ℕ, ◌<◌}
use Rattle.cq_atom.specs.Value.{ValueContent}
use Rattle.cq_atom.specs.declared.term.TermKind.TheVariants.{Constant}
use Rattle.cq_atom.specs.Steps.Labels.{label_at, term_at}
use Rattle.cq_atom.proofs.unification.agrees_with.Given as goal

abbrev pub invariant-loop-j : goal.invariant-loop-j
invariant-loop-j g l = (k : ℕ) → k < l.j → label_at l.labels k ≡ l.label → (d : ValueContent) → term_at l.terms k ≡ Constant d → l.value ≡ d
