use Rattle.std.proofs.Common.{◌≡◌, ℕ, ◌<◌}
use Rattle.cq_atom.specs.Value.{ValueContent}
use Rattle.cq_atom.specs.declared.term.TermKind.TheVariants.{Constant}
use Rattle.cq_atom.specs.Value.{IsValue}
use Rattle.cq_atom.specs.Steps.Labels.{label_at, term_at, AgreesWith}
use Rattle.cq_atom.proofs.unification.agree.Given as goal

abbrev pub invariant-loop-i : goal.invariant-loop-i
invariant-loop-i g l = record {
  agree : (k : ℕ) → k < l.i → (c : ValueContent) → term_at l.a k ≡ Constant c → AgreesWith l.labels (label_at l.labels k) c l.b;
  valid : (k : ℕ) → k < l.i → (c : ValueContent) → term_at l.a k ≡ Constant c → IsValue c;
}
