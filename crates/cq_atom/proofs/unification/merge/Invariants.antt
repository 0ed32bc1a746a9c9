use Rattle.std.proofs.Common.{◌≡◌, ℕ, ◌<◌, ◌≤◌}
use Rattle.cq_atom.specs.Steps.Labels.{label_at, relabel}
use Rattle.cq_atom.proofs.unification.merge.Given as goal

abbrev pub invariant-loop-label : goal.invariant-loop-label
invariant-loop-label l = record {
  done : (k : ℕ) → k < l.label-index → label_at l.labels k ≡ relabel l.from l.to (label_at l.initial.labels k);
  rest : (k : ℕ) → l.label-index ≤ k → label_at l.labels k ≡ label_at l.initial.labels k;
}
