use Rattle.std.proofs.Common.{◌≡◌, ℕ, ◌<◌}
use Rattle.cq_atom.specs.Steps.Labels.{label_at}
use Rattle.cq_atom.proofs.unification.number.Given as goal

abbrev pub invariant-loop-place : goal.invariant-loop-place
invariant-loop-place l = (k : ℕ) → k < l.place → label_at l.labels k ≡ k
