use Rattle.std.proofs.Common.{ℕ, ◌<◌, ◌≤◌, length, reverse}
use Rattle.std.specs.List.{All}
use Rattle.cq_match.specs.Steps.Resting.{Walking}
use Rattle.cq_match.proofs.resting.walk.Given as goal

abbrev pub invariant-loop-place : goal.invariant-loop-place
invariant-loop-place g l = record {
  low : l.left ≤ length l.falls;
  below : All (λ place. place < l.left) l.wanted.keys;
  walking : (node : ℕ) → Walking l.edges l.falls node l.count l.fn.wanted.keys (reverse l.fn.part.items) → Walking l.edges l.falls node l.left l.wanted.keys (reverse l.part.items);
}

abbrev pub decreases-loop-place : goal.decreases-loop-place
decreases-loop-place g l = l.left
