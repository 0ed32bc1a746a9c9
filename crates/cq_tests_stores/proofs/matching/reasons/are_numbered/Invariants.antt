use Rattle.std.proofs.Common.{◌≡◌, ℕ, ◌<◌, false, get_or}
use Rattle.cq_tests_stores.proofs.matching.reasons.are_numbered.Given as goal

abbrev pub invariant-loop-place : goal.invariant-loop-place
invariant-loop-place l = (place : ℕ) → place < l.place → (get_or l.nodes place (0, 0, false)).0 ≡ place
