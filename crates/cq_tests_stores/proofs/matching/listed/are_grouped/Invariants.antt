use Rattle.std.proofs.Common.{◌≤◌}
use Rattle.std.specs.List.{AllAdjacentBelow}
use Rattle.cq_tests_stores.proofs.matching.listed.are_grouped.Given as goal

-- the waiters do not fall so far
abbrev pub invariant-loop-place : goal.invariant-loop-place
invariant-loop-place l = AllAdjacentBelow (λ x y. x.waiter ≤ y.waiter) l.edges l.place
