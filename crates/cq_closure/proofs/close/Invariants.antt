use Rattle.std.proofs.Common.{◌≡◌, ◌+◌, ◌*◌, ℕ, List, Bool, false, length}
use Rattle.cq_closure.specs.Closure.{is_set}
use Rattle.cq_closure.specs.Steps.Reach.{set_count, IsClosing, AreReached}
use Rattle.cq_closure.proofs.close.Given as goal

abbrev pub invariant-loop-waiter : goal.invariant-loop-waiter
invariant-loop-waiter g l = record {
  kept : (n : ℕ) → is_set l.initial.reach.spare.items n ≡ false → is_set l.reach.spare.items n ≡ false;
  closed : (may : List Bool) → IsClosing l.edges may l.initial.reach.spare.items l.initial.reach.left.items → IsClosing l.edges may l.reach.spare.items l.reach.left.items;
  only : (may first : List Bool) → AreReached l.edges may first l.initial.reach.spare.items l.initial.reach.left.items → AreReached l.edges may first l.reach.spare.items l.reach.left.items;
}

abbrev pub decreases-loop-waiter : goal.decreases-loop-waiter
decreases-loop-waiter g l = length l.reach.left.items + 2 * set_count l.reach.spare.items
