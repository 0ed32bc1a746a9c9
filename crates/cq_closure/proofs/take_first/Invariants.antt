use Rattle.std.proofs.Common.{◌≡◌, ℕ, ◌<◌, List, Bool, true, false}
use Rattle.cq_atom.specs.declared.edge.Edge.{Edge}
use Rattle.cq_closure.specs.Closure.{is_set}
use Rattle.cq_closure.specs.Steps.Reach.{Takes, AreReached}
use Rattle.cq_closure.proofs.take_first.Given as goal

abbrev pub invariant-loop-node : goal.invariant-loop-node
invariant-loop-node g l = record {
  takes : Takes l.initial.reach.spare.items l.initial.reach.left.items l.reach.spare.items l.reach.left.items;
  taken : (n : ℕ) → n < l.node → is_set l.first n ≡ true → is_set l.reach.spare.items n ≡ false;
  only : (edges : List Edge) (may : List Bool) → AreReached edges may l.first l.initial.reach.spare.items l.initial.reach.left.items → AreReached edges may l.first l.reach.spare.items l.reach.left.items;
}
