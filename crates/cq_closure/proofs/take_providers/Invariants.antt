use Rattle.std.proofs.Common.{◌≡◌, ℕ, ◌<◌, List, Bool, true, false, length, get_or}
use Rattle.std.specs.List.{All}
use Rattle.cq_atom.specs.declared.edge.Edge.{Edge}
use Rattle.cq_closure.specs.Closure.{is_set, IsReached}
use Rattle.cq_closure.specs.Steps.Reach.{Takes, AreReached}
use Rattle.cq_closure.proofs.take_providers.Given as goal

abbrev pub invariant-loop-edge : goal.invariant-loop-edge
invariant-loop-edge g l = record {
  takes : Takes l.initial.reach.spare.items l.initial.reach.left.items l.reach.spare.items l.reach.left.items;
  taken : (k : ℕ) (e : Edge) → k < l.edge-index → k < length l.edges → is_set l.reach.spare.items (get_or l.edges k e).provider ≡ false;
  only : (all : List Edge) (may first : List Bool) → All (λ edge. is_set may edge.provider ≡ true → IsReached all may first edge.provider) l.edges
      → AreReached all may first l.initial.reach.spare.items l.initial.reach.left.items → AreReached all may first l.reach.spare.items l.reach.left.items;
}
