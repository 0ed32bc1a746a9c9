use Rattle.std.proofs.Common.{take}
use Rattle.std.specs.List.{All}
use Rattle.cq_tests_stores.specs.Guarded.{HavePosts, IsTaken}
use Rattle.cq_tests_stores.proofs.matching.guarded.are_taken.Given as goal

abbrev pub invariant-loop-edge : goal.invariant-loop-edge
invariant-loop-edge g l = HavePosts l.posts l.matcher.nodes → All (IsTaken l.matcher.nodes l.node l.count) (take l.edge-index l.edges)
