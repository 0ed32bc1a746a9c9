use Rattle.std.proofs.Common.{take}
use Rattle.std.specs.List.{All}
use Rattle.cq_tests_stores.specs.Guarded.{HasEnds}
use Rattle.cq_tests_stores.specs.Reasons.{AreNumbered}
use Rattle.cq_tests_stores.proofs.matching.reasons.are_within.Given as goal

abbrev pub invariant-loop-edge : goal.invariant-loop-edge
invariant-loop-edge l = AreNumbered l.nodes → All (HasEnds l.nodes) (take l.edge-index l.edges)
