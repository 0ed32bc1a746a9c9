use Rattle.std.proofs.Common.{take}
use Rattle.std.specs.List.{All}
use Rattle.cq_tests_stores.specs.Guarded.{HasEnds}
use Rattle.cq_tests_stores.proofs.matching.listed.have_ends.Given as goal

abbrev pub invariant-loop-edge : goal.invariant-loop-edge
invariant-loop-edge l = All (HasEnds l.nodes) (take l.edge-index l.edges)
