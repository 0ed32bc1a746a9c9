use Rattle.std.proofs.Common.{length, take}
use Rattle.cq_groups.specs.Groups.{AreLabels}
use Rattle.cq_groups.proofs.join_all.Given as goal

-- the labels by the edges so far
abbrev pub invariant-loop-edge : goal.invariant-loop-edge
invariant-loop-edge l = AreLabels (take l.edge-index l.edges) (length l.initial.labels) l.labels
