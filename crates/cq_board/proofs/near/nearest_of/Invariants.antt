use Rattle.std.proofs.Common.{map, take}
use Rattle.std.specs.List.{flat_map}
use Rattle.cq_board.specs.Near.{AreNearest}
use Rattle.cq_board.specs.Steps.Nearest.{head_read, miss_at}
use Rattle.cq_board.proofs.near.nearest_of.Given as goal

-- the nearest of the heads so far are kept
abbrev pub invariant-loop-head : goal.invariant-loop-head
invariant-loop-head g l = AreNearest (flat_map (miss_at l.wanted) (map head_read (take l.head-index l.heads))) l.kept.items
