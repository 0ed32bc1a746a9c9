use Rattle.std.proofs.Common.{◌≡◌, map, take}
use Rattle.std.specs.Prelude.{not}
use Rattle.cq_choose.proofs.reach.idle_of.Given as goal

abbrev pub invariant-loop-is_reached : goal.invariant-loop-is_reached
invariant-loop-is_reached g l = l.idle.items ≡ map not (take l.is_reached-index l.reached)
