use Rattle.std.proofs.Common.{take}
use Rattle.cq_match.specs.Steps.Places.{AreSlots}
use Rattle.cq_match.proofs.matched.slots_of.Given as goal

abbrev pub invariant-loop-place : goal.invariant-loop-place
invariant-loop-place g l = AreSlots (take l.place l.ranked) l.starts.items l.owners.items
