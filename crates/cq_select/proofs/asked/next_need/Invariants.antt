use Rattle.std.proofs.Common.{◌+◌, ◌-◌, vec_len}
use Rattle.cq_select.specs.Steps.Facts.{IsScanning}
use Rattle.cq_select.proofs.asked.next_need.Given as goal

abbrev pub invariant-loop-trail : goal.invariant-loop-trail
invariant-loop-trail g l = IsScanning l.supply l.wanted l.trail

abbrev pub decreases-loop-trail : goal.decreases-loop-trail
decreases-loop-trail g l = vec_len l.trail.frames + 1 - l.trail.choice.list
