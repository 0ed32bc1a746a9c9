use Rattle.std.proofs.Common.{length}
use Rattle.cq_sessions.specs.Steps.Settings.{SetTo}
use Rattle.cq_sessions.proofs.setting.set_all.Given as goal

abbrev pub decreases-loop-line : goal.decreases-loop-line
decreases-loop-line g l = length l.rest

abbrev pub invariant-loop-line : goal.invariant-loop-line
invariant-loop-line g l = SetTo l.bytes l.rest l.heading l.setup l.sheet
