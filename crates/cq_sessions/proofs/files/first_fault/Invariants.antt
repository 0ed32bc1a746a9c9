use Rattle.std.proofs.Common.{◌<◌, length, take}
use Rattle.cq_sessions.specs.Steps.Rooms.{IsFirstOf}
use Rattle.cq_sessions.proofs.files.first_fault.Given as goal

abbrev pub invariant-loop-left : goal.invariant-loop-left
invariant-loop-left g l = IsFirstOf (length l.lefts < l.count) (take l.left-index l.lefts) l.first
