use Rattle.std.proofs.Common.{◌≡◌, ◌+◌, length}
use mathlib.Core.List.{IsPrefix}
use Rattle.cq_room.specs.Marks.{entries_in}
use Rattle.cq_room.proofs.room.catch_up.Given as goal

abbrev pub invariant-loop-place : goal.invariant-loop-place
invariant-loop-place g l = IsPrefix (entries_in l.entered) l.desk.journal × (length (entries_in l.entered) ≡ l.desk.base + l.place)
