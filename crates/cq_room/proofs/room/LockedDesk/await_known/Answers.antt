use Rattle.cq_room.specs.Marks.{entries_in}
use Rattle.cq_room.proofs.Checkpoints.{begins_as}
use Rattle.cq_room.proofs.room.LockedDesk.await_known.Goals as goal

pub knows-requires : goal.knows-requires
knows-requires g c = let k = c.self.inside in begins_as (entries_in k.entered) k.desk.journal c.self.invariant.2
