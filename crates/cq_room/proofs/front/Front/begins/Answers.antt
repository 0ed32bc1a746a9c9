use Rattle.cq_room.proofs.Marked.{one_begins}
use Rattle.cq_room.proofs.front.Front.begins.Goals as goal

pub returns : goal.returns
returns g c = rw (← c.self.view_is, ← c.other.view_is) (one_begins c.begins.result c.self.inside.trail c.other.inside.trail c.self.invariant.0 c.other.invariant.0 c.begins.ensures.one c.begins.ensures.longer)
