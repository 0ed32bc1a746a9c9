use Rattle.std.proofs.Common.{ap}
use Rattle.cq_room.proofs.Marked.{behind_edits}
use Rattle.cq_room.proofs.session.Session.is_behind.Goals as goal

pub returns : goal.returns
returns g c = behind_edits c.begins.result c.self.inside.trail c.args.trail.now c.args.self.now.history (ap (λ k. k.history) c.self.view_is) c.self.invariant.0 c.begins.ensures.one
