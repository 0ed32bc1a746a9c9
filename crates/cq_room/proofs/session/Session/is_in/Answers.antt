use Rattle.std.proofs.Common.{ap}
use Rattle.cq_room.proofs.Marked.{known_edits}
use Rattle.cq_room.proofs.session.Session.is_in.Goals as goal

pub returns : goal.returns
returns g c = known_edits c.begins.result c.self.inside.known c.args.entered.now c.args.self.now.known (ap (λ k. k.known) c.self.view_is) c.begins.ensures.one
