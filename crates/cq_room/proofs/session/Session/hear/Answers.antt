use Rattle.cq_room.proofs.Marked.{prefix_publications}
use Rattle.cq_room.proofs.session.Session.hear.Goals as goal

pub returns-clause-own : goal.returns-clause-own
returns-clause-own g c = rw (← c.self.view_is) (prefix_publications c.self.inside.trail c.longer.result c.longer.ensures.this)

pub returns-clause-told : goal.returns-clause-told
returns-clause-told g c = rw (← c.front.view_is) (prefix_publications c.front.inside.trail c.longer.result c.longer.ensures.that)
