use Rattle.std.proofs.Common.{length, ap, sym, ◌∙◌, subst}
use Rattle.cq_desk.specs.History.{edits_of}
use Rattle.cq_room.specs.Marks.{WereAccepted}
use Rattle.cq_room.proofs.Marked.{accepted_whole, edits_whole}
use Rattle.cq_room.proofs.session.Session.seen.Goals as goal

pub returns-clause-count : goal.returns-clause-count
returns-clause-count g c = c.count.ensures ∙ (ap length (sym (edits_whole c.self.inside.trail c.self.invariant.0)) ∙ ap (λ k. length (edits_of k.history)) c.self.view_is)

pub returns-clause-accepted : goal.returns-clause-accepted
returns-clause-accepted g c = subst (λ k. WereAccepted g.L.Live.after g.L.Live.why g.N.RoomName.opening (edits_of k.history)) c.self.view_is (accepted_whole g.L.Live.after g.L.Live.why g.N.RoomName.opening c.self.inside.trail c.self.invariant.0 c.self.invariant.1)
