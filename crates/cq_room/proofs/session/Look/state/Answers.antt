use Rattle.std.proofs.Common.{ap, ◌∙◌, subst}
use Rattle.cq_desk.specs.History.{edits_of}
use Rattle.cq_room.specs.Marks.{Leaves, WereAccepted, entries_in}
use Rattle.cq_room.proofs.Marked.{accepted_whole, leaves_whole}
use Rattle.cq_room.proofs.session.Look.state.Goals as goal

pub returns-clause-leaves : goal.returns-clause-leaves
returns-clause-leaves g c = let n = c.self.invariant in let m = ap (λ s. s.marks) c.get.ensures ∙ n.1 in
    let l : Leaves g.L.Live.after g.N.RoomName.opening (entries_in c.self.inside.trail) (g.L.Live.content c.state.result.now) = subst (λ ms. Leaves g.L.Live.after g.N.RoomName.opening (entries_in ms) (g.L.Live.content c.state.result.now)) m c.state.ensures.leaves in
    rw (← c.self.view_is) (leaves_whole g.L.Live.after g.N.RoomName.opening c.self.inside.trail (g.L.Live.content c.state.result.now) n.0 l)

pub returns-clause-accepted : goal.returns-clause-accepted
returns-clause-accepted g c = let n = c.self.invariant in
    subst (λ k. WereAccepted g.L.Live.after g.L.Live.why g.N.RoomName.opening (edits_of k.history)) c.self.view_is (accepted_whole g.L.Live.after g.L.Live.why g.N.RoomName.opening c.self.inside.trail n.0 n.2)
