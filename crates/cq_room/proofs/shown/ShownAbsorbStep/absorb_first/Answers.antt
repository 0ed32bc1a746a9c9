use Rattle.std.proofs.Common.{rules, ◌≡◌, ◌+◌, length, subst, Some, None}
use mathlib.Core.List.{IsPrefix}
use Rattle.cq_room.specs.Steps.Marks.{Ends}
use Rattle.cq_room.proofs.Marked.{accepted_cut, accepted_edit, follows_edit, follows_cut}
use Rattle.cq_room.proofs.shown.ShownAbsorbStep.absorb_first.Goals as goal

pub invariant_of-self : goal.invariant_of-self
invariant_of-self g c = let xs = c.self.inside.trail in let ys = c.operation.inside.trail in
    let end : Ends ys None = subst (λ o. Ends ys o) c.in-None.is c.operation.invariant in
    let next : IsPrefix xs ys × (length ys ≡ length xs + 1) = c.if-not-is_followed_by.ensures in
    rw (c.again.ensures) (
      follows_cut g.L.Live.after g.N.RoomName.opening xs ys (g.L.Live.content c.self.inside.state) next end c.self.invariant.0,
      accepted_cut g.L.Live.after g.L.Live.why g.N.RoomName.opening xs ys next end c.self.invariant.1,
    )

pub invariant_of-self-in-Ok-None : goal.invariant_of-self-in-Ok-None
invariant_of-self-in-Ok-None g c = let xs = c.self.inside.trail in let ys = c.operation.inside.trail in
    let e = c.in-Some.entry in let was = g.L.Live.content c.self.inside.state in
    let end : Ends ys (Some e) = subst (λ o. Ends ys o) c.in-Some.is c.operation.invariant in
    let next : IsPrefix xs ys × (length ys ≡ length xs + 1) = c.if-not-is_followed_by.ensures in
    let now : g.L.Live.content c.admit.new.self ≡ g.L.Live.after was e.edit = search rules in
    let none : g.L.Live.why was e.edit ≡ None = search rules in
    rw (c.again-in-Ok-None.ensures) (
      follows_edit g.L.Live.after g.N.RoomName.opening xs ys e was (g.L.Live.content c.admit.new.self) next end now c.self.invariant.0,
      accepted_edit g.L.Live.after g.L.Live.why g.N.RoomName.opening xs ys e was next end none c.self.invariant.0 c.self.invariant.1,
    )
