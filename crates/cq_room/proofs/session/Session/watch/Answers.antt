use Rattle.std.proofs.Common.{rules, ◌≡◌, List, length, ap, sym, ◌∙◌, subst}
use mathlib.Core.List.{IsPrefix}
use Rattle.cq_room.specs.declared.mark.Mark.{Mark}
use Rattle.cq_room.specs.Marks.{WereAccepted, entries_in, fresh_in}
use Rattle.cq_room.proofs.Marked.{prefix_publications}
use Rattle.cq_room.proofs.Settled.{none-left}
use Rattle.cq_room.proofs.session.Session.watch.Goals as goal

pub invariant_of-result : goal.invariant_of-result
invariant_of-result g c = let marks = c.again-shown.ensures ∙ c.trail.ensures.marks in
    let none : length (fresh_in c.again-shown.result) ≡ 0 = cc in (
      none-left (fresh_in c.again-shown.result) none,
      sym (marks ∙ ap (λ s. s.marks) c.get.ensures),
      subst (λ (ms : List (Mark g.row.L-Edit.Denot)). WereAccepted g.L.Live.after g.L.Live.why g.N.RoomName.opening (entries_in ms)) (sym marks) c.trail.ensures.accepted,
    )

pub returns-then-begins-clause-history : goal.returns-then-begins-clause-history
returns-then-begins-clause-history g c = let p : IsPrefix c.self.inside.trail c.again-shown.result = search rules in
    rw (← c.self.view_is) (prefix_publications c.self.inside.trail c.again-shown.result p)

pub returns-then-begins-clause-number : goal.returns-then-begins-clause-number
returns-then-begins-clause-number g c = ap (λ s. s.number) c.self.view_is

pub returns-then-begins-clause-known : goal.returns-then-begins-clause-known
returns-then-begins-clause-known g c = ap (λ s. s.known) c.self.view_is

pub returns-in-Err-clause-refused : goal.returns-in-Err-clause-refused
returns-in-Err-clause-refused g c = c.self.view_is
