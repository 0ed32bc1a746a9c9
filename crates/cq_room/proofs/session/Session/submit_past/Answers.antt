use Rattle.std.proofs.Common.{◌≡◌, ◌++◌, ap, subst, sym, ◌∙◌, rules}
use mathlib.Core.List.{IsPrefix}
use Rattle.cq_desk.specs.History.{edits_of}
use Rattle.cq_desk.specs.Replies.{accepted, entries_by}
use Rattle.cq_room.specs.Receipts.{AreReplies}
use Rattle.cq_room.proofs.Receiving.{at_front, before_is, counted_at, where_none, where_some}
use Rattle.cq_room.proofs.session.Session.submit_past.Goals as goal

pub returns-clause-receipt : goal.returns-clause-receipt
returns-clause-receipt g c = let e = c.in_ok-receipt.ensures in let r = c.in_ok-receipt.receipt in let asked = c.args.asked.items in let rs = r.submitted.replies.items in
    let before = c.deref_mut.result.now.journal in let author = c.args.self.now.number in
    let at = at_front before author asked rs r.submitted.end r.front e.front in
    let knows = c.hear_any.ensures.known ∙ (ap (λ s. s.known) e.session ∙ e.journal) in
    record {
      front = counted_at before author asked rs r.submitted.end r.front e.front;
      tried = e.tried;
      seen = where_some _ _ r.front (λ f p. subst (λ es. IsPrefix (edits_of c.args.self.now.history) es) (before_is before author asked rs p.0 f p.1) e.seen) at;
      replies = where_some _ _ r.front (λ f p. subst (λ es. AreReplies g.L.Live.after g.L.Live.why g.N.RoomName.opening g.N.RoomName.limit g.N.RoomName.renews es asked rs) (before_is before author asked rs p.0 f p.1) e.replies) at;
      last = where_some _ _ r.front (λ f p. subst (λ es. edits_of f ≡ es ++ entries_by author (accepted asked rs)) (before_is before author asked rs p.0 f p.1) p.1.ends) at;
      publication = where_some _ _ r.front (λ f p. p.1.last) at;
      numbered = where_some _ _ r.front (λ f p. p.1.numbered) at;
      unpublished = where_none _ r.front (before, e.seen, e.replies);
      heard = search rules;
      entered = record { before = before; knew = e.known; seen = e.seen; told = e.replies; now = knows };
      known = where_some _ _ r.front (λ f p. p.1.ends ∙ sym knows) at;
    }
