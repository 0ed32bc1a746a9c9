use Rattle.std.proofs.Common.{◌+◌, ◌≤◌, [], ◌∷◌, length, ap, subst, ◌∙◌, arith}
use Rattle.cq_desk.specs.History.{edits_of}
use Rattle.cq_desk.specs.Replies.{accepted}
use Rattle.cq_room.specs.Marks.{entries_in}
use Rattle.cq_room.specs.Receipts.{AreReplies}
use Rattle.cq_room.proofs.Checkpoints.{begins_more, longer, replies_of, since_on, since_within}
use Rattle.cq_room.proofs.Receiving.{answered, numbered, passed_at, shown_within}
use Rattle.cq_room.proofs.room.LockedDesk.submit_past.Goals as goal

pub invariant_of-self-2 : goal.invariant_of-self-2
invariant_of-self-2 g c = let e = c.in_ok-submitted.ensures.submission in let inv = c.self.invariant in let old = c.self.inside.desk in let now = c.submit_past.new.self in (
  ap (λ o. o ∷ []) e.opening ∙ inv.0,
  e.limit ∙ inv.1,
  c.await_entries.ensures,
  since_on g.N.RoomName.renews old.base now.base (length old.journal) (length now.journal) e.base (longer old.journal now.journal _ e.journal) inv.3,
)

pub await_entries-requires : goal.await_entries-requires
await_entries-requires g c = let e = c.in_ok-submitted.ensures.submission in let inv = c.self.invariant in let k = c.self.inside in let old = k.desk in let now = c.submit_past.new.self in
    let within = since_within g.N.RoomName.renews old.base (length old.journal) inv.3 in let same = ap length inv.2 in let base = e.base in
    record { begins = begins_more (entries_in k.entered) old.journal now.journal _ inv.2 e.journal; base = omega (arith, within, same, base) }

pub returns-clause-replies : goal.returns-clause-replies
returns-clause-replies g c = let e = c.in_ok-submitted.ensures.submission in let s = c.in_ok-submitted.submitted in let old = c.self.inside.desk in let inv = c.self.invariant in
    subst (λ v. AreReplies g.L.Live.after g.L.Live.why g.N.RoomName.opening g.N.RoomName.limit g.N.RoomName.renews v.journal c.args.asked.items s.replies.items) c.self.view_is
    (replies_of g.L.Live.after g.L.Live.why g.N.RoomName.opening g.N.RoomName.limit g.N.RoomName.renews (g.P.Publisher.opening old.publisher) old.limit old.base old.journal c.args.asked.items s.replies.items inv.0 inv.1 inv.3 e.replies)

pub returns-clause-front : goal.returns-clause-front
returns-clause-front g c = let e = c.in_ok-submitted.ensures.submission in let s = c.in_ok-submitted.submitted in let old = c.self.inside.desk in let now = c.submit_past.new.self in let asked = c.args.asked.items in
    let right = numbered g.L.Live.after g.L.Live.why (g.P.Publisher.opening old.publisher) (old.base + old.limit) c.number.result old.journal asked s.replies.items e.replies in
    let at = answered c.number.result old.journal now.journal asked s.replies.items s.end (g.P.Publisher.shown now.publisher) c.front_at-front.result _ _ e.journal right e.count e.shown e.last c.front_at-front.ensures in
    rw (← c.number.ensures, ← c.self.view_is) at

pub returns-clause-passed : goal.returns-clause-passed
returns-clause-passed g c = let e = c.in_ok-submitted.ensures.submission in let s = c.in_ok-submitted.submitted in let old = c.self.inside.desk in let now = c.submit_past.new.self in
    let p = c.publisher.result.now in let h = c.publisher.ensures in
    let within : length (edits_of (g.P.Publisher.shown old.publisher)) ≤ length old.journal =
    subst (λ q. length (edits_of (g.P.Publisher.shown q)) ≤ length old.journal) h.same (shown_within (g.P.Publisher.shown p) (g.P.Publisher.history p) (g.P.Publisher.pending p) old.journal h.front h.told) in
    passed_at g.G.Checkpoint.passed c.args.gate.now c.submit_past.new.gate c.number.result old.journal now.journal (accepted c.args.asked.items s.replies.items) s.end (length (edits_of (g.P.Publisher.shown old.publisher))) e.journal within e.count c.in_ok-submitted.ensures.passed
