use Rattle.std.proofs.lemmas.Result.{IfOk-weaker}
use Rattle.cq_room.proofs.CallerLemmas.{front_unrenewed}
use Rattle.cq_sessions.proofs.Clients.{submission_of, replies_of_board}
use Rattle.cq_sessions.proofs.client.submit_by.Goals as goal

pub returns : goal.returns
returns g c = let e = c.in-Ok.ensures.receipt in
    IfOk-weaker c.published.result _ _
    (λ submission p. rw p.0 (submission_of g.N.RoomName.opening g.N.RoomName.limit c.args.session.now c.submit_in.new.session c.args.asked.items c.in-Ok.receipt.submitted.end c.in-Ok.receipt.front c.in-Ok.receipt.submitted.replies.items submission.published
    c.requires.opened e.front e.tried e.seen
    (replies_of_board g.L.Live.after g.L.Live.why g.N.RoomName.opening g.N.RoomName.limit c.args.asked.items c.in-Ok.receipt.front c.in-Ok.receipt.submitted.replies.items c.requires.takes
    (front_unrenewed g.L.Live.after g.L.Live.why g.N.RoomName.opening g.N.RoomName.limit g.N.RoomName.renews c.args.asked.items c.in-Ok.receipt.front c.in-Ok.receipt.submitted.replies.items c.requires.unrenewed e.replies))
    e.last e.heard p.1)) c.published.ensures
