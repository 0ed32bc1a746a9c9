use Rattle.std.proofs.Common.{◌++◌, map, ap, subst, ◌∙◌}
use Rattle.std.specs.Prelude.{codes, string_bytes}
use Rattle.cq_sessions.specs.Script.{replies_from, sheets_from}
use Rattle.cq_desk.specs.History.{edits_of}
use Rattle.cq_desk.specs.Replies.{journal_edits}
use Rattle.cq_sessions.specs.Steps.Clients.{opened_pool}
use Rattle.cq_sessions.specs.Steps.Rooms.{PutEntries, numbers_told}
use Rattle.cq_sessions.proofs.Rooms.{room_served, newcomers_know}
use Rattle.cq_sessions.proofs.files.serve_room.Goals as goal

pub serve_in-requires-clause-fresh : goal.serve_in-requires-clause-fresh
serve_in-requires-clause-fresh g c κs live = ap (map (λ session. journal_edits (edits_of session.history))) c.in-Ok.ensures.sessions ∙ newcomers_know c.args.parts.sessions c.args.files.now c.requires.seats

pub returns : goal.returns
returns g c =
    let served = c.in_ok-clients.field-0 in
    room_served c.args.form c.args.parts.opening (opened_pool g.N.RoomName.opening) c.args.parts.limit g.N.RoomName.limit c.args.sheet.now c.args.rest.now c.serve_in.new.sheet (map (λ file. file.items) c.args.files.now)
    served.sheets.items (map (λ session. journal_edits (edits_of session.history)) served.clients.items) (string_bytes c.args.page.now) (string_bytes c.close.new.page) (string_bytes c.put_behind.new.page)
    (ap opened_pool c.requires.opening) c.requires.limit c.in_ok-clients.ensures
    (subst (λ z. PutEntries (map (λ session. journal_edits (edits_of session.history)) served.clients.items) (numbers_told c.serve_in.new.sheet.numbers (map (λ sheet. sheet.numbers) z)) (string_bytes c.args.page.now) (string_bytes c.close.new.page)) c.deref.ensures.value c.in_ok-close.ensures)
    (c.in_ok-put_behind.ensures ∙ ap (λ z. string_bytes c.close.new.page ++ (codes "publish\nshow\n" ++ replies_from (codes "setup") 1 c.serve_in.new.sheet.replies ++ sheets_from 0 (map (λ sheet. sheet.replies) z))) c.deref-2.ensures.value)
