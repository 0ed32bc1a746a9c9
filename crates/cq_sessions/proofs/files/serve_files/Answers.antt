use Rattle.std.proofs.Common.{◌≡◌, ◌≤◌, length, map, sym, ap, subst, ◌∙◌, arith}
use Rattle.std.proofs.lemmas.Result.{IfOk-weaker}
use Rattle.cq_sessions.specs.Steps.Rooms.{FilesDone}
use Rattle.cq_sessions.proofs.Faults.{none-missing}
use Rattle.cq_sessions.proofs.Rooms.{files_done, map_map, length_map}
use Rattle.cq_sessions.proofs.files.serve_files.Goals as goal

pub returns-in-None : goal.returns-in-None
returns-in-None g c =
    let opening = g.C.Client.opening in let limit = g.C.Client.limit in let known = g.C.Client.known in
    let seats = c.in_ok-seats.field-0.items in let lefts = c.in_ok-lefts.lefts.items in
    let given = c.in_ok-seats.ensures in
    let same : length seats ≡ length c.args.clients.items = sym (length_map (λ seat. seat.client) seats) ∙ ap length given.clients in
    let many : length seats ≤ length lefts = let a = none-missing _ _ _ c.in-None.ensures in let b = c.len-count.ensures in let d = ap length c.deref.ensures.value in omega (arith, same, a, b, d) in
    IfOk-weaker c.take_apart.result _ _
    (λ served done. subst (λ z. FilesDone c.args.form opening limit z (map (λ file. file.items) c.args.files.now) served.sheets.items (map known served.clients.items))
    (sym (map_map known (λ seat. seat.client) seats) ∙ ap (map known) given.clients)
    (subst (λ z. FilesDone c.args.form opening limit (map (λ seat. known seat.client) seats) z served.sheets.items (map known served.clients.items)) given.files
    (files_done c.args.form opening limit known (λ seat. seat.form) (λ seat. seat.client) (λ seat. seat.file.now) seats c.args.clients.items lefts served.clients.items served.sheets.items given.forms c.in_ok-lefts.ensures many done)))
    c.take_apart.ensures
