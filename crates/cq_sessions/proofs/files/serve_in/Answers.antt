use Rattle.std.proofs.Common.{map, sym, subst, ◌∙◌}
use mathlib.Core.List.{map-id}
use Rattle.cq_sessions.specs.Steps.Clients.{opened_pool}
use Rattle.cq_sessions.specs.Steps.Rooms.{AllServed}
use Rattle.cq_sessions.proofs.files.serve_in.Goals as goal

pub returns : goal.returns
returns g c =
    let served = c.in_ok-clients-2.field-0 in
    subst (λ z. AllServed c.args.form (opened_pool g.N.RoomName.opening) g.N.RoomName.limit c.args.sheet.now c.args.rest.now c.serve_all.new.sheet (map (λ file. file.items) c.args.files.now) served.sheets.items z)
    (map-id served.clients.items ∙ sym c.in_ok-sessions_of.ensures) c.in_ok-clients-2.ensures
