use Rattle.std.proofs.Common.{List, sym, ap, ◌∙◌, map}
use Rattle.std.specs.List.{slice_get}
use Rattle.std.specs.Option.{option_copied, option_and_then}
use Rattle.cq_ground.specs.Grounding.{groundings_of}
use Rattle.cq_board.specs.Pool.{PendingQuery}
use Rattle.cq_board.specs.Board.{place_of}
use Rattle.cq_board.proofs.ViewSeats.{made-nowhere, groundings-at-place}
use Rattle.cq_board.specs.Steps.Stores.{pending_of}
use Rattle.cq_board.proofs.Stored.{content_of, same-stores}
use Rattle.cq_board.proofs.board.Board.groundings.Goals as goal

pub returns-in_err-place_of : goal.returns-in_err-place_of
returns-in_err-place_of g c =
    let stores = content_of c.stores.inside in
    let rows = c.args.self.now.tables.rows in
    ap option_copied c.from_residual.ensures
    ∙ sym (made-nowhere (λ q. groundings_of q.body rows) c.args.name.now stores.seats stores.grounded (sym c.place_of.ensures ∙ c.in_err-place_of.was))
    ∙ ap (λ (pending : List PendingQuery). option_and_then (slice_get (map (λ p. groundings_of p.query.body rows) pending)) (place_of c.args.name.now pending)) (ap pending_of c.stores.view_is ∙ c.stores-stores.ensures.pending)

pub returns : goal.returns
returns g c =
    let stores = content_of c.stores.inside in
    let rows = c.args.self.now.tables.rows in
    c.groundings.ensures
    ∙ groundings-at-place stores rows (same-stores c.stores.view_is c.stores-stores.ensures.kept) c.args.name.now c.in_ok-place_of.field-0 (sym c.place_of.ensures ∙ c.in_ok-place_of.was)
    ∙ ap (λ (pending : List PendingQuery). option_and_then (slice_get (map (λ p. groundings_of p.query.body rows) pending)) (place_of c.args.name.now pending)) (ap pending_of c.stores.view_is ∙ c.stores-stores.ensures.pending)
