use Rattle.std.proofs.Common.{List, sym, ap, ◌∙◌}
use Rattle.std.specs.Option.{option_copied}
use Rattle.cq_board.specs.Pool.{PendingQuery}
use Rattle.cq_board.specs.Named.{query_named}
use Rattle.cq_board.proofs.ViewSeats.{query-nowhere, query-at-place}
use Rattle.cq_board.specs.Steps.Stores.{pending_of}
use Rattle.cq_board.proofs.Stored.{content_of, same-stores}
use Rattle.cq_board.proofs.board.Board.query.Goals as goal

pub returns-in_err-place_of : goal.returns-in_err-place_of
returns-in_err-place_of g c =
    let stores = content_of c.stores.inside in
    ap option_copied c.from_residual.ensures
    ∙ sym (query-nowhere c.args.name.now stores.seats stores.grounded (sym c.place_of.ensures ∙ c.in_err-place_of.was))
    ∙ ap (λ (pending : List PendingQuery). query_named c.args.name.now pending) (ap pending_of c.stores.view_is ∙ c.stores-stores.ensures.pending)

pub returns : goal.returns
returns g c =
    let stores = content_of c.stores.inside in
    c.query.ensures
    ∙ query-at-place stores c.args.self.now.tables.rows (same-stores c.stores.view_is c.stores-stores.ensures.kept) c.args.name.now c.in_ok-place_of.field-0 (sym c.place_of.ensures ∙ c.in_ok-place_of.was)
    ∙ ap (λ (pending : List PendingQuery). query_named c.args.name.now pending) (ap pending_of c.stores.view_is ∙ c.stores-stores.ensures.pending)
