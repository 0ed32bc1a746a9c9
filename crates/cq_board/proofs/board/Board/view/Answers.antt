use Rattle.std.proofs.Common.{List, sym, ap, ◌∙◌, map, Some}
use Rattle.std.specs.Prelude.{option_map}
use Rattle.std.specs.List.{slice_get}
use Rattle.std.specs.Option.{option_and_then}
use Rattle.cq_ground.specs.Grounding.{groundings_of}
use Rattle.cq_match.specs.Matched.{is_matched}
use Rattle.cq_board.specs.Pool.{PendingQuery}
use Rattle.cq_board.specs.Board.{place_of}
use Rattle.cq_board.specs.Named.{query_named, matched_named}
use Rattle.cq_board.proofs.ViewSeats.{made-nowhere, query-nowhere, query-at-place, groundings-at-place, matched-at-place, finding-there}
use Rattle.cq_board.specs.Steps.Stores.{pending_of}
use Rattle.cq_board.proofs.Stored.{content_of, same-stores}
use Rattle.cq_board.proofs.board.Board.view.Goals as goal
use Rattle.cq_board.proofs.board.Board.view.Goals.{in_default-via-in-Some+in_default, in_default-via-in_default}

pub returns-in_err-place-clause-query : goal.returns-in_err-place-clause-query
returns-in_err-place-clause-query g c =
    let stores = content_of c.stores.inside in
    ap (option_map (λ view. view.query.now)) c.from_residual.ensures
    ∙ sym (query-nowhere c.args.name.now stores.seats stores.grounded (sym c.place_of.ensures ∙ c.in_err-place.was))
    ∙ ap (λ (pending : List PendingQuery). query_named c.args.name.now pending) (ap pending_of c.stores.view_is ∙ c.stores-stores.ensures.pending)

pub returns-in_err-place-clause-matched : goal.returns-in_err-place-clause-matched
returns-in_err-place-clause-matched g c =
    let stores = content_of c.stores.inside in
    ap (option_map (λ view. view.matched)) c.from_residual.ensures
    ∙ ap (option_map (is_matched stores.matcher.nodes stores.matcher.edges)) (sym (sym c.place_of.ensures ∙ c.in_err-place.was))
    ∙ sym (matched-at-place c.args.self.now stores (same-stores c.stores.view_is c.stores-stores.ensures.kept) c.args.name.now)
    ∙ ap (λ (pending : List PendingQuery). matched_named c.args.name.now (record c.args.self.now { pending = pending })) (ap pending_of c.stores.view_is ∙ c.stores-stores.ensures.pending)

pub returns-in_err-place-clause-groundings : goal.returns-in_err-place-clause-groundings
returns-in_err-place-clause-groundings g c =
    let stores = content_of c.stores.inside in
    let rows = c.args.self.now.tables.rows in
    ap (option_map (λ view. view.groundings.now)) c.from_residual.ensures
    ∙ sym (made-nowhere (λ q. groundings_of q.body rows) c.args.name.now stores.seats stores.grounded (sym c.place_of.ensures ∙ c.in_err-place.was))
    ∙ ap (λ (pending : List PendingQuery). option_and_then (slice_get (map (λ p. groundings_of p.query.body rows) pending)) (place_of c.args.name.now pending)) (ap pending_of c.stores.view_is ∙ c.stores-stores.ensures.pending)

pub unreachable-requires : goal.unreachable-requires
unreachable-requires g c =
    let stores = content_of c.stores.inside in
    let kept = same-stores c.stores.view_is c.stores-stores.ensures.kept in
    let at = sym c.place_of.ensures ∙ c.in_ok-place.was in
    elim c.in_default.branch [
      | in_default-via-in-Some+in_default w ↦
          finding-there stores c.args.self.now.tables.rows kept c.args.name.now c.in_ok-place.place at (λ f. f.groundings) w.in_default.ensures'
      | in_default-via-in_default w ↦
          finding-there stores c.args.self.now.tables.rows kept c.args.name.now c.in_ok-place.place at (λ f. f.query) w.in_default.ensures
    ]

pub returns-clause-query : goal.returns-clause-query
returns-clause-query g c =
    let stores = content_of c.stores.inside in
    c.in-Some-Some.ensures
    ∙ query-at-place stores c.args.self.now.tables.rows (same-stores c.stores.view_is c.stores-stores.ensures.kept) c.args.name.now c.in_ok-place.place (sym c.place_of.ensures ∙ c.in_ok-place.was)
    ∙ ap (λ (pending : List PendingQuery). query_named c.args.name.now pending) (ap pending_of c.stores.view_is ∙ c.stores-stores.ensures.pending)

pub returns-clause-matched : goal.returns-clause-matched
returns-clause-matched g c =
    let stores = content_of c.stores.inside in
    ap Some c.is_matched-matched.ensures.exact
    ∙ ap (option_map (is_matched stores.matcher.nodes stores.matcher.edges)) (sym (sym c.place_of.ensures ∙ c.in_ok-place.was))
    ∙ sym (matched-at-place c.args.self.now stores (same-stores c.stores.view_is c.stores-stores.ensures.kept) c.args.name.now)
    ∙ ap (λ (pending : List PendingQuery). matched_named c.args.name.now (record c.args.self.now { pending = pending })) (ap pending_of c.stores.view_is ∙ c.stores-stores.ensures.pending)

pub returns-clause-groundings : goal.returns-clause-groundings
returns-clause-groundings g c =
    let stores = content_of c.stores.inside in
    let rows = c.args.self.now.tables.rows in
    c.in-Some-Some.ensures'
    ∙ groundings-at-place stores rows (same-stores c.stores.view_is c.stores-stores.ensures.kept) c.args.name.now c.in_ok-place.place (sym c.place_of.ensures ∙ c.in_ok-place.was)
    ∙ ap (λ (pending : List PendingQuery). option_and_then (slice_get (map (λ p. groundings_of p.query.body rows) pending)) (place_of c.args.name.now pending)) (ap pending_of c.stores.view_is ∙ c.stores-stores.ensures.pending)
