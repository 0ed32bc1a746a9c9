use Rattle.std.proofs.Common.{List, sym, ap, ◌∙◌, Some}
use Rattle.std.specs.Prelude.{option_map}
use Rattle.cq_match.specs.Matched.{is_matched}
use Rattle.cq_board.specs.Pool.{PendingQuery}
use Rattle.cq_board.specs.Named.{matched_named}
use Rattle.cq_board.proofs.ViewSeats.{matched-at-place}
use Rattle.cq_board.specs.Steps.Stores.{pending_of}
use Rattle.cq_board.proofs.Stored.{content_of, same-stores}
use Rattle.cq_board.proofs.board.Board.is_matched.Goals as goal

pub returns-in_err-place_of : goal.returns-in_err-place_of
returns-in_err-place_of g c =
    let stores = content_of c.stores.inside in
    c.from_residual.ensures
    ∙ ap (option_map (is_matched stores.matcher.nodes stores.matcher.edges)) (sym (sym c.place_of.ensures ∙ c.in_err-place_of.was))
    ∙ sym (matched-at-place c.args.self.now stores (same-stores c.stores.view_is c.stores-stores.ensures.kept) c.args.name.now)
    ∙ ap (λ (pending : List PendingQuery). matched_named c.args.name.now (record c.args.self.now { pending = pending })) (ap pending_of c.stores.view_is ∙ c.stores-stores.ensures.pending)

pub returns : goal.returns
returns g c =
    let stores = content_of c.stores.inside in
    ap Some c.is_matched.ensures.exact
    ∙ ap (option_map (is_matched stores.matcher.nodes stores.matcher.edges)) (sym (sym c.place_of.ensures ∙ c.in_ok-place_of.was))
    ∙ sym (matched-at-place c.args.self.now stores (same-stores c.stores.view_is c.stores-stores.ensures.kept) c.args.name.now)
    ∙ ap (λ (pending : List PendingQuery). matched_named c.args.name.now (record c.args.self.now { pending = pending })) (ap pending_of c.stores.view_is ∙ c.stores-stores.ensures.pending)
