use Rattle.std.proofs.Common.{rules, ◌≡◌, Bool, List, length, sym, ap, ◌∙◌}
use Rattle.std.specs.Prelude.{filter}
use Rattle.std.proofs.lemmas.Iterator.Consumers.{count_from_yields_List, YieldsList-from_filter, YieldsList-from_rest}
use Rattle.std.proofs.lemmas.List.{length-map}
use Rattle.cq_match.specs.Matched.{is_matched}
use Rattle.cq_roster.specs.Roster.{SeatRecord}
use Rattle.cq_board.specs.Pool.{PendingQuery}
use Rattle.cq_board.specs.Named.{matched_names}
use Rattle.cq_board.specs.Steps.Stores.{pending_of}
use Rattle.cq_board.proofs.ViewSeats.{matched-seats}
use Rattle.cq_board.proofs.Stored.{content_of, same-stores}
use Rattle.cq_board.proofs.board.Board.matched_count.Goals as goal

pub returns : goal.returns
returns g c =
    let pool = c.args.self.now in
    let stores = content_of c.stores.inside in
    let is_there : SeatRecord → Bool = λ s. is_matched stores.matcher.nodes stores.matcher.edges s.place in
    let kept = same-stores c.stores.view_is c.stores-stores.ensures.kept in
    let counted : c.count.result ≡ length (filter is_there stores.seats) =
    count_from_yields_List _ c.count.result c.count.ensures.ran
    (YieldsList-from_filter _ is_there (YieldsList-from_rest stores.seats (c.filter.ensures.source ∙ c.iter.ensures)) c.filter.ensures.closure (λ x b q k. search rules)) in
    counted ∙ sym (ap length (matched-seats pool stores kept) ∙ length-map (filter is_there stores.seats) (λ s. s.name))
    ∙ ap (λ (pending : List PendingQuery). length (matched_names (record pool { pending = pending }))) (ap pending_of c.stores.view_is ∙ c.stores-stores.ensures.pending)
