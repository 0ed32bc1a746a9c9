use Rattle.std.proofs.Common.{rules, Bool, ap, ◌∙◌}
use Rattle.std.proofs.lemmas.Iterator.Consumers.{YieldsList-from_rest}
use Rattle.std.proofs.lemmas.Iterator.Search.{any_from_yields_List}
use Rattle.cq_roster.specs.Roster.{SeatRecord}
use Rattle.cq_board.specs.Setup.{uses, is_used}
use Rattle.cq_board.specs.Steps.Stores.{StoresRecord, pending_of, query_at}
use Rattle.cq_board.proofs.Stored.{content_of}
use Rattle.cq_board.proofs.Setups.{used_seats}
use Rattle.cq_board.proofs.setup.is_used.Goals as goal

pub returns : goal.returns
returns g c =
    let relation = c.args.relation.now in
    let stores = content_of c.stores.inside in
    let test : SeatRecord → Bool = λ seat. uses relation (query_at stores.grounded seat.place) in
    any_from_yields_List test _ _ c.any.result c.any.ensures.ran (YieldsList-from_rest stores.seats c.iter.ensures) (λ x b q k. search rules)
    ∙ used_seats relation stores.grounded stores.seats
    ∙ ap (λ (s : StoresRecord). is_used relation (pending_of s)) c.stores.view_is
