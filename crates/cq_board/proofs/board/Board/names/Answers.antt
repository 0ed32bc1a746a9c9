use Rattle.std.proofs.Common.{List, ap, ◌∙◌, map}
use Rattle.std.proofs.lemmas.Result.{IfOk-weaker}
use Rattle.cq_board.specs.Pool.{PendingQuery, name_of}
use Rattle.cq_board.proofs.ViewSeats.{names-read}
use Rattle.cq_board.specs.Steps.Stores.{pending_of}
use Rattle.cq_board.proofs.Stored.{content_of}
use Rattle.cq_board.proofs.board.Board.names.Goals as goal

pub returns : goal.returns
returns g c =
    let stores = content_of c.stores.inside in
    IfOk-weaker c.names_of.result _ _
    (λ names shown.
    shown
    ∙ names-read c.deref.result.now c.in_ok-seats.seats.items (λ s. s.now) stores c.deref.ensures.value c.in_ok-seats.ensures
    ∙ ap (λ (pending : List PendingQuery). map name_of pending) (ap pending_of c.stores.view_is ∙ c.stores-stores.ensures.pending))
    c.names_of.ensures
