use Rattle.std.proofs.Common.{List, ap, ◌∙◌}
use Rattle.std.proofs.lemmas.Result.{IfOk-weaker}
use Rattle.cq_board.specs.Pool.{PendingQuery}
use Rattle.cq_board.specs.Named.{matched_names}
use Rattle.cq_board.proofs.ViewSeats.{matched-read}
use Rattle.cq_board.specs.Steps.Stores.{pending_of}
use Rattle.cq_board.proofs.Stored.{content_of, same-stores}
use Rattle.cq_board.proofs.board.Board.matched.Goals as goal

pub returns : goal.returns
returns g c =
    let stores = content_of c.stores.inside in
    IfOk-weaker c.matched_of.result _ _
    (λ names shown.
    shown
    ∙ matched-read c.deref.result.now c.in_ok-seats.seats.items (λ s. s.now) stores c.deref.ensures.value c.in_ok-seats.ensures c.args.self.now (same-stores c.stores.view_is c.stores-stores.ensures.kept)
    ∙ ap (λ (pending : List PendingQuery). matched_names (record c.args.self.now { pending = pending })) (ap pending_of c.stores.view_is ∙ c.stores-stores.ensures.pending))
    c.matched_of.ensures
