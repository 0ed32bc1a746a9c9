use Rattle.std.proofs.Common.{ℕ, List, ap, ◌∙◌}
use Rattle.std.specs.List.{flat_map, enumerate_from}
use Rattle.std.proofs.lemmas.Result.{IfOk-weaker}
use Rattle.cq_board.specs.Pool.{PendingQuery}
use Rattle.cq_board.specs.Steps.Heads.{heads_at, heads_of}
use Rattle.cq_board.proofs.Shows.{seats-read}
use Rattle.cq_board.proofs.Grouped.{heads-shown}
use Rattle.cq_board.specs.Steps.Stores.{pending_of}
use Rattle.cq_board.proofs.Stored.{content_of}
use Rattle.cq_board.proofs.board.Board.groups.Goals as goal

pub returns-clause-heads : goal.returns-clause-heads
returns-clause-heads g c =
    let stores = content_of c.stores.inside in
    let read = seats-read c.deref.result.now c.in_ok-seats.seats.items (λ s. s.now) stores.seats c.deref.ensures.value c.in_ok-seats.ensures in
    IfOk-weaker c.groups_of.result _ _
    (λ groups shown relation arity.
    shown relation arity
    ∙ ap (λ (places : List ℕ). flat_map (heads_at relation arity stores.grounded) (enumerate_from 0 places)) read
    ∙ heads-shown relation arity stores
    ∙ ap (λ (pending : List PendingQuery). heads_of relation arity pending) (ap pending_of c.stores.view_is ∙ c.stores-stores.ensures.pending))
    c.groups_of.ensures.heads
