use Rattle.std.proofs.Common.{ℕ, List, ap, ◌∙◌, map, length}
use Rattle.std.specs.List.{enumerate_from}
use Rattle.std.proofs.lemmas.Result.{IfOk-weaker}
use Rattle.cq_board.specs.Pool.{PendingQuery}
use Rattle.cq_board.specs.Board.{is_able}
use Rattle.cq_board.specs.Steps.Waiting.{node_in}
use Rattle.cq_board.proofs.Shows.{seats-read}
use Rattle.cq_board.proofs.Waited.{nodes-shown}
use Rattle.cq_board.specs.Steps.Stores.{pending_of}
use Rattle.cq_board.proofs.Stored.{content_of, same-stores}
use Rattle.cq_board.proofs.board.Board.nodes_by_place.Goals as goal

pub returns : goal.returns
returns g c =
    let stores = content_of c.stores.inside in
    let rows = c.args.self.now.tables.rows in
    let read = seats-read c.deref.result.now c.in_ok-seats.seats.items (λ s. s.now) stores.seats c.deref.ensures.value c.in_ok-seats.ensures in
    IfOk-weaker c.nodes_in.result _ _
    (λ nodes shown.
    shown
    ∙ ap (λ (places : List ℕ). map (λ s. node_in stores.grounded s.0 s.1) (enumerate_from 0 places)) read
    ∙ nodes-shown stores rows (same-stores c.stores.view_is c.stores-stores.ensures.kept)
    ∙ ap (λ (pending : List PendingQuery). map (λ p. (p.0, length p.1.query.posts, is_able rows p.1)) (enumerate_from 0 pending)) (ap pending_of c.stores.view_is ∙ c.stores-stores.ensures.pending))
    c.nodes_in.ensures
