use Rattle.std.proofs.Common.{◌∙◌, arith}
use Rattle.cq_board.proofs.Waited.{node-more}
use Rattle.cq_board.proofs.waiting.nodes_in.Goals as goal

pub loop-seat-preserved : goal.loop-seat-preserved
loop-seat-preserved g c =
    c.in_ok-push.ensures.items
    ∙ node-more c.args.grounded.now (λ s. s.now.place) c.args.seats.now c.loop-seat.seat-index c.seat-item.result c.loop-seat.nodes.items c.len.result c.node_in.result
    c.loop-seat-test.true c.seat-item.is (omega (arith, c.len.ensures, c.loop-seat.nodes.ok.0)) c.node_in.ensures c.loop-seat.invariant
