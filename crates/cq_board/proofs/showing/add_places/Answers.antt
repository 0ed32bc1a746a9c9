use Rattle.std.proofs.Common.{◌++◌, map, arith}
use Rattle.cq_board.proofs.Shows.{inserted-more}
use Rattle.cq_board.proofs.showing.add_places.Goals as goal

pub loop-seat-preserved : goal.loop-seat-preserved
loop-seat-preserved g c distinct =
    inserted-more (λ s. s.now.place) c.args.seats.now (c.args.places.now.keys ++ map (λ s. s.now.place) c.args.seats.now) c.loop-seat.places.keys c.insert.new.self.keys c.loop-seat.seat-index c.seat-item.result
    distinct (omega arith) c.seat-item.is (c.loop-seat.invariant distinct) c.in_ok-insert.ensures.keys
