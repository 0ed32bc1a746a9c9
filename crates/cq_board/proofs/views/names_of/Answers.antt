use Rattle.std.proofs.Common.{map, ap, refl, ◌∙◌}
use Rattle.std.proofs.lemmas.List.{take_all}
use Rattle.cq_board.proofs.Picked.{read-more}
use Rattle.cq_board.proofs.views.names_of.Goals as goal

pub loop-seat-preserved : goal.loop-seat-preserved
loop-seat-preserved g c =
    read-more (λ name. name.now) (λ s. s.now.name) c.loop-seat.names.items c.push.new.self.items c.args.seats.now c.loop-seat.seat-index c.seat-item.result c.loop-seat-test.true c.seat-item.is _
    c.in_ok-push.ensures.items refl c.loop-seat.invariant

pub returns : goal.returns
returns g c = c.loop-seat.invariant ∙ ap (map (λ s. s.now.name)) (take_all c.loop-seat.seat-index c.args.seats.now c.loop-seat-test.false)
