use Rattle.std.proofs.Common.{nat_eq, ap, sym, ◌∙◌}
use Rattle.std.specs.HashMap.{get}
use Rattle.cq_select.proofs.choosing.judge.Goals as goal

pub returns-in-Some-seat_of : goal.returns-in-Some-seat_of
returns-in-Some-seat_of g c = ap (get nat_eq c.args.trail.now.seats) (sym c.in-Some.ensures.known) ∙ sym c.in-Some-seat_of.ensures
