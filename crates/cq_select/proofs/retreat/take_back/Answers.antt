use Rattle.std.proofs.Common.{refl}
use Rattle.cq_select.proofs.Turning.{taken-back}
use Rattle.cq_select.proofs.retreat.take_back.Goals as goal

pub returns-in-Some-clause-good : goal.returns-in-Some-clause-good
returns-in-Some-clause-good g c wanted t =
    taken-back c.args.supply.now wanted c.args.trail.now (record c.args.trail.now { frames = c.pop.new.self; seats = c.leave.new.seats }) c.in-Some.frame t c.in-Some.ensures.items refl refl c.leave.ensures
