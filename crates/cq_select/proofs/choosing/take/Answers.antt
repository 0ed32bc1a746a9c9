use Rattle.cq_select.proofs.Turning.{closed, passed, noted}
use Rattle.cq_select.proofs.choosing.take.Goals as goal

pub returns-in_ok-close-in-Free-clause-chosen : goal.returns-in_ok-close-in-Free-clause-chosen
returns-in_ok-close-in-Free-clause-chosen g c e wanted s =
    let free = c.in-Free.ensures in
    let done = c.in_ok-close-in-Free.ensures in
    closed c.args.supply.now wanted c.args.trail.now c.close.new.trail c.in-Free.owner c.args.candidate s free.0 free.1 free.2 done.frames done.list done.place done.fresh done.clear done.seats done.dead done.lost

pub returns-in-Never-clause-refused : goal.returns-in-Never-clause-refused
returns-in-Never-clause-refused g c e wanted s = passed c.args.supply.now wanted c.args.trail.now c.args.candidate s (c.in-Never.ensures wanted s.trail_is.dead)

pub returns-in_ok-push-in-Taken-clause-refused : goal.returns-in_ok-push-in-Taken-clause-refused
returns-in_ok-push-in-Taken-clause-refused g c e wanted s = noted c.args.supply.now wanted c.args.trail.now c.args.candidate c.in-Taken.other c.push.new.self s c.in-Taken.ensures c.in_ok-push-in-Taken.ensures.items
