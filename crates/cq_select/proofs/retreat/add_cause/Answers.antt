use Rattle.cq_select.proofs.Turning.{blocked-wanted, blocked-needed}
use Rattle.cq_select.proofs.retreat.add_cause.Goals as goal

pub returns-in_ok-push-in-Some-clause-blocked : goal.returns-in_ok-push-in-Some-clause-blocked
returns-in_ok-push-in-Some-clause-blocked g c supply wanted e = blocked-needed supply wanted c.args.trail.now c.in-Some.cause c.push.new.self e c.in-Some.is c.in_ok-push-in-Some.ensures.items

pub returns-in-None-clause-blocked : goal.returns-in-None-clause-blocked
returns-in-None-clause-blocked g c supply wanted e = blocked-wanted supply wanted c.args.trail.now e c.in-None.is
