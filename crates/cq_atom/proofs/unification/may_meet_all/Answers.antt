use Rattle.std.proofs.Common.{sym, ◌∙◌}
use Rattle.cq_atom.proofs.Meets.{meet_at}
use Rattle.cq_atom.proofs.unification.may_meet_all.Goals as goal

pub returns-then-not-may_meet : goal.returns-then-not-may_meet
returns-then-not-may_meet g c = λ m.
    sym c.if-not-may_meet.true ∙ c.may_meet.ensures.1 (meet_at c.args.a.now c.args.b.now c.loop-i.i c.index-a-i.result c.index-b-i.result c.loop-i-test.true c.index-a-i.is c.index-b-i.is m)
