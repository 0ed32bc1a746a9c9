use Rattle.cq_atom.proofs.SameVariable.{same-variable}
use Rattle.cq_atom.proofs.unification.is_same_variable.Goals as goal

pub returns-in-Some-Some : goal.returns-in-Some-Some
returns-in-Some-Some g c =
    same-variable c.args.a.now c.args.b.now c.eq.result c.in-Some-Some.x.now c.in-Some-Some.y.now c.in-Some-Some.ensures.value c.in-Some-Some.ensures'.value c.eq.ensures
