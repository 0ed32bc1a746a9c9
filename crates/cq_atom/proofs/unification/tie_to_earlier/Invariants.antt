use Rattle.cq_atom.specs.Steps.Labels.{Ties, EndsAt}
use Rattle.cq_atom.proofs.unification.tie_to_earlier.Given as goal

abbrev pub invariant-loop-i : goal.invariant-loop-i
invariant-loop-i g l = Ties l.initial.labels l.labels l.terms (EndsAt l.j l.i)
