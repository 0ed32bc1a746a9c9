use Rattle.cq_atom.specs.Steps.Labels.{Ties, EndsBelow}
use Rattle.cq_atom.proofs.unification.tie.Given as goal

abbrev pub invariant-loop-j : goal.invariant-loop-j
invariant-loop-j g l = Ties l.initial.labels l.labels l.terms (EndsBelow l.j)
