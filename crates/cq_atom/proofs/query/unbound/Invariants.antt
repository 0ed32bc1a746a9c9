use Rattle.std.proofs.Common.{◌≡◌, drop}
use Rattle.cq_atom.specs.Query.{first_unbound}
use Rattle.cq_atom.proofs.query.unbound.Given as goal

abbrev pub invariant-loop-place : goal.invariant-loop-place
invariant-loop-place g l = first_unbound l.part l.body 0 l.atoms ≡ first_unbound l.part l.body l.place (drop l.place l.atoms)
