use Rattle.std.proofs.Common.{◌≡◌, drop}
use Rattle.cq_atom.specs.Valuation.{value_at}
use Rattle.cq_atom.proofs.valuation.Valuation.get.Given as goal

abbrev pub invariant-loop-bound : goal.invariant-loop-bound
invariant-loop-bound g l = value_at l.self l.name ≡ value_at (drop l.bound-index l.bound-items) l.name
