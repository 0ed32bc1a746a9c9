use Rattle.std.proofs.Common.{◌≡◌, drop}
use Rattle.cq_near.specs.Unfit.{first_unfit}
use Rattle.cq_near.proofs.unfit.first_unfit.Given as goal

-- the first of all atoms that no row fits is the first of those to come
abbrev pub invariant-loop-atom : goal.invariant-loop-atom
invariant-loop-atom g l = first_unfit l.tables (drop l.atom-index l.body) ≡ first_unfit l.tables l.body
