use Rattle.std.proofs.Common.{◌≡◌, None}
use Rattle.std.specs.Prelude.{fold}
use Rattle.std.specs.Option.{option_map}
use Rattle.cq_near.specs.Unfit.{nearer}
use Rattle.cq_near.proofs.unfit.nearest.Given as goal

-- the nearest of all rows is that of the one so far and those to come
abbrev pub invariant-loop-row : goal.invariant-loop-row
invariant-loop-row g l =
    fold (nearer l.terms) (option_map (λ best. (best.0, best.1.now)) l.best) l.row-iterator ≡ fold (nearer l.terms) None l.initial.row-iterator
