use Rattle.std.proofs.Common.{ℕ, List, take, nat_eq}
use Rattle.std.specs.HashMap.{get}
use Rattle.std.specs.List.{All}
use Rattle.cq_select.specs.Selection.{IsSupplied}
use Rattle.cq_select.specs.Steps.Facts.{AreSeats}
use Rattle.cq_select.proofs.asked.first_unmet.Given as goal

-- all earlier atoms are supplied
abbrev pub invariant-loop-place : goal.invariant-loop-place
invariant-loop-place g l = (below : List ℕ) → AreSeats l.supply below (get nat_eq l.seats) → All (IsSupplied l.supply below) (take l.fn.from l.atoms) → All (IsSupplied l.supply below) (take l.place l.atoms)
