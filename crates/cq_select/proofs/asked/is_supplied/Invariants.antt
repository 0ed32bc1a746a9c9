use Rattle.std.proofs.Common.{ℕ, ◌<◌, List, get_or, nat_eq}
use Rattle.std.specs.HashMap.{get}
use Rattle.std.specs.List.{Contains}
use Rattle.cq_select.specs.Steps.Facts.{AreSeats}
use Rattle.cq_select.proofs.asked.is_supplied.Given as goal

-- none of the earlier suppliers is chosen
abbrev pub invariant-loop-candidate : goal.invariant-loop-candidate
invariant-loop-candidate g l = (below : List ℕ) → AreSeats l.supply below (get nat_eq l.seats) → (k : ℕ) → k < l.candidate-index → Contains below (get_or l.suppliers k 0) → ⊥
