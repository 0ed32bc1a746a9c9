use Rattle.std.proofs.Common.{◌≡◌, ◌++◌, map, drop, nat_eq}
use Rattle.std.specs.List.{IsDistinct}
use Rattle.cq_board.proofs.showing.add_places.Given as goal

abbrev pub invariant-loop-seat : goal.invariant-loop-seat
invariant-loop-seat g l =
    IsDistinct nat_eq (l.fn.places.keys ++ map (λ s. s.now.place) l.seats) → l.places.keys ++ map (λ s. s.now.place) (drop l.seat-index l.seats) ≡ l.fn.places.keys ++ map (λ s. s.now.place) l.seats
