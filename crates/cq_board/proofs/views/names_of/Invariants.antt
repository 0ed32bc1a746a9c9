use Rattle.std.proofs.Common.{◌≡◌, map, take}
use Rattle.cq_board.proofs.views.names_of.Given as goal

-- the names so far are those of the seats so far
abbrev pub invariant-loop-seat : goal.invariant-loop-seat
invariant-loop-seat g l = map (λ name. name.now) l.names.items ≡ map (λ s. s.now.name) (take l.seat-index l.seats)
