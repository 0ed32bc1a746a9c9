use Rattle.std.proofs.Common.{◌≡◌, map, take}
use Rattle.cq_render.specs.Explain.{name_of_number}
use Rattle.cq_render.proofs.explaining.names_of.Given as goal

-- the names so far are those of the numbers so far
abbrev pub invariant-loop-number : goal.invariant-loop-number
invariant-loop-number g l = map (λ name. name.now) l.names.items ≡ map (name_of_number l.listing.board.now.pending) (take l.number-index l.numbers)
