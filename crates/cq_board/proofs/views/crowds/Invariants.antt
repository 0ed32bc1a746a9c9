use Rattle.std.proofs.Common.{◌≡◌, List, map, length}
use Rattle.cq_board.specs.Pool.{PendingQuery, name_of}
use Rattle.cq_board.specs.Edges.{edges_of}
use Rattle.cq_board.specs.Named.{crowd_read}
use Rattle.cq_board.proofs.Crowds.{IsCounting}
use Rattle.cq_board.proofs.views.crowds.Given as goal

-- the crowded postconditions so far, and those of the edges that are left, are all
abbrev pub invariant-loop-first : goal.invariant-loop-first
invariant-loop-first g l =
    (pending : List PendingQuery) → map (λ name. name.now) l.names ≡ map name_of pending → l.edges ≡ edges_of pending → IsCounting pending l.rest (map (crowd_read (λ name. name.now)) l.crowded.items)

abbrev pub decreases-loop-first : goal.decreases-loop-first
decreases-loop-first g l = length l.rest
