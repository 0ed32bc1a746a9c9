use Rattle.std.proofs.Common.{◌≡◌, List, map, take}
use Rattle.cq_board.specs.Pool.{PendingQuery, name_of}
use Rattle.cq_board.specs.Board.{link_of}
use Rattle.cq_board.specs.Named.{link_read}
use Rattle.cq_board.proofs.views.links.Given as goal

-- the links so far are those of the edges so far
abbrev pub invariant-loop-edge : goal.invariant-loop-edge
invariant-loop-edge g l =
    (pending : List PendingQuery) → map (λ name. name.now) l.names ≡ map name_of pending → map (link_read (λ name. name.now)) l.links.items ≡ map (link_of pending) (take l.edge-index l.edges)
