use Rattle.std.proofs.Common.{◌≡◌, map, take}
use Rattle.std.specs.List.{enumerate_from}
use Rattle.cq_board.specs.Steps.Waiting.{node_in}
use Rattle.cq_board.proofs.waiting.nodes_in.Given as goal

-- the nodes so far are those of the seats so far
abbrev pub invariant-loop-seat : goal.invariant-loop-seat
invariant-loop-seat g l = l.nodes.items ≡ map (λ s. node_in l.grounded s.0 s.1) (enumerate_from 0 (map (λ s. s.now.place) (take l.seat-index l.seats)))
