use Rattle.std.proofs.Common.{◌≡◌, ◌++◌, map, take}
use Rattle.cq_board.specs.Steps.Residents.{renamed}
use Rattle.cq_board.specs.Steps.Stores.{number_of}
use Rattle.cq_board.proofs.showing.add_numbered.Given as goal

abbrev pub invariant-loop-edge : goal.invariant-loop-edge
invariant-loop-edge g l = l.edges.items ≡ l.fn.edges.items ++ map (renamed (number_of l.places.keys)) (take l.edge-index l.more)
