use Rattle.std.proofs.Common.{◌++◌, map, take, filter}
use Rattle.std.specs.List.{flat_map}
use Rattle.std.specs.List.Sorted.{IsPermutation}
use Rattle.cq_match.specs.Matcher.{leaves}
use Rattle.cq_board.specs.Steps.Residents.{renamed}
use Rattle.cq_board.specs.Steps.Stores.{number_of}
use Rattle.cq_board.proofs.showing.add_all.Given as goal

abbrev pub invariant-loop-place : goal.invariant-loop-place
invariant-loop-place g l =
    IsPermutation (l.fn.edges.items ++ flat_map (λ place. map (renamed (number_of l.places.keys)) (filter (leaves place) l.matcher.edges)) (take l.place-index l.place-items)) l.edges.items
