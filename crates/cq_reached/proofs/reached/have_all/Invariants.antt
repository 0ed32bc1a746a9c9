use Rattle.std.proofs.Common.{map, take}
use Rattle.std.specs.List.{All, Contains}
use Rattle.cq_board.specs.Choice.{chosen_name}
use Rattle.cq_reached.proofs.reached.have_all.Given as goal

-- for those so far is chosen
abbrev pub invariant-loop-one : goal.invariant-loop-one
invariant-loop-one g l = All (λ one. Contains (map chosen_name l.choices) one.name.now) (take l.one-index l.taken)
