use Rattle.std.proofs.Common.{◌++◌, ◌∷◌, []}
use Rattle.std.specs.List.{All, Contains}
use Rattle.cq_reached.specs.Steps.Taking.{names_of}
use Rattle.cq_reached.proofs.quick.part_of.Given as goal

-- those so far are taken
abbrev pub invariant-loop-one : goal.invariant-loop-one
invariant-loop-one g l = All (Contains (names_of l.taken ++ l.name ∷ [])) l.part.items
