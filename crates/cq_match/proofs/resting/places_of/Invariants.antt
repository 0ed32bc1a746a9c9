use Rattle.std.proofs.Common.{nat_eq}
use Rattle.std.specs.HashMap.{get}
use Rattle.cq_match.specs.Steps.Resting.{ArePlaces}
use Rattle.cq_match.proofs.resting.places_of.Given as goal

-- the places of the falls so far are noted
abbrev pub invariant-loop-place : goal.invariant-loop-place
invariant-loop-place g l = ArePlaces l.falls l.place (get nat_eq l.places)
