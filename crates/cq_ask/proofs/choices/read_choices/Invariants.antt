use Rattle.std.proofs.Common.{map, take}
use Rattle.cq_ask.specs.Choices.{StandForChoices}
use Rattle.cq_ask.proofs.choices.read_choices.Given as goal

-- the choices of the words so far
abbrev pub invariant-loop-place : goal.invariant-loop-place
invariant-loop-place g l = StandForChoices (map (λ word. word.now) (take l.place l.words)) l.choices.items
