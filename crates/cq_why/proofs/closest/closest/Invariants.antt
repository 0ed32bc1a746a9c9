use Rattle.std.proofs.Common.{◌≡◌, map, take}
use Rattle.std.specs.Prelude.{option_map}
use Rattle.cq_why.specs.Why.{closest}
use Rattle.cq_why.proofs.closest.closest.Given as goal

-- the best so far is the closest of the names so far
abbrev pub invariant-loop-name : goal.invariant-loop-name
invariant-loop-name g l = option_map (λ name. name.now) l.best ≡ closest l.word (map (λ name. name.now) (take l.name-index l.names))
