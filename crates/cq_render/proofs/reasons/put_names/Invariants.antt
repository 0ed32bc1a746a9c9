use Rattle.std.proofs.Common.{◌≡◌, ◌++◌, map, drop}
use Rattle.json.specs.Json.{string}
use Rattle.cq_render.proofs.Arrays.{listed}
use Rattle.cq_render.proofs.reasons.put_names.Given as goal

abbrev pub invariant-loop-name : goal.invariant-loop-name
invariant-loop-name g l = l.sheet ++ listed string (map (λ name. name.now) (drop l.name-index l.names)) ≡ l.initial.sheet ++ listed string (map (λ name. name.now) l.names)
