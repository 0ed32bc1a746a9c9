use Rattle.std.proofs.Common.{◌≡◌, ◌++◌, map}
use Rattle.cq_render.proofs.Arrays.{listed}
use Rattle.cq_render.specs.Json.{grounding_json}
use Rattle.cq_render.proofs.data.put_groundings.Given as goal

abbrev pub invariant-loop-values : goal.invariant-loop-values
invariant-loop-values g l = l.sheet ++ listed grounding_json (map (λ values. values.items) l.values-iterator) ≡ l.initial.sheet ++ listed grounding_json l.groundings
