use Rattle.std.proofs.Common.{◌≡◌, ◌++◌, drop}
use Rattle.cq_render.proofs.Arrays.{listed}
use Rattle.cq_render.specs.Json.{value_json}
use Rattle.cq_render.proofs.data.put_values.Given as goal

abbrev pub invariant-loop-value : goal.invariant-loop-value
invariant-loop-value g l = l.sheet ++ listed value_json (drop l.value-index l.values) ≡ l.initial.sheet ++ listed value_json l.values
