use Rattle.std.proofs.Common.{◌≡◌, ◌++◌, map, drop}
use Rattle.cq_render.proofs.Arrays.{listed}
use Rattle.std.specs.Prelude.{string_bytes}
use Rattle.json.specs.Json.{string}
use Rattle.cq_render.proofs.data.put_variables.Given as goal

abbrev pub invariant-loop-variable : goal.invariant-loop-variable
invariant-loop-variable g l = l.sheet ++ listed string (map string_bytes (drop l.variable-index l.variables)) ≡ l.initial.sheet ++ listed string (map string_bytes l.variables)
