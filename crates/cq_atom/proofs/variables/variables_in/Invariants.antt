use Rattle.std.specs.Prelude.{string_bytes}
use Rattle.std.specs.List.{flat_map}
use Rattle.std.proofs.Common.{◌≡◌, map, fold, drop}
use Rattle.cq_atom.specs.Query.{occurrences, variables_of}
use Rattle.cq_atom.specs.Steps.Variables.{with_variable}
use Rattle.cq_atom.proofs.variables.variables_in.Given as goal

abbrev pub invariant-loop-atom : goal.invariant-loop-atom
invariant-loop-atom g l = variables_of l.body ≡ fold with_variable (map string_bytes l.variables.items) (flat_map occurrences (drop l.atom-index l.body))
