use Rattle.std.specs.Prelude.{string_bytes}
use Rattle.std.specs.List.{filter_map}
use Rattle.std.proofs.Common.{◌≡◌, map, fold, drop}
use Rattle.cq_atom.specs.Atom.{variable_of}
use Rattle.cq_atom.specs.Query.{occurrences}
use Rattle.cq_atom.specs.Steps.Variables.{with_variable}
use Rattle.cq_atom.proofs.variables.add_variables.Given as goal

abbrev pub invariant-loop-term : goal.invariant-loop-term
invariant-loop-term g l =
    fold with_variable (map string_bytes l.fn.variables.items) (occurrences l.atom)
    ≡ fold with_variable (map string_bytes l.variables.items) (filter_map variable_of (drop l.term-index l.term-items))
