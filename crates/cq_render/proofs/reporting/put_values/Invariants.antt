use Rattle.std.proofs.Common.{◌≡◌, ◌++◌, map}
use Rattle.std.specs.Prelude.{string_bytes}
use Rattle.std.specs.List.{flat_map}
use Rattle.cq_render.specs.Report.{values_line}
use Rattle.cq_render.proofs.reporting.put_values.Given as goal

abbrev pub invariant-loop-values : goal.invariant-loop-values
invariant-loop-values g l = string_bytes l.page ++ flat_map values_line (map (λ values. values.items) l.values-iterator) ≡ string_bytes l.initial.page ++ flat_map values_line l.groundings
