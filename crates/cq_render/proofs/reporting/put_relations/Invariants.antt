use Rattle.std.proofs.Common.{◌≡◌, ◌++◌, drop}
use Rattle.std.specs.Prelude.{string_bytes}
use Rattle.std.specs.List.{flat_map}
use Rattle.cq_render.specs.Report.{relation_line}
use Rattle.cq_render.proofs.reporting.put_relations.Given as goal

abbrev pub invariant-loop-place : goal.invariant-loop-place
invariant-loop-place g l = string_bytes l.page ++ flat_map (relation_line l.tables) (drop l.place l.tables.catalog) ≡ string_bytes l.initial.page ++ flat_map (relation_line l.tables) l.tables.catalog
