use Rattle.std.proofs.Common.{◌≡◌, ◌++◌, map, drop}
use Rattle.std.specs.List.{flat_map}
use Rattle.cq_rel.specs.Tables.{rows_in}
use Rattle.cq_render.proofs.dumping.add_all_rows.Given as goal

-- the rows so far, and those of the relations that are left
abbrev pub invariant-loop-place : goal.invariant-loop-place
invariant-loop-place g l =
    map (λ row. row.now) l.rows.items ++ flat_map (λ declared. rows_in declared.relation l.tables) (drop l.place l.tables.catalog)
    ≡ map (λ row. row.now) l.initial.rows.items ++ flat_map (λ declared. rows_in declared.relation l.tables) l.tables.catalog
