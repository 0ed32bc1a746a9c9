use Rattle.std.proofs.Common.{◌≡◌, ◌++◌, map}
use Rattle.cq_render.proofs.dumping.add_rows.Given as goal

-- the rows so far and those to come
abbrev pub invariant-loop-row : goal.invariant-loop-row
invariant-loop-row g l = map (λ row. row.now) l.rows.items ++ l.row-iterator ≡ map (λ row. row.now) l.initial.rows.items ++ l.initial.row-iterator
