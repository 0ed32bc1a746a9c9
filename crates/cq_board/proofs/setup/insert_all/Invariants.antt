use Rattle.std.proofs.Common.{drop}
use Rattle.cq_rel.specs.Tables.{insert_fault}
use Rattle.cq_board.specs.Steps.Setup.{row_put, rows_put, rows_of_all}
use Rattle.cq_board.proofs.Led.{Leads}
use Rattle.cq_board.proofs.setup.insert_all.Given as goal

-- the rows of the relations that are left lead to what all rows lead to
abbrev pub invariant-loop-place : goal.invariant-loop-place
invariant-loop-place g l =
    Leads row_put insert_fault l.tables (rows_of_all l.others (drop l.place l.others.catalog)) (rows_put l.fn.tables (rows_of_all l.others l.others.catalog))
