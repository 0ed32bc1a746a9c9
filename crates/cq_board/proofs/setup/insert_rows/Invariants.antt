use Rattle.cq_rel.specs.Tables.{insert_fault}
use Rattle.cq_board.specs.Steps.Setup.{row_put, rows_put}
use Rattle.cq_board.proofs.Led.{Leads}
use Rattle.cq_board.proofs.setup.insert_rows.Given as goal

-- the rows that are left lead to what all rows lead to
abbrev pub invariant-loop-row : goal.invariant-loop-row
invariant-loop-row g l = Leads row_put insert_fault l.tables l.row-iterator (rows_put l.fn.tables l.initial.row-iterator)
