use Rattle.std.proofs.Common.{◌≡◌, map, drop}
use Rattle.cq_atom.specs.declared.edit.EditKind.TheVariants.{Insert}
use Rattle.cq_board.specs.Scratch.{scratch_of}
use Rattle.cq_board.proofs.board.Board.insert_all.Given as goal

-- the rows that are left make of the pool what all rows make of the first one
abbrev pub invariant-loop-row : goal.invariant-loop-row
invariant-loop-row g l = scratch_of l.self (map Insert (drop l.row-index l.rows)) ≡ scratch_of l.initial.self (map Insert l.rows)
