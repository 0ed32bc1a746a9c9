-- Edits of a board from scratch, one after another.
use Rattle.std.specs.Prelude.{◌≡◌, Result, Ok, Err}
use Rattle.cq_board.specs.declared.edit.Why.{Why}
use Rattle.cq_board.specs.declared.scratch.ScratchFault.{ScratchFault}
use Rattle.cq_board.specs.declared.scratch.ScratchFault.TheVariants.{Refused, NoMemory}
use Rattle.cq_board.specs.Pool.{PoolRecord}

-- The pool that the board has after the edits is the one that they make, and a refusal is the one that there is. Out of memory says nothing.
abbrev pub Continues : Result PoolRecord Why → PoolRecord → Result (Unit {0}) ScratchFault → Type 0
Continues made now (Ok done) = made ≡ Ok now
Continues made now (Err (Refused reason)) = made ≡ Err reason
Continues made now (Err NoMemory) = Unit {0}
