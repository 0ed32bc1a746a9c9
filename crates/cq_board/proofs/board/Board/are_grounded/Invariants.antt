use Rattle.std.proofs.Common.{take}
use Rattle.std.specs.List.{All}
use Rattle.cq_board.specs.Choice.{IsGrounded}
use Rattle.cq_board.proofs.board.Board.are_grounded.Given as goal

-- the choices before the place are grounded
abbrev pub invariant-loop-choice : goal.invariant-loop-choice
invariant-loop-choice g l = All (IsGrounded l.self) (take l.choice-index l.choices)
