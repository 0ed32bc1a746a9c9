use Rattle.cq_text.specs.Steps.Commands.{board_at}
use Rattle.cq_text.proofs.Passed.{stops, goes_on}
use Rattle.cq_text.proofs.reading.Reader.board.Goals as goal

pub returns-in_err-number : goal.returns-in_err-number
unfolding board_at
returns-in_err-number g c = stops _ c.from_residual.result c.in_err-number.field-0.0 _ _ c.from_residual.ensures.1 c.in_err-number.ensures

pub returns-in_err-end : goal.returns-in_err-end
unfolding board_at
returns-in_err-end g c =
    goes_on _ c.from_residual-in_err-end.result _ _ _ c.in_ok-number.ensures (stops _ c.from_residual-in_err-end.result c.in_err-end.field-0.0 _ _ c.from_residual-in_err-end.ensures.1 c.in_err-end.ensures)
