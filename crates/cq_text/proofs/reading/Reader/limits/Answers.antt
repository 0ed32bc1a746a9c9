use Rattle.cq_text.specs.Steps.Commands.{limits_at}
use Rattle.cq_text.proofs.Passed.{stops, goes_on}
use Rattle.cq_text.proofs.reading.Reader.limits.Goals as goal

pub returns-in_err-pool : goal.returns-in_err-pool
unfolding limits_at
returns-in_err-pool g c = stops _ c.from_residual.result c.in_err-pool.field-0.0 _ _ c.from_residual.ensures.1 c.in_err-pool.ensures

pub returns-in_err-journal : goal.returns-in_err-journal
unfolding limits_at
returns-in_err-journal g c =
    goes_on _ c.from_residual-in_err-journal.result _ _ _ c.in_ok-pool.ensures (stops _ c.from_residual-in_err-journal.result c.in_err-journal.field-0.0 _ _ c.from_residual-in_err-journal.ensures.1 c.in_err-journal.ensures)

pub returns-in_err-end : goal.returns-in_err-end
unfolding limits_at
returns-in_err-end g c =
    goes_on _ c.from_residual-in_err-end.result _ _ _ c.in_ok-pool.ensures
    (goes_on _ c.from_residual-in_err-end.result _ _ _ c.in_ok-journal.ensures (stops _ c.from_residual-in_err-end.result c.in_err-end.field-0.0 _ _ c.from_residual-in_err-end.ensures.1 c.in_err-end.ensures))
