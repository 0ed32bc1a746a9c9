use Rattle.cq_cli.proofs.Telling.{rows_reported}
use Rattle.cq_cli.proofs.performing.answer_rows.Goals as goal

pub returns-in-Err-clause-failures : goal.returns-in-Err-clause-failures
returns-in-Err-clause-failures g c = rw c.of_rows.ensures (rows_reported _ _ _ _ _ _ c.in-Err.fault c.in-Err.ensures.fault c.in-Err.ensures.read_failures c.in-Err.ensures.write_failures)
