use Rattle.cq_cli.proofs.Telling.{live_reported, not_refused, run_not_refused}
use Rattle.cq_cli.proofs.performing.answer_lines.Goals as goal

pub returns-clause-failures : goal.returns-clause-failures
returns-clause-failures g c = rw c.of_run.ensures (live_reported _ _ c.in-Err.fault c.in-Err.ensures.read_failures c.in-Err.ensures.write_failures)

pub returns-clause-refused : goal.returns-clause-refused
returns-clause-refused g c = rw c.of_run.ensures (not_refused _ _ _ _ _ (run_not_refused c.in-Err.fault))
