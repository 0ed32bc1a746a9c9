use Rattle.cq_cli.proofs.Telling.{not_refused, run_not_refused, run_reported}
use Rattle.cq_cli.proofs.replaying.replay.Goals as goal

pub returns-in-Err-clause-failures : goal.returns-in-Err-clause-failures
returns-in-Err-clause-failures g c =
    let turn = rw c.in-Ok.ensures.failures at (rw c.in-Ok.ensures.reads at c.in-Err.ensures.turn) in
    let same = rw c.in-Ok.ensures.failures at c.in-Err.ensures.read_failures in
    rw c.of_run.ensures (run_reported _ _ c.in-Err.fault turn same c.in-Err.ensures.write_failures)

pub returns-in-Err-clause-refused : goal.returns-in-Err-clause-refused
returns-in-Err-clause-refused g c = rw c.of_run.ensures (not_refused _ _ _ _ _ (run_not_refused c.in-Err.fault))
