use Rattle.cq_report.proofs.Obeying.{wants_memory}
use Rattle.cq_report.proofs.script.Script.read_live.Goals as goal

pub returns-in-Err : goal.returns-in-Err
returns-in-Err g c = wants_memory c.args.line.now c.in-Err.ensures.memory
