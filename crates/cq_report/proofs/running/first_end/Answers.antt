use Rattle.std.specs.Prelude.{◌==◌}
use Rattle.cq_report.proofs.Ends.{first-place}
use Rattle.cq_report.proofs.running.first_end.Goals as goal

pub returns : goal.returns
returns c = first-place (λ byte. byte == 10) c.args.bytes.now c.memchr.result c.memchr.ensures
