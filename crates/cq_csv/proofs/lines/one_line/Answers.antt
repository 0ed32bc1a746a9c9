use Rattle.cq_csv.proofs.Fronts.{one_line}
use Rattle.cq_csv.proofs.lines.one_line.Goals as goal

pub returns : goal.returns
returns c = one_line
