use Rattle.std.proofs.Common.{inr, refl}
use Rattle.cq_going.proofs.grouping.verdict.Goals as goal

pub returns : goal.returns
returns g c = inr (inr refl)
