use Rattle.std.proofs.Common.{◌++◌, ℕ, List, ap, subst}
use Rattle.cq_text.specs.Fault.{FirstQueryFault}
use Rattle.cq_text.specs.Views.{OfFault}
use Rattle.cq_ask.specs.Find.{find_front}
use Rattle.cq_ask.proofs.finding.read_find.Goals as goal

pub returns-in-Err-clause-fault : goal.returns-in-Err-clause-fault
returns-in-Err-clause-fault g c =
    subst (λ (bytes : List ℕ). OfFault c.in-Err.fault (λ kind offset. FirstQueryFault c.args.form (find_front ++ bytes) kind offset)) (ap (λ p. p.0) c.in_ok-body.ensures) c.in-Err.ensures.fault
