use Rattle.std.proofs.Common.{◌∙◌, ℕ, List, subst}
use Rattle.cq_text.specs.Fault.{FirstQueryFault}
use Rattle.cq_text.specs.Views.{IfFault}
use Rattle.cq_ask.proofs.finding.read_body.Goals as goal

pub returns-clause-fault : goal.returns-clause-fault
returns-clause-fault g c =
    subst (λ (bytes : List ℕ). IfFault c.read_query.result (λ kind offset. FirstQueryFault c.args.form bytes kind offset)) (c.deref.ensures.value ∙ c.in_ok-text.ensures) c.read_query.ensures.fault
