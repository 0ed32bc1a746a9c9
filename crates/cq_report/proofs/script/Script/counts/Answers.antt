use Rattle.std.proofs.Common.{◌∙◌, ap, sym}
use Rattle.cq_ask.specs.Answer.{counts_of}
use Rattle.cq_report.specs.Machine.{State, serving_of}
use Rattle.cq_report.proofs.Obeying.{serving_by}
use Rattle.cq_report.proofs.script.Script.counts.Goals as goal

pub returns-in-Setup : goal.returns-in-Setup
returns-in-Setup g c =
    let d = c.self.inside in
    c.counts.ensures
    ∙ ap counts_of (ap serving_of (sym c.in-Setup.is) ∙ sym (serving_by d.is_closed d.stage) ∙ ap (λ (s : State). serving_of s.stage) c.self.view_is)
