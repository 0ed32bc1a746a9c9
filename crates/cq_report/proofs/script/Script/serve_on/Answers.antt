use Rattle.std.proofs.Common.{◌∙◌, ap}
use Rattle.cq_report.specs.declared.stage.Stage.TheVariants.{Serving}
use Rattle.cq_report.specs.Machine.{State, Staged}
use Rattle.cq_report.specs.Steps.Turns.{staged_by}
use Rattle.cq_report.proofs.Obeying.{serving_stays}
use Rattle.cq_report.proofs.script.Script.serve_on.Goals as goal

pub returns : goal.returns
returns g c =
    let d = c.self.inside in
    let with_stage = λ (stage : Staged). let s : State = record { numbering = d.numbering; lines = d.lines; heading = d.heading; stage = stage; every = d.every; tally = d.tally; is_over = d.is_over } in s in
    ap (λ (stage : Staged). with_stage (staged_by d.is_closed stage)) c.replace.ensures.after
    ∙ ap with_stage (serving_stays d.is_closed c.args.floor)
    ∙ ap (λ (s : State). record s { stage = Serving c.args.floor }) c.self.view_is
