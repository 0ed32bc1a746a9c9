use Rattle.std.proofs.Common.{◌≡◌, ◌∙◌, sym, ap}
use Rattle.cq_text.specs.declared.form.Form.{Form}
use Rattle.cq_report.specs.Machine.{ServingRecord, serving_of}
use Rattle.cq_report.specs.Output.{Left, left_in}
use Rattle.cq_report.specs.Steps.Turns.{staged_by}
use Rattle.cq_report.proofs.Obeying.{serving_by}
use Rattle.cq_report.proofs.script.Script.into_played.Goals as goal

pub returns-in_ok-floor-in-Setup : goal.returns-in_ok-floor-in-Setup
returns-in_ok-floor-in-Setup g c =
    let d = c.self.inside in
    let opens : c.in_ok-floor-in-Setup.floor ≡ serving_of (staged_by d.is_closed d.stage) = c.in_ok-floor-in-Setup.ensures ∙ ap serving_of (sym c.in-Setup.is) ∙ sym (serving_by d.is_closed d.stage) in
    c.new.ensures ∙ ap (λ (floor : ServingRecord). let left : Left = record { floor = floor; form = c.form_of-form.result; lines = d.lines; tally = d.tally } in left) opens ∙ ap (λ (form : Form). let left : Left = record { floor = serving_of (staged_by d.is_closed d.stage); form = form; lines = d.lines; tally = d.tally } in left) c.form_of-form.ensures ∙ ap left_in c.self.view_is
