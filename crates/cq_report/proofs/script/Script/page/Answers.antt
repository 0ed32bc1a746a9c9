use Rattle.std.proofs.Common.{◌≡◌, ◌∙◌, sym, subst, ap}
use Rattle.std.specs.Prelude.{string_bytes, IfOk}
use Rattle.cq_text.specs.declared.form.Form.{Form}
use Rattle.cq_ask.specs.Answer.{FloorRecord}
use Rattle.cq_report.specs.Machine.{State, opened, serving_of}
use Rattle.cq_report.specs.Steps.Turns.{IsPage, staged_by}
use Rattle.cq_report.proofs.Obeying.{serving_by}
use Rattle.cq_report.proofs.script.Script.page.Goals as goal

pub returns-in_ok-floor-in-Setup : goal.returns-in_ok-floor-in-Setup
returns-in_ok-floor-in-Setup g c =
    let d = c.self.inside in
    let opens : c.in_ok-floor-in-Setup.floor ≡ serving_of (staged_by d.is_closed d.stage) =
    c.in_ok-floor-in-Setup.ensures ∙ ap opened c.in_ok-copy-in-Setup.ensures ∙ ap serving_of (sym c.in-Setup.is) ∙ sym (serving_by d.is_closed d.stage) in
    let now = c.args.self.now in
    subst (λ (form : Form). IfOk c.page_of.result (λ page. IsPage form now.numbering (serving_of now.stage) c.args.ask.now (string_bytes page))) c.form-form.ensures
    (subst (λ (s : State). IfOk c.page_of.result (λ page. IsPage c.form-form.result s.numbering (serving_of s.stage) c.args.ask.now (string_bytes page))) c.self.view_is
    (subst (λ (floor : FloorRecord). IfOk c.page_of.result (λ page. IsPage c.form-form.result d.numbering floor c.args.ask.now (string_bytes page))) opens c.page_of.ensures))
