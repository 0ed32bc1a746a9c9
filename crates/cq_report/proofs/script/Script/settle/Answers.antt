use Rattle.std.proofs.Common.{◌∙◌, Bool, false, sym, subst}
use Rattle.std.proofs.lemmas.Result.{IfOk-weaker}
use Rattle.cq_ask.specs.Ask.{is_find}
use Rattle.cq_report.specs.Live.{IsSettled}
use Rattle.cq_report.specs.Machine.{form_in, serving_of}
use Rattle.cq_report.specs.Steps.Turns.{turn_bytes}
use Rattle.cq_report.proofs.script.Script.settle.Goals as goal

pub returns-clause-told : goal.returns-clause-told
returns-clause-told g c =
    let state = c.args.self.now in
    let ask = c.args.ask.now in
    IfOk-weaker c.tell.result _ _
    (λ turn told other.
    subst (λ (checks : Bool). IsSettled checks (is_find ask.kind) (form_in state) state.numbering (serving_of state.stage) ask (turn_bytes state.numbering turn)) (sym c.if-is_checkpoint.false ∙ c.is_checkpoint.ensures)
    (subst (λ (finds : Bool). IsSettled false finds (form_in state) state.numbering (serving_of state.stage) ask (turn_bytes state.numbering turn)) (sym other) told))
    c.tell.ensures.told
