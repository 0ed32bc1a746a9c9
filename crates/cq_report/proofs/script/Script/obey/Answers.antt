use Rattle.std.proofs.Common.{◌≡◌, ◌∙◌, ap, sym}
use Rattle.cq_text.specs.Grammar.{CommandContent}
use Rattle.cq_text.specs.declared.command.CommandKind.TheVariants.{Setup, Edit}
use Rattle.cq_desk.specs.declared.event.Event.TheVariants.{Enter}
use Rattle.cq_ask.specs.Ask.{AskRecord}
use Rattle.cq_report.specs.declared.said.Said.{Said}
use Rattle.cq_report.specs.declared.said.Said.TheVariants as saids
use Rattle.cq_report.specs.declared.stage.Stage.TheVariants as stages
use Rattle.cq_report.specs.Reading.{Reads}
use Rattle.cq_report.specs.Machine.{ServingRecord, Staged, State, after, happen, headed, outcome, serving_of}
use Rattle.cq_report.specs.Steps.Turns.{staged_by}
use Rattle.cq_report.proofs.Answering.{on_err}
use Rattle.cq_report.proofs.Obeying.{entered_as, not_entered, obeyed, pageless_enter, pageless_prepare, plain_in, serving_by, serving_stays}
use Rattle.cq_report.proofs.script.Script.obey.Goals as goal

abbrev says : CommandContent → Said AskRecord CommandContent
says command = saids.Says command

pub returns-in_err-outcome-in-Serving-clause-err : goal.returns-in_err-outcome-in-Serving-clause-err
returns-in_err-outcome-in-Serving-clause-err g c =
    let d = c.self.inside in
    let same = not_entered c.enter.result _ c.in_err-outcome-in-Serving.ensures.none c.enter.ensures.err in
    let with_stage = λ (stage : Staged). let s : State = record { numbering = d.numbering; lines = d.lines; heading = d.heading; stage = staged_by d.is_closed stage; every = d.every; tally = d.tally; is_over = d.is_over } in s in
    on_err c.from_residual-in_err-outcome-in-Serving.result _ (ap (λ (serving : ServingRecord). with_stage (stages.Serving serving)) same ∙ ap with_stage (sym c.in-Serving.is) ∙ c.self.view_is)

pub returns-in_ok-outcome-in-Setup-clause-ok : goal.returns-in_ok-outcome-in-Setup-clause-ok
returns-in_ok-outcome-in-Setup-clause-ok g c =
    let old = c.args.self.now in
    let command : CommandContent = Setup c.in-Setup.line in
    let done = c.in_ok-outcome-in-Setup.ensures in
    obeyed c.args.manner old c.prepare.new.self c.kept-in-Setup.new.self c.args.said command c.headed-heading.result c.in_ok-outcome-in-Setup.outcome c.kept-in-Setup.result
    (c.in-Says.is ∙ ap says c.in-Setup.is) (c.headed-heading.ensures ∙ ap (λ (x : CommandContent). headed c.self.inside.heading (Reads x)) c.in-Setup.is ∙ ap (λ (s : State). headed s.heading (Reads command)) c.self.view_is)
    done.state done.outcome c.kept-in-Setup.ensures.state
    (c.kept-in-Setup.ensures.turn ∙ plain_in old command c.in_ok-outcome-in-Setup.outcome done.outcome (pageless_prepare old.stage old.heading c.in-Setup.line))

pub returns-in_ok-outcome-in-Serving-clause-ok : goal.returns-in_ok-outcome-in-Serving-clause-ok
returns-in_ok-outcome-in-Serving-clause-ok g c =
    let old = c.args.self.now in
    let d = c.self.inside in
    let edit = c.in-Edit.edit in
    let command : CommandContent = Edit edit in
    let floor = c.in-Serving.floor in
    let opens : floor ≡ serving_of old.stage = ap serving_of (sym c.in-Serving.is) ∙ sym (serving_by d.is_closed d.stage) ∙ ap (λ (s : State). serving_of s.stage) c.self.view_is in
    let done = entered_as floor c.enter.new.self edit c.enter.result c.in_ok-outcome-in-Serving.outcome c.enter.ensures.answer c.enter.ensures.ok c.enter.ensures.err c.in_ok-outcome-in-Serving.ensures.outcome c.in_ok-outcome-in-Serving.ensures.some in
    let with_stage = λ (stage : Staged). let s : State = record { numbering = d.numbering; lines = d.lines; heading = d.heading; stage = stage; every = d.every; tally = d.tally; is_over = d.is_over } in s in
    obeyed c.args.manner old _ c.kept-in-Serving.new.self c.args.said command c.headed-heading.result c.in_ok-outcome-in-Serving.outcome c.kept-in-Serving.result
    (c.in-Says.is ∙ ap says c.in-Edit.is) (c.headed-heading.ensures ∙ ap (λ (x : CommandContent). headed c.self.inside.heading (Reads x)) c.in-Edit.is ∙ ap (λ (s : State). headed s.heading (Reads command)) c.self.view_is)
    (ap (λ (serving : ServingRecord). with_stage (staged_by d.is_closed (stages.Serving serving))) (done.0 ∙ ap (λ (serving : ServingRecord). after serving (Enter 0 edit)) opens)
    ∙ ap with_stage (serving_stays d.is_closed (after (serving_of old.stage) (Enter 0 edit)))
    ∙ ap (λ (s : State). record s { stage = stages.Serving (after (serving_of old.stage) (Enter 0 edit)) }) c.self.view_is)
    (done.1 ∙ ap (λ (serving : ServingRecord). outcome serving (Enter 0 edit)) opens) c.kept-in-Serving.ensures.state
    (c.kept-in-Serving.ensures.turn ∙ plain_in old command c.in_ok-outcome-in-Serving.outcome (done.1 ∙ ap (λ (serving : ServingRecord). outcome serving (Enter 0 edit)) opens) (pageless_enter (serving_of old.stage) 0 edit))

pub returns-in_ok-outcome-in-Setup-stage-clause-ok : goal.returns-in_ok-outcome-in-Setup-stage-clause-ok
returns-in_ok-outcome-in-Setup-stage-clause-ok g c =
    let old = c.args.self.now in
    let d = c.self.inside in
    let edit = c.in-Edit.edit in
    let command : CommandContent = Edit edit in
    let done = c.in_ok-outcome-in-Setup-stage.ensures in
    let with_stage = λ (stage : Staged). let s : State = record { numbering = d.numbering; lines = d.lines; heading = d.heading; stage = staged_by d.is_closed stage; every = d.every; tally = d.tally; is_over = d.is_over } in s in
    let same : with_stage (stages.Setup c.in-Setup-stage.setup) ≡ old = ap with_stage (sym c.in-Setup-stage.is) ∙ c.self.view_is in
    let out : c.in_ok-outcome-in-Setup-stage.outcome ≡ (happen old.stage (Enter 0 edit)).1 = done.outcome ∙ ap (λ (s : State). (happen s.stage (Enter 0 edit)).1) same in
    obeyed c.args.manner old c.enter_first.new.self c.kept-in-Setup-stage.new.self c.args.said command c.headed-heading.result c.in_ok-outcome-in-Setup-stage.outcome c.kept-in-Setup-stage.result
    (c.in-Says.is ∙ ap says c.in-Edit.is) (c.headed-heading.ensures ∙ ap (λ (x : CommandContent). headed c.self.inside.heading (Reads x)) c.in-Edit.is ∙ ap (λ (s : State). headed s.heading (Reads command)) c.self.view_is)
    (done.state ∙ ap (λ (s : State). record s { stage = (happen s.stage (Enter 0 edit)).0 }) same) out c.kept-in-Setup-stage.ensures.state
    (c.kept-in-Setup-stage.ensures.turn ∙ plain_in old command c.in_ok-outcome-in-Setup-stage.outcome out (pageless_enter (serving_of old.stage) 0 edit))
