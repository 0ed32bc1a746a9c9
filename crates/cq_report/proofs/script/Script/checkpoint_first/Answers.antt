use Rattle.std.proofs.Common.{◌≡◌, ◌∙◌, ap, sym}
use Rattle.cq_desk.specs.declared.event.Event.TheVariants.{Checkpoint}
use Rattle.cq_report.specs.declared.stage.Stage.TheVariants.{Serving}
use Rattle.cq_report.specs.Machine.{ServingRecord, Staged, State, after, outcome, serving_of}
use Rattle.cq_report.specs.Live.{stage_renewed}
use Rattle.cq_report.proofs.Obeying.{checked_as}
use Rattle.cq_report.proofs.script.Script.checkpoint_first.Goals as goal

pub returns-clause-state : goal.returns-clause-state
returns-clause-state g c =
    let old = c.args.self.now in
    let opens : c.in_ok-floor.floor ≡ serving_of old.stage = c.in_ok-floor.ensures ∙ sym (ap serving_of c.requires) in
    let done = checked_as c.in_ok-floor.floor c.checkpoint.new.self c.checkpoint.result c.in_ok-outcome.outcome c.checkpoint.ensures.answer c.checkpoint.ensures.ok c.checkpoint.ensures.err c.in_ok-outcome.ensures.outcome c.in_ok-outcome.ensures.some in
    c.serve_on.ensures
    ∙ ap (λ (serving : ServingRecord). let s : State = record old { stage = Serving serving } in s) (done.0 ∙ ap (λ (serving : ServingRecord). after serving Checkpoint) c.in_ok-floor.ensures)
    ∙ ap (λ (stage : Staged). let s : State = record old { stage = stage_renewed stage } in s) (sym c.requires)

pub returns-clause-outcome : goal.returns-clause-outcome
returns-clause-outcome g c =
    let old = c.args.self.now in
    let opens : c.in_ok-floor.floor ≡ serving_of old.stage = c.in_ok-floor.ensures ∙ sym (ap serving_of c.requires) in
    let done = checked_as c.in_ok-floor.floor c.checkpoint.new.self c.checkpoint.result c.in_ok-outcome.outcome c.checkpoint.ensures.answer c.checkpoint.ensures.ok c.checkpoint.ensures.err c.in_ok-outcome.ensures.outcome c.in_ok-outcome.ensures.some in
    done.1 ∙ ap (λ (serving : ServingRecord). outcome serving Checkpoint) opens
