use Rattle.std.proofs.Common.{◌∙◌, ap}
use Rattle.cq_report.specs.Reading.{Reading}
use Rattle.cq_report.specs.Reply.{refusal}
use Rattle.cq_report.specs.Machine.{form_in, next, staged}
use Rattle.cq_report.specs.Steps.Turns.{TurnRecord}
use Rattle.cq_report.specs.declared.manner.Manner.TheVariants.{Script}
use Rattle.std.proofs.Common.{false}
use Rattle.cq_report.proofs.Obeying.{heeds_by}
use Rattle.cq_report.proofs.Scripts.{same_reading}
use Rattle.cq_report.proofs.script.Script.hear.Goals as goal

pub returns-clause-read : goal.returns-clause-read
returns-clause-read g c =
    let h = heeds_by (Script false) c.args.self.now c.obey.new.self c.args.line.now c.read_text-said.result c.in_ok-turn.turn (λ live. absurd cc) c.read_text-said.ensures c.in_ok-turn.ensures.ok in (h.reading, h.is)

pub returns-clause-heard : goal.returns-clause-heard
returns-clause-heard g c = λ reading is.
    let old = c.args.self.now in
    let h = heeds_by (Script false) old c.obey.new.self c.args.line.now c.read_text-said.result c.in_ok-turn.turn (λ live. absurd cc) c.read_text-said.ensures c.in_ok-turn.ensures.ok in
    let same = same_reading c.one_reading.ensures.commands (form_in old) c.args.line.now h.reading reading h.is is in (
      h.after ∙ ap (next old) same,
      c.refusal.ensures ∙ ap (λ (turn : TurnRecord). refusal turn.outcome) (c.turn.view_is ∙ h.told) ∙ ap (λ (r : Reading). refusal (staged old.stage old.heading r).1) same,
    )
