use Rattle.std.proofs.Common.{refl, sym, subst, None, Some}
use Rattle.std.specs.Prelude.{OnOk}
use Rattle.std.proofs.lemmas.Result.{on_ok_weaker}
use Rattle.cq_text.specs.declared.command.CommandKind.TheVariants as commands
use Rattle.cq_text.specs.Grammar.{CommandContent}
use Rattle.cq_report.specs.Reading.{Reads}
use Rattle.cq_report.specs.declared.outcome.Outcome.TheVariants as outcomes
use Rattle.cq_report.specs.declared.refusal.Refusal.TheVariants as refusals
use Rattle.cq_report.specs.Reply.{outcome_line}
use Rattle.cq_sessions.specs.Steps.Sheets.{Onward}
use Rattle.cq_sessions.proofs.Sheets.{told_onward, gather_onward}
use Rattle.cq_sessions.proofs.serving.serve_command.Goals as goal

pub returns-in-Blank : goal.returns-in-Blank
returns-in-Blank g c =
    subst (λ (command : CommandContent). OnOk c.tell.result (Onward g.C.Client.opening g.C.Client.limit (g.C.Client.known c.args.client.now) c.args.sheet.now (g.C.Client.known c.args.client.now) c.tell.new.self (Reads command))) (sym c.in-Blank.is)
    (on_ok_weaker c.tell.result (told_onward g.C.Client.opening g.C.Client.limit _ _ c.args.sheet.now c.tell.new.self (Reads (commands.Blank)) None (λ rs lines own behind last s. (refl, s)) c.requires) c.tell.ensures)

pub returns-in-Setup : goal.returns-in-Setup
returns-in-Setup g c =
    subst (λ (command : CommandContent). OnOk c.tell-in-Setup.result (Onward g.C.Client.opening g.C.Client.limit (g.C.Client.known c.args.client.now) c.args.sheet.now (g.C.Client.known c.args.client.now) c.tell-in-Setup.new.sheet (Reads command))) (sym c.in-Setup.is)
    (on_ok_weaker c.tell-in-Setup.result (told_onward g.C.Client.opening g.C.Client.limit _ _ c.args.sheet.now c.tell-in-Setup.new.sheet (Reads (commands.Setup c.in-Setup._line)) (Some (outcome_line (outcomes.Refused refusals.Late))) (λ rs lines own behind last s. (refl, s)) c.requires) (c.tell-in-Setup.ensures (outcome_line (outcomes.Refused refusals.Late)) c.to_line.ensures))

pub returns-in-Edit : goal.returns-in-Edit
returns-in-Edit g c =
    subst (λ (command : CommandContent). OnOk c.gather.result (Onward g.C.Client.opening g.C.Client.limit (g.C.Client.known c.args.client.now) c.args.sheet.now (g.C.Client.known c.args.client.now) c.gather.new.self (Reads command))) (sym c.in-Edit.is)
    (on_ok_weaker c.gather.result (gather_onward g.C.Client.opening g.C.Client.limit _ c.args.sheet.now c.gather.new.self (Reads (commands.Edit c.in-Edit.edit)) c.in-Edit.edit (λ rs r lines own behind last s. (r, refl, s)) c.requires) c.gather.ensures)
