use Rattle.std.proofs.Common.{refl, Some}
use Rattle.std.proofs.lemmas.Result.{on_ok_weaker}
use Rattle.cq_report.specs.Reading.{Reads, Faulty}
use Rattle.cq_report.specs.declared.outcome.Outcome.TheVariants as outcomes
use Rattle.cq_report.specs.declared.refusal.Refusal.TheVariants as refusals
use Rattle.cq_report.specs.Reply.{outcome_line}
use Rattle.cq_report.proofs.CallerLemmas.{the_fault}
use Rattle.cq_sessions.proofs.Sheets.{told_onward}
use Rattle.cq_sessions.proofs.serving.serve_line.Goals as goal

pub returns-in-Ok : goal.returns-in-Ok
returns-in-Ok g c = on_ok_weaker c.serve_command.result (λ on. record { reading = Reads c.in-Ok.command; is = c.in-Ok.ensures.found; onward = on }) c.serve_command.ensures

pub returns-in-Err-At : goal.returns-in-Err-At
returns-in-Err-At g c =
    let kind = c.in-Err-At.kind in let offset = c.in-Err-At.offset in
    on_ok_weaker c.tell.result
    (λ is. record {
      reading = Faulty kind offset;
      is = the_fault c.args.form c.args.line.now _ kind offset c.in-Err-At.field-0-is c.in-Err-At.ensures.fault;
      onward = told_onward g.C.Client.opening g.C.Client.limit _ _ c.args.sheet.now c.tell.new.sheet (Faulty kind offset) (Some (outcome_line (outcomes.Refused (refusals.Text kind offset)))) (λ rs lines own behind last s. (refl, s)) c.requires is;
    }) (c.tell.ensures (outcome_line (outcomes.Refused (refusals.Text kind offset))) c.to_line.ensures)
