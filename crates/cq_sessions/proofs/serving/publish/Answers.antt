use Rattle.std.proofs.lemmas.Result.{on_ok_weaker}
use Rattle.cq_report.specs.declared.outcome.Outcome.TheVariants as outcomes
use Rattle.cq_report.specs.Reply.{outcome_line}
use Rattle.cq_sessions.proofs.Sheets.{publish_onward}
use Rattle.cq_sessions.proofs.serving.publish.Goals as goal

pub returns : goal.returns
returns g c =
    on_ok_weaker c.tell.result (λ is. publish_onward g.C.Client.opening g.C.Client.limit _ _ c.args.sheet.now c.submit.new.sheet c.tell.new.sheet c.in_ok-published.published c.in_ok-published.ensures is)
    (c.tell.ensures (outcome_line (outcomes.Published c.in_ok-published.published)) c.to_line.ensures)
