use Rattle.std.proofs.Common.{ap, Some}
use Rattle.std.proofs.lemmas.Result.{on_ok_weaker}
use Rattle.cq_report.specs.declared.outcome.Outcome.TheVariants as outcomes
use Rattle.cq_report.specs.Reply.{outcome_line}
use Rattle.cq_sessions.proofs.Sheets.{told_onward}
use Rattle.cq_sessions.proofs.serving.show.Goals as goal

pub returns : goal.returns
returns g c =
    let now = g.C.Client.known c.look.new.self in
    on_ok_weaker c.tell.result
    (λ is. told_onward g.C.Client.opening g.C.Client.limit _ now c.args.sheet.now c.tell.new.sheet _ (Some (outcome_line (outcomes.Shown c.in_ok-count.count)))
    (λ rs lines own behind last s. (now, c.in_ok-count.ensures.seen, ap (λ n. Some (outcome_line (outcomes.Shown n))) c.in_ok-count.ensures.shown, s)) c.requires is)
    (c.tell.ensures (outcome_line (outcomes.Shown c.in_ok-count.count)) c.to_line.ensures)
