use Rattle.std.proofs.Common.{◌++◌, ◌∙◌, ap}
use Rattle.std.specs.Prelude.{codes}
use Rattle.std.proofs.lemmas.Result.{IfOk-weaker}
use Rattle.cq_render.specs.Report.{line}
use Rattle.cq_report.specs.Output.{Left}
use Rattle.cq_report.specs.Summary.{summary}
use Rattle.cq_cli.proofs.replaying.summary_line.Goals as goal

pub returns : goal.returns
returns g c = IfOk-weaker c.line_of.result _ _ (λ text is. is ∙ ap (λ (left : Left). line (codes "board: " ++ c.args.origin.now ++ summary left)) c.in_ok-played.ensures) c.line_of.ensures
