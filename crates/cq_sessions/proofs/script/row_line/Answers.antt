use Rattle.std.proofs.Common.{List, ℕ, ◌++◌, ap, ◌∙◌}
use Rattle.std.specs.Prelude.{codes}
use Rattle.std.proofs.lemmas.Result.{IfOk-weaker}
use Rattle.cq_render.specs.Report.{line}
use Rattle.cq_render.proofs.CallerLemmas.{joined}
use Rattle.cq_sessions.proofs.script.row_line.Goals as goal

pub returns : goal.returns
returns g c =
    let text = c.as_str-text.result.now in
    IfOk-weaker c.format.result _ _
    (λ made e. e ∙ joined c.args.word.now (codes " ") text (codes "\n") ∙ ap (λ (z : List ℕ). line (c.args.word.now ++ codes " " ++ z)) (c.as_str-text.ensures.value ∙ c.in_ok-text.ensures.printed)) c.format.ensures.ok
