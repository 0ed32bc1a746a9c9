use Rattle.std.proofs.Common.{List, ℕ, ◌++◌, ap, ◌∙◌}
use Rattle.std.specs.Prelude.{codes}
use Rattle.std.proofs.lemmas.Result.{IfOk-weaker}
use Rattle.cq_render.specs.Report.{line}
use Rattle.cq_render.proofs.CallerLemmas.{joined_more}
use Rattle.cq_sessions.proofs.script.post_line.Goals as goal

pub returns : goal.returns
returns g c =
    let name = c.as_str-name.result.now in
    let text = c.as_str-text.result.now in
    IfOk-weaker c.format.result _ _
    (λ made e. e ∙ joined_more (codes "post ") name (codes " ") text (codes "\n") ∙ ap (λ (z : List ℕ). line (codes "post " ++ z ++ codes " " ++ text)) c.as_str-name.ensures.bytes
    ∙ ap (λ (z : List ℕ). line (codes "post " ++ c.args.name.now ++ codes " " ++ z)) (c.as_str-text.ensures.value ∙ c.in_ok-text.ensures.printed)) c.format.ensures.ok
