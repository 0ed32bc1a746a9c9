use Rattle.std.proofs.Common.{◌≡◌, ◌++◌, ◌∙◌, ℕ, List, Option, ap, sym}
use Rattle.std.specs.Prelude.{codes, decimal, string_bytes}
use Rattle.std.proofs.lemmas.Result.{on_ok_weaker}
use Rattle.cq_report.specs.declared.tally.Refused.{Refused}
use Rattle.cq_report.specs.Refusals.{refusal_words}
use Rattle.cq_report.specs.Summary.{first_words}
use Rattle.cq_report.proofs.Sums.{three_put}
use Rattle.cq_report.proofs.summary.put_first.Goals as goal

pub returns : goal.returns
returns g c =
    let page = string_bytes c.args.page.now in
    let first = c.in-Some.first in
    let written : string_bytes c.write.new.self ≡ page ++ (codes ", first line " ++ (decimal first.line ++ codes ": ")) = c.in_ok-write.ensures.bytes in
    on_ok_weaker c.put.result
    (λ is.
    is ∙ ap (λ (l : List ℕ). l ++ refusal_words first.why) written ∙ three_put page (codes ", first line ") (decimal first.line) (codes ": ") (refusal_words first.why)
    ∙ ap (λ (f : Option Refused). page ++ first_words f) (sym c.in-Some.is))
    c.put.ensures
