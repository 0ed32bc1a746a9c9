use Rattle.std.proofs.Common.{◌≡◌, ◌++◌, ◌∙◌, ℕ, List, ap}
use Rattle.std.specs.Prelude.{codes, string_bytes, IfOk}
use Rattle.std.proofs.lemmas.Result.{IfOk-weaker}
use Rattle.cq_report.specs.Summary.{summary}
use Rattle.cq_cli.proofs.Lines.{four_put}
use Rattle.cq_cli.proofs.replaying.line_of.Goals as goal

pub returns : goal.returns
returns g c =
    let origin = c.args.origin.now in
    let sum = summary c.args.played.now in
    let words : string_bytes c.put_summary.new.page ≡ sum = c.in_ok-put_summary.ensures ∙ ap (λ (l : List ℕ). l ++ sum) c.new-words.ensures.bytes in
    let written : IfOk c.format.result (λ text. string_bytes text ≡ codes "board: " ++ (origin ++ (string_bytes c.put_summary.new.page ++ codes "\n"))) = c.format.ensures.ok in
    IfOk-weaker c.format.result _ _
    (λ text is. is ∙ ap (λ (w : List ℕ). codes "board: " ++ (origin ++ (w ++ codes "\n"))) words ∙ four_put (codes "board: ") origin sum (codes "\n"))
    written
