use Rattle.std.proofs.Common.{◌≡◌, ◌==◌, ◌++◌, ◌∙◌, ℕ, false, List, length, ap, sym, subst}
use Rattle.std.specs.Prelude.{codes, string_bytes, IfOk}
use Rattle.std.proofs.lemmas.Result.{IfOk-weaker}
use Rattle.cq_report.specs.Summary.{warning}
use Rattle.cq_cli.proofs.Lines.{told_some}
use Rattle.cq_cli.proofs.looking.notes_on.Goals as goal

pub returns : goal.returns
returns g c =
    let origin = c.args.origin.now in
    let lines = c.args.lines.now in
    let told = warning c.args.script.now in
    let words : string_bytes c.put_warning.new.page ≡ told = c.in_ok-put_warning.ensures ∙ ap (λ (l : List ℕ). l ++ told) c.new-words.ensures.bytes in
    let some : (length told == 0) ≡ false = subst (λ (w : List ℕ). (length w == 0) ≡ false) (c.as_str.ensures.value ∙ words) (sym c.is_empty.ensures ∙ c.if-is_empty.false) in
    let written : IfOk c.format.result (λ text. string_bytes text ≡ codes "board: " ++ (origin ++ (string_bytes c.put_warning.new.page ++ (codes "\n" ++ lines)))) = c.format.ensures.ok in
    IfOk-weaker c.format.result _ _
    (λ text is. is ∙ ap (λ (w : List ℕ). codes "board: " ++ (origin ++ (w ++ (codes "\n" ++ lines)))) words ∙ told_some origin told lines some)
    written
