use Rattle.std.proofs.Common.{◌≡◌, ◌++◌, ◌∙◌, Bool, true, refl, sym, ap}
use Rattle.std.specs.Prelude.{codes, string_bytes, IfOk}
use Rattle.std.proofs.lemmas.Result.{IfOk-weaker}
use Rattle.cq_cli.specs.Views.{mark_note}
use Rattle.cq_cli.proofs.Lines.{told_some}
use Rattle.cq_cli.proofs.writing.marked_notes.Goals as goal

pub returns-then-is_marked : goal.returns-then-is_marked
returns-then-is_marked g c =
    let origin = c.args.origin.now in
    let lines = string_bytes c.args.lines in
    let marked : mark_note origin c.args.is_marked ++ lines ≡ mark_note origin true ++ lines = ap (λ (b : Bool). mark_note origin b ++ lines) c.if-is_marked.true in
    let written : IfOk c.format.result (λ text. string_bytes text ≡ codes "board: " ++ (origin ++ (codes "a byte order mark, with which no script begins\n" ++ lines))) = c.format.ensures.ok in
    IfOk-weaker c.format.result _ _ (λ text is. is ∙ told_some origin (codes "a byte order mark, with which no script begins") lines refl ∙ sym marked) written
