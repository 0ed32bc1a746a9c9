use Rattle.std.proofs.Common.{◌≡◌, ◌∙◌, ℕ, List, true, false, length, subst, sym}
use Rattle.std.specs.Prelude.{◌==◌, OnOk}
use Rattle.cq_render.specs.Data.{IsPut, IsArray, IsWhyJson}
use Rattle.cq_render.proofs.Telling.{told_none, told_some}
use Rattle.cq_render.proofs.reasons.put_reasons.Goals as goal

pub returns-then-is_empty : goal.returns-then-is_empty
returns-then-is_empty g c =
    let pool = c.args.board.now in
    let names = c.args.names.now in
    let none : (length names == 0) ≡ true = sym c.is_empty.ensures ∙ c.if-is_empty.true in
    subst (λ (those : List (List ℕ)). OnOk c.put_all.result (IsPut (IsArray (IsWhyJson pool) those) c.args.sheet.now c.put_all.new.sheet)) (told_none pool names none) c.put_all.ensures

pub returns-else-is_empty : goal.returns-else-is_empty
returns-else-is_empty g c =
    let pool = c.args.board.now in
    let names = c.args.names.now in
    let many : (length names == 0) ≡ false = sym c.is_empty.ensures ∙ c.if-is_empty.false in
    subst (λ (those : List (List ℕ)). OnOk c.put_given.result (IsPut (IsArray (IsWhyJson pool) those) c.args.sheet.now c.put_given.new.sheet)) (told_some pool names many) c.put_given.ensures
