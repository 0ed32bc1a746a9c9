use Rattle.std.proofs.Common.{◌≡◌, ◌∙◌, ℕ, List, map, filter, ap, subst}
use Rattle.std.specs.Prelude.{OnOk}
use Rattle.cq_board.specs.Waiting.{is_waiting}
use Rattle.cq_render.specs.Explain.{waiting_names}
use Rattle.cq_render.specs.Data.{IsPut, IsArray, IsWhyJson}
use Rattle.cq_render.proofs.reasons.put_all.Goals as goal

pub returns : goal.returns
returns g c =
    let pool = c.args.board.now in
    let those : map (λ name. name.now) c.in_ok-waiting.waiting.items ≡ waiting_names pool =
    c.in_ok-waiting.ensures ∙ rw c.deref.ensures.value (ap (filter (λ (name : List ℕ). is_waiting name pool)) c.in_ok-names.ensures) in
    subst (λ (names : List (List ℕ)). OnOk c.put_each.result (IsPut (IsArray (IsWhyJson pool) names) c.args.sheet.now c.put_each.new.sheet)) those (rw c.deref-2.ensures.value at c.put_each.ensures)
