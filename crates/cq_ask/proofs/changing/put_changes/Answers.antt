use Rattle.std.proofs.Common.{◌++◌, ◌∙◌, ℕ, List, map, ap}
use Rattle.std.specs.Prelude.{string_bytes}
use Rattle.std.specs.List.{flat_map}
use Rattle.std.proofs.lemmas.Result.{on_ok_weaker}
use Rattle.cq_board.specs.Pool.{name_of}
use Rattle.cq_board.specs.Named.{matched_named}
use Rattle.cq_render.proofs.CallerLemmas.{put_both}
use Rattle.cq_ask.specs.Answer.{went_line, change_words, change_line}
use Rattle.cq_ask.proofs.changing.put_changes.Goals as goal

pub returns : goal.returns
returns g c =
    let before = c.args.before.now in
    let now = c.args.now.now in
    let went : List ℕ → List ℕ = λ name. went_line name (matched_named name now) in
    let turned : List ℕ → List ℕ = λ name. change_line name (change_words (matched_named name before) (matched_named name now)) in
    let old = ap (map (λ name. name.now)) c.deref.ensures.value ∙ c.in_ok-names.ensures in
    let new = ap (map (λ name. name.now)) c.deref-2.ensures.value ∙ c.in_ok-names-2.ensures in
    let gone = c.in_ok-put_gone.ensures ∙ ap (λ (names : List (List ℕ)). string_bytes c.args.page.now ++ flat_map went names) old in
    on_ok_weaker c.put_each.result (λ each.
    put_both (string_bytes c.args.page.now) (string_bytes c.put_gone.new.page) (string_bytes c.put_each.new.page) (flat_map went (map name_of before.pending)) (flat_map turned (map name_of now.pending)) gone
    (each ∙ ap (λ (names : List (List ℕ)). string_bytes c.put_gone.new.page ++ flat_map turned names) new)) c.put_each.ensures
