use Rattle.std.proofs.Common.{◌≡◌, ◌∙◌, ◌++◌, ℕ, List, map, subst, ap}
use Rattle.std.specs.List.{flat_map}
use Rattle.json.specs.Json.{Json}
use Rattle.cq_board.specs.Pool.{name_of}
use Rattle.cq_board.specs.Named.{matched_named}
use Rattle.cq_ask.specs.Data.{went_json, change_word, changed_json}
use Rattle.cq_ask.specs.Steps.Several.{all_tokens}
use Rattle.cq_ask.proofs.Members.{array_of_both}
use Rattle.cq_ask.proofs.data.put_changes.Goals as goal

pub returns : goal.returns
returns g c =
    let before = c.args.before.now in
    let now = c.args.now.now in
    let went : List ℕ → List Json = λ (name : List ℕ). went_json now name (matched_named name now) in
    let changed : List ℕ → List Json = λ (name : List ℕ). changed_json now name (change_word (matched_named name before) (matched_named name now)) in
    let first = c.begin_array.new.self in
    let old = ap (map (λ name. name.now)) c.deref.ensures.value ∙ c.in_ok-names.ensures in
    let new = ap (map (λ name. name.now)) c.deref-2.ensures.value ∙ c.in_ok-names-2.ensures in
    let one = subst (λ (names : List (List ℕ)). c.put_gone.new.sheet ≡ first ++ all_tokens (flat_map went names)) old c.in_ok-put_gone.ensures in
    let two = subst (λ (names : List (List ℕ)). c.put_each_change.new.sheet ≡ c.put_gone.new.sheet ++ all_tokens (flat_map changed names)) new c.in_ok-put_each_change.ensures in
    array_of_both c.args.sheet.now first c.put_gone.new.sheet c.put_each_change.new.sheet c.end_array.new.self (flat_map went (map name_of before.pending)) (flat_map changed (map name_of now.pending)) c.end_array.result
    c.in_ok-begin_array.ensures one two c.end_array.ensures
