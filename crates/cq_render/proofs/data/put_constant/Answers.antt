use Rattle.std.proofs.Common.{◌≡◌, ◌++◌, ◌∷◌, [], ℕ, List, subst}
use Rattle.json.specs.Token.{begin_object, end_object, key}
use Rattle.json.specs.Tree.{json_tokens}
use Rattle.cq_render.specs.Json.{value_json, constant_word}
use Rattle.cq_render.proofs.Pages.{put_both, put_then}
use Rattle.cq_render.proofs.data.put_constant.Goals as goal

pub returns : goal.returns
returns g c =
    let old = c.args.sheet.now in
    let word = constant_word c.args.value.now in
    let value = json_tokens (value_json c.args.value.now) in
    let named = subst (λ (name : List ℕ). c.key.new.self ≡ c.begin_object.new.self ++ key name ∷ []) c.constant_word.ensures c.in_ok-key.ensures in
    put_then old c.put_value.new.sheet c.end_object.new.self (begin_object ∷ key word ∷ value) (end_object ∷ []) c.end_object.result
    (put_both old c.key.new.self c.put_value.new.sheet (begin_object ∷ key word ∷ []) value
    (put_both old c.begin_object.new.self c.key.new.self (begin_object ∷ []) (key word ∷ []) c.in_ok-begin_object.ensures named) c.in_ok-put_value.ensures) c.end_object.ensures
