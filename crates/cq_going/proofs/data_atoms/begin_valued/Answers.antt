use Rattle.std.proofs.Common.{◌≡◌, ◌++◌, ◌∷◌, [], ℕ, List, subst}
use Rattle.std.specs.Prelude.{codes}
use Rattle.json.specs.Token.{begin_object, key, string}
use Rattle.json.specs.Tree.{json_tokens}
use Rattle.cq_render.specs.Json.{grounding_json}
use Rattle.cq_render.proofs.CallerLemmas.{put_then}
use Rattle.cq_going.proofs.data_atoms.begin_valued.Goals as goal

pub returns : goal.returns
returns g c =
    let values = json_tokens (grounding_json c.args.values.now) in
    let name = key (codes "query") ∷ string c.args.name.now ∷ [] in
    let word = key (codes "values") ∷ [] in
    let named = subst (λ (name : List ℕ). c.text_member.new.self ≡ c.begin_object.new.self ++ key (codes "query") ∷ string name ∷ []) c.as_str.ensures.bytes c.in_ok-text_member.ensures in
    put_then c.args.sheet.now c.begin_object.new.self c.put_values.new.sheet (begin_object ∷ []) (name ++ (word ++ values)) c.put_values.result c.in_ok-begin_object.ensures
    (put_then c.begin_object.new.self c.text_member.new.self c.put_values.new.sheet name (word ++ values) c.put_values.result named
    (put_then c.text_member.new.self c.key.new.self c.put_values.new.sheet word values c.put_values.result c.in_ok-key.ensures c.put_values.ensures))
