use Rattle.std.proofs.Common.{◌≡◌, ◌++◌, ◌∷◌, [], ℕ, List, map, subst}
use Rattle.std.specs.Prelude.{codes}
use Rattle.json.specs.Json as values
use Rattle.json.specs.Token.{end_object, key}
use Rattle.json.specs.Tree.{json_tokens}
use Rattle.cq_atom.specs.Query.{variables_of}
use Rattle.cq_render.specs.Json.{array_of, grounding_json}
use Rattle.cq_render.proofs.Pages.{put_both, put_then}
use Rattle.cq_render.proofs.data.put_grounded.Goals as goal

pub returns : goal.returns
returns g c =
    let old = c.args.sheet.now in
    let names = json_tokens (array_of (map values.string (variables_of c.args.query.now.body))) in
    let lists = json_tokens (array_of (map grounding_json c.args.groundings.now)) in
    let second = subst (λ (ns : List (List ℕ)). c.put_variables.new.sheet ≡ c.key.new.self ++ json_tokens (array_of (map values.string ns))) c.variables.ensures c.in_ok-put_variables.ensures in
    put_then old c.put_variables.new.sheet c.end_object.new.self (key (codes "variables") ∷ names) (key (codes "groundings") ∷ (lists ++ end_object ∷ [])) c.end_object.result
    (put_both old c.key.new.self c.put_variables.new.sheet (key (codes "variables") ∷ []) names c.in_ok-key.ensures second)
    (put_then c.put_variables.new.sheet c.key-2.new.self c.end_object.new.self (key (codes "groundings") ∷ []) (lists ++ end_object ∷ []) c.end_object.result c.in_ok-key-2.ensures
    (put_then c.key-2.new.self c.put_groundings.new.sheet c.end_object.new.self lists (end_object ∷ []) c.end_object.result c.in_ok-put_groundings.ensures c.end_object.ensures))
