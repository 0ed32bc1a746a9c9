use Rattle.std.proofs.Common.{◌≡◌, ◌++◌, ◌∷◌, [], Bool, map, subst}
use Rattle.std.specs.Prelude.{codes, OnOk}
use Rattle.json.specs.Json as values
use Rattle.json.specs.Token.{begin_object, end_object, key, string, boolean}
use Rattle.json.specs.Tree.{json_tokens}
use Rattle.cq_render.specs.Json.{object_of, array_of, term_json, atom_members, provider_json}
use Rattle.cq_render.proofs.Pages.{put_both, put_then}
use Rattle.cq_render.proofs.data.put_post.Goals as goal

pub returns : goal.returns
returns g c =
    let old = c.args.sheet.now in
    let post = c.args.post.now in
    let all = array_of (map (provider_json c.args.listing.now.board.now.pending) c.args.providers.now) in
    let atom = begin_object ∷ key (codes "relation") ∷ string post.relation ∷ key (codes "terms") ∷ json_tokens (array_of (map term_json post.terms)) in
    let one = key (codes "providers") ∷ [] in
    let two = json_tokens all in
    let three = key (codes "crowded") ∷ boolean c.is_crowd.result ∷ [] in
    subst (λ (b : Bool). OnOk c.end_object.result (c.end_object.new.self ≡ old ++ json_tokens (object_of (atom_members post ++ (codes "providers", all) ∷ (codes "crowded", values.boolean b) ∷ []))))
    c.is_crowd.ensures
    (put_then old c.begin_atom.new.sheet c.end_object.new.self atom ((one ++ two) ++ (three ++ end_object ∷ [])) c.end_object.result c.in_ok-begin_atom.ensures
    (put_then c.begin_atom.new.sheet c.put_providers.new.sheet c.end_object.new.self (one ++ two) (three ++ end_object ∷ []) c.end_object.result
    (put_both c.begin_atom.new.sheet c.key.new.self c.put_providers.new.sheet one two c.in_ok-key.ensures c.in_ok-put_providers.ensures)
    (put_then c.put_providers.new.sheet c.boolean.new.self c.end_object.new.self three (end_object ∷ []) c.end_object.result
    (put_both c.put_providers.new.sheet c.key-2.new.self c.boolean.new.self (key (codes "crowded") ∷ []) (boolean c.is_crowd.result ∷ []) c.in_ok-key-2.ensures c.in_ok-boolean.ensures) c.end_object.ensures)))
