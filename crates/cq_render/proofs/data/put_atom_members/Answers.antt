use Rattle.std.proofs.Common.{◌≡◌, ◌++◌, ◌∷◌, [], ℕ, List, map, subst}
use Rattle.std.specs.Prelude.{codes, OnOk}
use Rattle.json.specs.Token.{key, string}
use Rattle.json.specs.Tree.{json_tokens}
use Rattle.cq_atom.specs.Atom.{TermContent}
use Rattle.cq_render.specs.Json.{array_of, term_json}
use Rattle.cq_render.proofs.Pages.{put_both, put_then}
use Rattle.cq_render.proofs.data.put_atom_members.Goals as goal

pub returns : goal.returns
returns g c =
    let old = c.args.sheet.now in
    let atom = c.args.atom.now in
    let one = key (codes "relation") ∷ string atom.relation ∷ [] in
    let two = key (codes "terms") ∷ [] in
    let named = subst (λ (name : List ℕ). c.text_member.new.self ≡ old ++ key (codes "relation") ∷ string name ∷ []) c.relation.ensures.value c.in_ok-text_member.ensures in
    put_then old c.key.new.self c.put_terms.new.sheet (one ++ two) (json_tokens (array_of (map term_json atom.terms))) c.put_terms.result
    (put_both old c.text_member.new.self c.key.new.self one two named c.in_ok-key.ensures)
    (subst (λ (terms : List TermContent). OnOk c.put_terms.result (c.put_terms.new.sheet ≡ c.key.new.self ++ json_tokens (array_of (map term_json terms)))) c.terms.ensures.value c.put_terms.ensures)
