use Rattle.std.proofs.Common.{◌≡◌, ◌++◌, ◌∷◌, [], ℕ, List, map, subst}
use Rattle.std.specs.Prelude.{codes, OnOk}
use Rattle.json.specs.Token.{key, string}
use Rattle.json.specs.Tree.{json_tokens}
use Rattle.cq_atom.specs.Atom.{TermContent}
use Rattle.cq_atom.specs.Valuation.{term_under}
use Rattle.cq_board.specs.Choice.{bound}
use Rattle.cq_render.specs.Json.{array_of, term_json}
use Rattle.cq_render.proofs.CallerLemmas.{put_then}
use Rattle.cq_going.proofs.data_atoms.put_members.Goals as goal

pub returns : goal.returns
returns g c =
    let atom = c.args.atom.now in
    let put : List TermContent → List _ = λ (terms : List TermContent). json_tokens (array_of (map term_json (map (term_under (bound c.args.query.now c.args.values.now)) terms))) in
    let relation = key (codes "relation") ∷ string atom.relation ∷ [] in
    let word = key (codes "terms") ∷ [] in
    let named = subst (λ (name : List ℕ). c.text_member.new.self ≡ c.args.sheet.now ++ key (codes "relation") ∷ string name ∷ []) c.relation.ensures.value c.in_ok-text_member.ensures in
    put_then c.args.sheet.now c.text_member.new.self c.put_terms.new.sheet relation (word ++ put atom.terms) c.put_terms.result named
    (put_then c.text_member.new.self c.key.new.self c.put_terms.new.sheet word (put atom.terms) c.put_terms.result c.in_ok-key.ensures
    (subst (λ (terms : List TermContent). OnOk c.put_terms.result (c.put_terms.new.sheet ≡ c.key.new.self ++ put terms)) c.terms.ensures.value c.put_terms.ensures))
