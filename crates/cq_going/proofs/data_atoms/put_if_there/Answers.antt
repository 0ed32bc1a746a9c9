use Rattle.std.proofs.Common.{◌++◌, ◌∷◌, ◌∙◌, List, map, ap, sym, append-nil}
use Rattle.std.specs.Prelude.{codes}
use Rattle.json.specs.Token.{Token, key, string}
use Rattle.json.specs.Tree.{json_tokens}
use Rattle.cq_atom.specs.Valuation.{term_under}
use Rattle.cq_board.specs.Choice.{bound}
use Rattle.cq_render.specs.Json.{array_of, term_json}
use Rattle.cq_going.proofs.Tellings.{on_ok}
use Rattle.cq_going.proofs.data_atoms.put_if_there.Goals as goal

pub returns-in-Some : goal.returns-in-Some
returns-in-Some g c =
    let atom = c.in-Some.atom.now in
    let terms = json_tokens (array_of (map term_json (map (term_under (bound c.args.query.now c.args.values.now)) atom.terms))) in
    rw c.in-Some.is
    (on_ok c.put_members.result
    (λ is. is ∙ ap (λ (z : List Token). c.args.sheet.now ++ key (codes "relation") ∷ string atom.relation ∷ key (codes "terms") ∷ z) (sym (append-nil terms))) c.put_members.ensures)
