use Rattle.std.proofs.Common.{◌++◌, ◌∷◌, [], map}
use Rattle.std.specs.Prelude.{codes}
use Rattle.json.specs.Token.{begin_object, end_object, key, string}
use Rattle.json.specs.Tree.{json_tokens}
use Rattle.cq_atom.specs.Valuation.{term_under}
use Rattle.cq_board.specs.Choice.{bound}
use Rattle.cq_render.specs.Json.{array_of, term_json}
use Rattle.cq_render.proofs.CallerLemmas.{put_then}
use Rattle.cq_going.proofs.data_atoms.put_atom.Goals as goal

pub returns : goal.returns
returns g c =
    let atom = c.args.atom.now in
    let terms = json_tokens (array_of (map term_json (map (term_under (bound c.args.query.now c.args.values.now)) atom.terms))) in
    let members = key (codes "relation") ∷ string atom.relation ∷ key (codes "terms") ∷ terms in
    put_then c.args.sheet.now c.begin_object.new.self c.end_object.new.self (begin_object ∷ []) (members ++ end_object ∷ []) c.end_object.result c.in_ok-begin_object.ensures
    (put_then c.begin_object.new.self c.put_members.new.sheet c.end_object.new.self members (end_object ∷ []) c.end_object.result c.in_ok-put_members.ensures c.end_object.ensures)
