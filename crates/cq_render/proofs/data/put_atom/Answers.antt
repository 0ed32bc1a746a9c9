use Rattle.std.proofs.Common.{◌∷◌, [], map}
use Rattle.std.specs.Prelude.{codes}
use Rattle.json.specs.Token.{begin_object, end_object, key, string}
use Rattle.json.specs.Tree.{json_tokens}
use Rattle.cq_render.specs.Json.{array_of, term_json}
use Rattle.cq_render.proofs.Pages.{put_then}
use Rattle.cq_render.proofs.data.put_atom.Goals as goal

pub returns : goal.returns
returns g c =
    let atom = c.args.atom.now in
    let front = begin_object ∷ key (codes "relation") ∷ string atom.relation ∷ key (codes "terms") ∷ json_tokens (array_of (map term_json atom.terms)) in
    put_then c.args.sheet.now c.begin_atom.new.sheet c.end_object.new.self front (end_object ∷ []) c.end_object.result c.in_ok-begin_atom.ensures c.end_object.ensures
