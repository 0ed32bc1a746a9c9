use Rattle.std.proofs.Common.{◌∷◌, [], map}
use Rattle.std.specs.Prelude.{codes}
use Rattle.json.specs.Token.{begin_object, key, string}
use Rattle.json.specs.Tree.{json_tokens}
use Rattle.cq_render.specs.Json.{array_of, term_json}
use Rattle.cq_render.proofs.Pages.{put_then}
use Rattle.cq_render.proofs.data.begin_atom.Goals as goal

pub returns : goal.returns
returns g c =
    let atom = c.args.atom.now in
    put_then c.args.sheet.now c.begin_object.new.self c.put_atom_members.new.sheet (begin_object ∷ []) (key (codes "relation") ∷ string atom.relation ∷ key (codes "terms") ∷ json_tokens (array_of (map term_json atom.terms)))
    c.put_atom_members.result c.in_ok-begin_object.ensures c.put_atom_members.ensures
