use Rattle.std.proofs.Common.{◌++◌, ◌∷◌, [], map}
use Rattle.std.specs.Prelude.{codes}
use Rattle.json.specs.Token.{begin_object, end_object, key, string}
use Rattle.json.specs.Tree.{json_tokens}
use Rattle.cq_board.specs.Named.{query_named}
use Rattle.cq_board.specs.Choice.{offered_by}
use Rattle.cq_render.specs.Json.{array_of, atom_json, grounding_json}
use Rattle.cq_render.proofs.CallerLemmas.{put_then}
use Rattle.cq_going.proofs.data.put_choice.Goals as goal

pub returns : goal.returns
returns g c =
    let choice = c.args.choice.now in
    let front = begin_object ∷ key (codes "query") ∷ string choice.name ∷ key (codes "values") ∷ json_tokens (grounding_json choice.values) in
    let word = key (codes "offers") ∷ [] in
    let offers = json_tokens (array_of (map atom_json (offered_by (query_named choice.name c.args.board.now.pending) choice.values))) in
    let last = end_object ∷ [] in
    put_then c.args.sheet.now c.begin_valued.new.sheet c.end_object.new.self front (word ++ (offers ++ last)) c.end_object.result
    (rw (c.name_of-name.ensures, c.values_of-values.ensures) at c.in_ok-begin_valued.ensures)
    (put_then c.begin_valued.new.sheet c.key.new.self c.end_object.new.self word (offers ++ last) c.end_object.result c.in_ok-key.ensures
    (put_then c.key.new.self c.put_offers.new.sheet c.end_object.new.self offers last c.end_object.result
    (rw (c.query.ensures, c.name_of-name.ensures, c.values_of-values.ensures) at c.in_ok-put_offers.ensures) c.end_object.ensures))
