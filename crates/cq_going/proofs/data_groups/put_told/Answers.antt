use Rattle.std.proofs.Common.{◌++◌, ◌∷◌, [], map}
use Rattle.std.specs.Prelude.{codes}
use Rattle.json.specs.Json as values
use Rattle.json.specs.Token.{begin_object, end_object, key, string}
use Rattle.json.specs.Tree.{json_tokens}
use Rattle.cq_render.specs.Json.{array_of}
use Rattle.cq_render.proofs.CallerLemmas.{put_then}
use Rattle.cq_going.proofs.data_groups.put_told.Goals as goal

pub returns : goal.returns
returns g c =
    let one = key (codes "queries") ∷ [] in
    let two = json_tokens (array_of (map values.string c.args.names.now)) in
    let three = key (codes "verdict") ∷ string c.args.words.now ∷ [] in
    let last = end_object ∷ [] in
    put_then c.args.sheet.now c.begin_object.new.self c.end_object.new.self (begin_object ∷ []) (one ++ (two ++ (three ++ last))) c.end_object.result c.in_ok-begin_object.ensures
    (put_then c.begin_object.new.self c.key.new.self c.end_object.new.self one (two ++ (three ++ last)) c.end_object.result c.in_ok-key.ensures
    (put_then c.key.new.self c.put_names.new.sheet c.end_object.new.self two (three ++ last) c.end_object.result c.in_ok-put_names.ensures
    (put_then c.put_names.new.sheet c.text_member.new.self c.end_object.new.self three last c.end_object.result c.in_ok-text_member.ensures c.end_object.ensures)))
