use Rattle.std.proofs.Common.{◌++◌, ◌∷◌, [], map}
use Rattle.std.specs.Prelude.{codes}
use Rattle.json.specs.Token.{begin_object, end_object, key, string}
use Rattle.json.specs.Tree.{json_tokens}
use Rattle.cq_render.specs.Json.{array_of}
use Rattle.cq_render.proofs.CallerLemmas.{put_then}
use Rattle.cq_going.specs.Data.{choice_json}
use Rattle.cq_going.proofs.data.put_found.Goals as goal

pub returns : goal.returns
returns g c =
    let one = key (codes "outcome") ∷ string (codes "found") ∷ [] in
    let two = key (codes "choices") ∷ [] in
    let three = json_tokens (array_of (map (choice_json c.args.board.now.pending) c.args.choices.now)) in
    let last = end_object ∷ [] in
    put_then c.args.sheet.now c.begin_object.new.self c.end_object.new.self (begin_object ∷ []) (one ++ (two ++ (three ++ last))) c.end_object.result c.in_ok-begin_object.ensures
    (put_then c.begin_object.new.self c.text_member.new.self c.end_object.new.self one (two ++ (three ++ last)) c.end_object.result c.in_ok-text_member.ensures
    (put_then c.text_member.new.self c.key.new.self c.end_object.new.self two (three ++ last) c.end_object.result c.in_ok-key.ensures
    (put_then c.key.new.self c.put_choices.new.sheet c.end_object.new.self three last c.end_object.result c.in_ok-put_choices.ensures c.end_object.ensures)))
