use Rattle.std.proofs.Common.{◌++◌, ◌∷◌, [], refl}
use Rattle.std.specs.Prelude.{codes}
use Rattle.json.specs.Token.{begin_object, end_object, key, string}
use Rattle.json.specs.Tree.{json_tokens}
use Rattle.cq_render.proofs.CallerLemmas.{put_then}
use Rattle.cq_going.specs.Data.{barred_json, none_json}
use Rattle.cq_going.specs.declared.telling.Outcome.TheVariants.{Impossible}
use Rattle.cq_going.proofs.Tellings.{on_ok}
use Rattle.cq_going.proofs.data.put_none.Goals as goal

pub returns : goal.returns
returns g c =
    let pool = c.args.board.now in
    let names = c.args.names.now in
    let lack = c.in_ok-put_disagreement.ensures in
    let one = key (codes "outcome") ∷ string (codes "none") ∷ [] in
    let two = key (codes "barred") ∷ [] in
    let three = json_tokens (barred_json pool names) in
    let four = key (codes "lack") ∷ [] in
    let five = json_tokens lack.0 in
    let last = end_object ∷ [] in
    on_ok c.end_object.result (λ is. (none_json pool names lack.0, (Impossible, (c.requires, lack.0, lack.1, refl)), is))
    (put_then c.args.sheet.now c.begin_object.new.self c.end_object.new.self (begin_object ∷ []) (one ++ (two ++ (three ++ (four ++ (five ++ last))))) c.end_object.result c.in_ok-begin_object.ensures
    (put_then c.begin_object.new.self c.text_member.new.self c.end_object.new.self one (two ++ (three ++ (four ++ (five ++ last)))) c.end_object.result c.in_ok-text_member.ensures
    (put_then c.text_member.new.self c.key.new.self c.end_object.new.self two (three ++ (four ++ (five ++ last))) c.end_object.result c.in_ok-key.ensures
    (put_then c.key.new.self c.put_all_barred.new.sheet c.end_object.new.self three (four ++ (five ++ last)) c.end_object.result c.in_ok-put_all_barred.ensures
    (put_then c.put_all_barred.new.sheet c.key-2.new.self c.end_object.new.self four (five ++ last) c.end_object.result c.in_ok-key-2.ensures
    (put_then c.key-2.new.self c.put_disagreement.new.sheet c.end_object.new.self five last c.end_object.result lack.2 c.end_object.ensures))))))
