use Rattle.std.proofs.Common.{◌++◌, ◌∷◌, []}
use Rattle.std.specs.Prelude.{codes}
use Rattle.json.specs.Token.{begin_object, end_object, key, string}
use Rattle.cq_render.proofs.CallerLemmas.{put_then}
use Rattle.cq_going.proofs.data.put_undecided.Goals as goal

pub returns : goal.returns
returns g c =
    let one = key (codes "outcome") ∷ string (codes "undecided") ∷ [] in
    put_then c.args.sheet.now c.begin_object.new.self c.end_object.new.self (begin_object ∷ []) (one ++ end_object ∷ []) c.end_object.result c.in_ok-begin_object.ensures
    (put_then c.begin_object.new.self c.text_member.new.self c.end_object.new.self one (end_object ∷ []) c.end_object.result c.in_ok-text_member.ensures c.end_object.ensures)
