use Rattle.std.proofs.Common.{[], ◌∷◌}
use Rattle.std.specs.Prelude.{codes}
use Rattle.json.specs.Token.{begin_object, end_object, key, string}
use Rattle.cq_render.proofs.Pages.{put_both, put_then}
use Rattle.cq_render.proofs.data.put_variable.Goals as goal

pub returns : goal.returns
returns g c =
    let old = c.args.sheet.now in
    let one = begin_object ∷ [] in
    let two = key (codes "variable") ∷ string c.args.name.now ∷ [] in
    put_then old c.text_member.new.self c.end_object.new.self (begin_object ∷ two) (end_object ∷ []) c.end_object.result
    (put_both old c.begin_object.new.self c.text_member.new.self one two c.in_ok-begin_object.ensures c.in_ok-text_member.ensures) c.end_object.ensures
