use Rattle.std.proofs.Common.{◌++◌, ◌∷◌, [], refl}
use Rattle.std.specs.Prelude.{codes}
use Rattle.cq_render.specs.Json.{object_of}
use Rattle.cq_render.specs.Data.{standing_members}
use Rattle.cq_render.specs.Steps.Telling.{IsPartJson}
use Rattle.cq_render.proofs.Telling.{put_object, put_more, put_so}
use Rattle.cq_render.proofs.reasons.put_part.Goals as goal

pub returns : goal.returns
returns g c =
    let pool = c.args.fallen.now.listing.now.board.now in
    let name = c.args.name.now in
    let first = c.begin_object.new.self in
    let standing = standing_members pool name in
    let steps = c.in_ok-put_steps.ensures in
    let members = standing ++ (codes "steps", steps.0) ∷ [] in
    put_so (IsPartJson pool name c.args.part.now) (object_of members) c.args.sheet.now c.end_object.new.self c.end_object.result (steps.0, steps.1, refl)
    (put_object c.args.sheet.now first c.put_steps.new.sheet c.end_object.new.self members c.end_object.result c.in_ok-begin_object.ensures
    (put_more first c.put_state.new.sheet c.key.new.self c.put_steps.new.sheet standing (codes "steps") steps.0 c.in_ok-put_state.ensures c.in_ok-key.ensures steps.2) c.end_object.ensures)
