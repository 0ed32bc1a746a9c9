use Rattle.std.proofs.Common.{◌++◌, ◌∷◌, [], map}
use Rattle.std.specs.Prelude.{codes}
use Rattle.cq_board.specs.Near.{miss_read}
use Rattle.cq_render.specs.Json.{array_of}
use Rattle.cq_render.specs.Data.{standing_members, near_json}
use Rattle.cq_render.proofs.Telling.{put_object, put_more}
use Rattle.cq_render.proofs.reasons.put_near_heads.Goals as goal

pub returns : goal.returns
returns g c =
    let pool = c.args.board.now in
    let first = c.begin_object.new.self in
    let standing = standing_members pool c.args.name.now in
    let heads = array_of (map (near_json pool.pending) (map (miss_read (λ name. name.now)) c.args.near.now)) in
    put_object c.args.sheet.now first c.put_heads.new.sheet c.end_object.new.self (standing ++ (codes "heads", heads) ∷ []) c.end_object.result c.in_ok-begin_object.ensures
    (put_more first c.put_state.new.sheet c.key.new.self c.put_heads.new.sheet standing (codes "heads") heads c.in_ok-put_state.ensures c.in_ok-key.ensures c.in_ok-put_heads.ensures)
    c.end_object.ensures
