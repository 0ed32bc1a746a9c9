use Rattle.std.proofs.Common.{◌≡◌, ◌++◌, ◌∷◌, [], map, ap, refl}
use Rattle.std.specs.Prelude.{codes, OnOk}
use Rattle.json.specs.Tree.{json_tokens}
use Rattle.cq_board.specs.Near.{miss_read}
use Rattle.cq_render.specs.Json.{array_of, object_of}
use Rattle.cq_render.specs.Data.{standing_members, near_json, IsNearOf}
use Rattle.cq_render.proofs.Telling.{put_so}
use Rattle.cq_render.proofs.reasons.put_near.Goals as goal

pub returns : goal.returns
returns g c =
    let pool = c.args.board.now in
    let name = c.args.name.now in
    let near = c.in_ok-near.ensures in
    let heads = array_of (map (near_json pool.pending) (map (miss_read (λ name. name.now)) c.in_ok-near.near.items)) in
    let value = object_of (standing_members pool name ++ (codes "heads", heads) ∷ []) in
    let put : OnOk c.put_near_heads.result (c.put_near_heads.new.sheet ≡ c.args.sheet.now ++ json_tokens value) = rw c.deref.ensures.value at c.put_near_heads.ensures in
    put_so (IsNearOf pool c.args.post name) value c.args.sheet.now c.put_near_heads.new.sheet c.put_near_heads.result
    (heads, (near.0, near.1, ap (λ found. array_of (map (near_json pool.pending) found)) near.2), refl) put
