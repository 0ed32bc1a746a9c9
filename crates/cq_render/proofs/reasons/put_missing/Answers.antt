use Rattle.std.proofs.Common.{◌≡◌, ◌++◌, [], ℕ, List, map, ap}
use Rattle.std.specs.Prelude.{OnOk}
use Rattle.json.specs.Tree.{json_tokens}
use Rattle.cq_board.specs.Near.{miss_read, misses_named, miss_named, AreNearest}
use Rattle.cq_render.specs.Json.{array_of}
use Rattle.cq_render.specs.Data.{near_json, IsUnmetJson}
use Rattle.cq_render.proofs.Telling.{put_so}
use Rattle.cq_render.proofs.reasons.put_missing.Goals as goal

pub returns : goal.returns
returns g c =
    let fallen = c.args.fallen.now in
    let pending = fallen.listing.now.board.now.pending in
    let name = c.args.name.now in
    let found = map (miss_read (λ name. name.now)) c.in_ok-near.near.items in
    let near : (nearest : List (ℕ × ℕ × ℕ)) × AreNearest (misses_named name c.args.post pending) nearest × (found ≡ map (miss_named pending) nearest) = rw fallen.offered at c.in_ok-near.ensures in
    let heads = array_of (map (near_json pending) found) in
    let put : OnOk c.put_heads.result (c.put_heads.new.sheet ≡ c.args.sheet.now ++ json_tokens heads) = rw c.deref.ensures.value at c.put_heads.ensures in
    put_so (IsUnmetJson pending name c.args.post []) heads c.args.sheet.now c.put_heads.new.sheet c.put_heads.result
    (near.0, near.1, ap (λ misses. array_of (map (near_json pending) misses)) near.2) put
