use Rattle.std.proofs.Common.{◌++◌, ◌∷◌, [], map, append_assoc}
use Rattle.std.specs.Prelude.{codes}
use Rattle.json.specs.Json.{string}
use Rattle.cq_board.specs.Near.{post_named}
use Rattle.cq_render.specs.Json.{array_of, count}
use Rattle.cq_render.specs.Data.{members_or_none, IsUnmetJson}
use Rattle.cq_render.specs.Steps.Telling.{AreUnmet}
use Rattle.cq_render.proofs.Telling.{put_more, put_last_member}
use Rattle.cq_render.proofs.reasons.put_unmet_post.Goals as goal

pub returns : goal.returns
returns g c =
    let old = c.args.sheet.now in
    let pending = c.args.fallen.now.listing.now.board.now.pending in
    let name = c.args.name.now in
    let post = c.args.post in
    let names = map (λ name. name.now) c.args.providers.now in
    let providers = (codes "providers", array_of (map string names)) ∷ [] in
    let front = (codes "reason", string (codes "unmet")) ∷ (codes "post", count post) ∷ members_or_none (post_named name post pending) in
    put_last_member (IsUnmetJson pending name post names) (AreUnmet pending name post names) old c.put_names.new.sheet c.key-2.new.self c.put_unmet.new.sheet (front ++ providers) (codes "near") c.put_unmet.result
    (put_more old c.put_post.new.sheet c.key.new.self c.put_names.new.sheet front (codes "providers") (array_of (map string names)) c.in_ok-put_post.ensures c.in_ok-key.ensures c.in_ok-put_names.ensures)
    c.in_ok-key-2.ensures (λ heads told. (heads, told, append_assoc front providers ((codes "near", heads) ∷ []))) c.put_unmet.ensures
