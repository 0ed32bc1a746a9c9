use Rattle.std.proofs.Common.{◌+◌, map, drop, ap, arith}
use Rattle.json.specs.Tree.{json_tokens}
use Rattle.cq_board.specs.Near.{miss_read}
use Rattle.cq_render.specs.Data.{near_json}
use Rattle.cq_render.proofs.Pieces.{read_at, nothing_left}
use Rattle.cq_render.proofs.Arrays.{listed, listed_of, put_array}
use Rattle.cq_render.proofs.Pages.{put_on}
use Rattle.cq_render.proofs.reasons.put_heads.Goals as goal

pub loop-miss-preserved : goal.loop-miss-preserved
loop-miss-preserved g c =
    let i = c.loop-miss.miss-index in
    let items = c.args.near.now in
    let f = near_json c.args.board.now.pending in
    let miss = c.miss-item.result in
    put_on c.loop-miss.sheet c.put_head.new.sheet (json_tokens (f (miss_read (λ name. name.now) miss))) _ (listed f (map (miss_read (λ name. name.now)) (drop (i + 1) items))) _
    (listed_of f (miss_read (λ name. name.now)) items i miss (read_at items i miss c.loop-miss-test.true c.miss-item.is)) c.loop-miss.invariant c.in_ok-put_head.ensures

pub returns : goal.returns
returns g c =
    let f = near_json c.args.board.now.pending in
    put_array _ _ c.loop-miss.sheet c.end_array.new.self _ (listed f (map (miss_read (λ name. name.now)) (drop c.loop-miss.miss-index c.args.near.now))) c.end_array.result
    c.in_ok-begin_array.ensures c.loop-miss.invariant (ap (λ left. listed f (map (miss_read (λ name. name.now)) left)) (nothing_left c.args.near.now c.loop-miss.miss-index (omega arith))) c.end_array.ensures
