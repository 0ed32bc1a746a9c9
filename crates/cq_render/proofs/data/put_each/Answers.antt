use Rattle.std.proofs.Common.{◌≡◌, ◌+◌, ◌++◌, ◌∙◌, List, length, map, drop, ap, subst, arith}
use Rattle.std.specs.Prelude.{OnOk}
use Rattle.json.specs.Json.{Json}
use Rattle.json.specs.Tree.{json_tokens}
use Rattle.cq_render.specs.Json.{array_of}
use Rattle.cq_render.specs.Steps.Walking.{shown_json, shown_read}
use Rattle.cq_render.proofs.Pieces.{read_at, nothing_left}
use Rattle.cq_render.proofs.Arrays.{listed, listed_of, put_array}
use Rattle.cq_render.proofs.Pages.{put_on}
use Rattle.cq_render.proofs.Walked.{json_all}
use Rattle.cq_render.proofs.data.put_each.Goals as goal

pub loop-shown-preserved : goal.loop-shown-preserved
loop-shown-preserved g c =
    let items = c.args.listing.now.queries.items in
    let i = c.loop-shown.shown-index in
    let f = shown_json c.args.listing.now.board.now.pending in
    let shown = c.shown-item.result in
    let got = rw c.deref-shown-items.ensures.value at (read_at c.deref-shown-items.result.now i shown c.loop-shown-test.true c.shown-item.is) in
    put_on c.loop-shown.sheet c.put_query.new.sheet (json_tokens (f (shown_read shown))) _ (listed f (map shown_read (drop (i + 1) items))) _
    (listed_of f shown_read items i shown got) c.loop-shown.invariant c.in_ok-put_query.ensures

pub returns : goal.returns
returns g c =
    let listing = c.args.listing.now in
    let pool = listing.board.now in
    let items = listing.queries.items in
    let i = c.loop-shown.shown-index in
    let f = shown_json pool.pending in
    let has : length c.deref-shown-items.result.now ≡ length items = ap length c.deref-shown-items.ensures.value in
    subst (λ (js : List Json). OnOk c.end_array.result (c.end_array.new.self ≡ c.args.sheet.now ++ json_tokens (array_of js))) (ap (map f) listing.walked ∙ json_all pool)
    (put_array _ _ c.loop-shown.sheet c.end_array.new.self _ (listed f (map shown_read (drop i items))) c.end_array.result
    c.in_ok-begin_array.ensures c.loop-shown.invariant (ap (λ shown. listed f (map shown_read shown)) (nothing_left items i (omega arith))) c.end_array.ensures)
