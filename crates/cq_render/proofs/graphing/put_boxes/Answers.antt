use Rattle.std.proofs.Common.{◌≡◌, ◌+◌, ◌++◌, ◌∙◌, ℕ, List, length, map, drop, ap, arith}
use Rattle.std.specs.Prelude.{string_bytes}
use Rattle.std.specs.List.{flat_map}
use Rattle.cq_render.specs.Graph.{is_drawn}
use Rattle.cq_render.specs.Steps.Walking.{ShownRecord, shown_box, shown_if, shown_read}
use Rattle.cq_render.proofs.Pieces.{mapped_at, read_at, nothing_left}
use Rattle.cq_render.proofs.Pages.{put_on, put_end}
use Rattle.cq_render.proofs.Walked.{boxes_all}
use Rattle.cq_render.proofs.graphing.put_boxes.Goals as goal

pub loop-shown-preserved : goal.loop-shown-preserved
loop-shown-preserved g c =
    let items = c.args.listing.now.queries.items in
    let i = c.loop-shown.shown-index in
    let f = shown_if (is_drawn c.args.drawn) shown_box in
    let shown = c.shown-item.result in
    let got = rw c.deref-shown-items.ensures.value at (read_at c.deref-shown-items.result.now i shown c.loop-shown-test.true c.shown-item.is) in
    put_on (string_bytes c.loop-shown.page) (string_bytes c.put_box.new.page) (f (shown_read shown)) _ (flat_map f (map shown_read (drop (i + 1) items))) _
    (mapped_at f shown_read items i shown got) c.loop-shown.invariant c.in_ok-put_box.ensures

pub returns : goal.returns
returns g c =
    let listing = c.args.listing.now in
    let items = listing.queries.items in
    let i = c.loop-shown.shown-index in
    let f : ShownRecord → List ℕ = shown_if (is_drawn c.args.drawn) shown_box in
    let has : length c.deref-shown-items.result.now ≡ length items = ap length c.deref-shown-items.ensures.value in
    put_end (string_bytes c.loop-shown.page) (flat_map f (map shown_read (drop i items))) _ (ap (λ shown. flat_map f (map shown_read shown)) (nothing_left items i (omega arith))) c.loop-shown.invariant
    ∙ ap (λ (bytes : List ℕ). string_bytes c.args.page.now ++ bytes) (ap (flat_map f) listing.walked ∙ boxes_all listing.board.now (is_drawn c.args.drawn))
