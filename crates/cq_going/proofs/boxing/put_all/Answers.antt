use Rattle.std.proofs.Common.{◌≡◌, ◌+◌, ℕ, List, drop, ap, arith}
use Rattle.std.specs.Prelude.{string_bytes}
use Rattle.std.specs.List.{enumerate_from, flat_map}
use Rattle.cq_render.specs.Graph.{is_drawn}
use Rattle.cq_render.proofs.CallerLemmas.{nothing_left, numbers_at, put_end, put_on}
use Rattle.cq_going.specs.Boxes.{box_of}
use Rattle.cq_going.proofs.boxing.put_all.Goals as goal

pub loop-place-preserved : goal.loop-place-preserved
loop-place-preserved g c =
    let i = c.loop-place.place in
    let grouped = c.args.grouped.now in
    let f : ℕ → List ℕ = box_of (is_drawn c.args.drawn) grouped.matched.items grouped.labels.items in
    put_on (string_bytes c.loop-place.page) (string_bytes c.put_boxed.new.page) (f i) _ (flat_map (λ query. f query.0) (enumerate_from (i + 1) (drop (i + 1) grouped.names.items))) _
    (numbers_at f grouped.names.items i (let low = c.loop-place-test.true in let is = c.len-place-end.ensures in omega (arith, low, is))) c.loop-place.invariant c.in_ok-put_boxed.ensures

pub returns : goal.returns
returns g c =
    let i = c.loop-place.place in
    let grouped = c.args.grouped.now in
    let f : ℕ → List ℕ = box_of (is_drawn c.args.drawn) grouped.matched.items grouped.labels.items in
    put_end (string_bytes c.loop-place.page) (flat_map (λ query. f query.0) (enumerate_from i (drop i grouped.names.items))) _
    (ap (λ names. flat_map (λ query. f query.0) (enumerate_from i names)) (nothing_left grouped.names.items i (let done = c.loop-place-test.false in let within = c.loop-place.auto.place-end in let is = c.len-place-end.ensures in omega (arith, done, within, is)))) c.loop-place.invariant
