use Rattle.std.proofs.Common.{◌≡◌, ◌∙◌, ◌+◌, ℕ, List, map, drop, length, ap, sym, arith, Some}
use Rattle.std.specs.Prelude.{slice_get}
use Rattle.std.specs.List.{enumerate_from, flat_map}
use Rattle.std.proofs.lemmas.List.{length-map}
use Rattle.cq_board.proofs.CallerLemmas.{read_at}
use Rattle.cq_render.proofs.CallerLemmas.{put_on, put_end, nothing_left}
use Rattle.cq_going.specs.Grouping.{name_if}
use Rattle.cq_going.proofs.Listed.{numbered_at, read_mapped}
use Rattle.cq_going.proofs.grouping.names_labelled.Goals as goal

pub loop-place-preserved : goal.loop-place-preserved
loop-place-preserved g c =
    let i = c.loop-place.place in
    let grouped = c.args.grouped.now in
    let items = c.deref-name-items.result.now in
    let names : List (List ℕ) = map (λ name. name.now) grouped.names.items in
    let f : ℕ × List ℕ → List (List ℕ) = name_if grouped.matched.items grouped.labels.items c.args.label in
    let got : slice_get items i ≡ Some c.name-item.result = read_at items i c.name-item.result c.loop-place-test.true c.name-item.is in
    let here : slice_get names i ≡ Some c.name-item.result.now =
    ap (λ l. slice_get (map (λ name. name.now) l) i) (sym c.deref-name-items.ensures.value) ∙ read_mapped (λ name. name.now) items i c.name-item.result got in
    put_on c.loop-place.found.items c.add_name.new.found.items (f (i, c.name-item.result.now)) (flat_map f (enumerate_from i (drop i names))) (flat_map f (enumerate_from (i + 1) (drop (i + 1) names))) _
    (numbered_at f names i c.name-item.result.now here) c.loop-place.invariant c.in_ok-add_name.ensures

pub returns : goal.returns
returns g c =
    let i = c.loop-place.place in
    let grouped = c.args.grouped.now in
    let names : List (List ℕ) = map (λ name. name.now) grouped.names.items in
    let f : ℕ × List ℕ → List (List ℕ) = name_if grouped.matched.items grouped.labels.items c.args.label in
    let long : length names ≡ length grouped.names.items = length-map grouped.names.items (λ name. name.now) in
    let same : length c.deref-name-items.result.now ≡ length grouped.names.items = ap length c.deref-name-items.ensures.value in
    let done = c.loop-place-test.false in
    let within = c.loop-place.auto.place-end in
    put_end c.loop-place.found.items (flat_map f (enumerate_from i (drop i names))) _ (ap (λ l. flat_map f (enumerate_from i l)) (nothing_left names i (omega (arith, long, same, done, within)))) c.loop-place.invariant
