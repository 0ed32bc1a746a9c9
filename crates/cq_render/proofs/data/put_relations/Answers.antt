use Rattle.std.proofs.Common.{◌≡◌, ◌+◌, List, length, drop, subst, ap, Some, arith}
use Rattle.std.specs.List.{slice_get}
use Rattle.cq_rel.specs.Tables.{Declaration, declaration}
use Rattle.json.specs.Tree.{json_tokens}
use Rattle.cq_render.specs.Json.{relation_json}
use Rattle.cq_render.proofs.Pieces.{nothing_left}
use Rattle.cq_render.proofs.Arrays.{listed, listed_at, put_array}
use Rattle.cq_render.proofs.Pages.{put_on}
use Rattle.cq_render.proofs.Present.{not_missed}
use Rattle.cq_render.proofs.data.put_relations.Goals as goal

pub unreachable-requires : goal.unreachable-requires
unreachable-requires g c = not_missed c.catalog-catalog.result.now c.len-place-end.result c.loop-place.place c.len-place-end.ensures.value c.loop-place-test.true c.in-None.ensures

pub loop-place-preserved : goal.loop-place-preserved
loop-place-preserved g c =
    let i = c.loop-place.place in
    let catalog = c.args.tables.now.catalog in
    let declared = declaration c.in-Some.entry.0.now c.in-Some.entry.1 in
    let f = relation_json c.args.tables.now in
    let there = subst (λ (ds : List Declaration). slice_get ds i ≡ Some declared) c.catalog-catalog.ensures.value c.in-Some.ensures in
    put_on c.loop-place.sheet c.put_relation.new.sheet (json_tokens (f declared)) _ (listed f (drop (i + 1) catalog)) _
    (listed_at f catalog i declared there) c.loop-place.invariant c.in_ok-put_relation.ensures

pub returns : goal.returns
returns g c =
    let f = relation_json c.args.tables.now in
    let has : length c.catalog-catalog.result.now ≡ length c.args.tables.now.catalog = ap length c.catalog-catalog.ensures.value in
    put_array _ _ c.loop-place.sheet c.end_array.new.self _ (listed f (drop c.loop-place.place c.args.tables.now.catalog)) c.end_array.result
    c.in_ok-begin_array.ensures c.loop-place.invariant (ap (listed f) (nothing_left c.args.tables.now.catalog c.loop-place.place (omega (arith, has)))) c.end_array.ensures
