use Rattle.std.proofs.Common.{◌≡◌, ◌+◌, ◌++◌, ◌∙◌, List, length, map, drop, subst, ap, Some, arith}
use Rattle.std.specs.List.{flat_map, slice_get}
use Rattle.cq_atom.specs.Atom.{RowRecord}
use Rattle.cq_rel.specs.Tables.{Declaration, declaration, rows_in}
use Rattle.cq_render.proofs.ByRelation.{rows_by_relation}
use Rattle.cq_render.proofs.Pieces.{pieces_at, nothing_left}
use Rattle.cq_render.proofs.Pages.{put_on, put_end}
use Rattle.cq_render.proofs.Present.{not_missed}
use Rattle.cq_render.proofs.dumping.add_all_rows.Goals as goal

pub unreachable-requires : goal.unreachable-requires
unreachable-requires g c = not_missed c.catalog-catalog.result.now c.len-place-end.result c.loop-place.place c.len-place-end.ensures.value c.loop-place-test.true c.in-None.ensures

pub loop-place-preserved : goal.loop-place-preserved
loop-place-preserved g c =
    let i = c.loop-place.place in
    let tables = c.args.tables.now in
    let declared = declaration c.in-Some.entry.0.now c.in-Some.entry.1 in
    let f : Declaration → List RowRecord = λ declared. rows_in declared.relation tables in
    let there = subst (λ (ds : List Declaration). slice_get ds i ≡ Some declared) c.catalog-catalog.ensures.value c.in-Some.ensures in
    put_on (map (λ row. row.now) c.loop-place.rows.items) (map (λ row. row.now) c.add_rows.new.rows.items) (f declared) _ (flat_map f (drop (i + 1) tables.catalog)) _
    (pieces_at f tables.catalog i declared there) c.loop-place.invariant c.in_ok-add_rows.ensures

pub returns : goal.returns
returns g c =
    let tables = c.args.tables.now in
    let f : Declaration → List RowRecord = λ declared. rows_in declared.relation tables in
    let has : length c.catalog-catalog.result.now ≡ length tables.catalog = ap length c.catalog-catalog.ensures.value in
    put_end (map (λ row. row.now) c.loop-place.rows.items) (flat_map f (drop c.loop-place.place tables.catalog)) _ (ap (flat_map f) (nothing_left tables.catalog c.loop-place.place (omega (arith, has)))) c.loop-place.invariant
    ∙ ap (λ (rows : List RowRecord). map (λ row. row.now) c.args.rows.now.items ++ rows) (rows_by_relation tables c.catalog-catalog.ensures.valid)
