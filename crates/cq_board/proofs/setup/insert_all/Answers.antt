use Rattle.std.proofs.Common.{◌≡◌, ◌+◌, List, drop, subst, sym, Some}
use Rattle.std.specs.List.{slice_get}
use Rattle.cq_atom.specs.Atom.{RowRecord}
use Rattle.cq_rel.specs.Tables.{Declaration, TablesRecord, declaration, rows_in, insert_fault}
use Rattle.cq_board.specs.Steps.Setup.{row_put, rows_put, rows_of_all}
use Rattle.cq_board.proofs.Pieces.{pieces_at}
use Rattle.cq_board.proofs.Led.{Leads, leads_rest}
use Rattle.cq_board.proofs.setup.insert_all.Goals as goal

pub insert_rows-requires : goal.insert_rows-requires
insert_rows-requires g c =
    let others = c.args.others.now in
    let place = c.loop-place.place in
    let declared = declaration c.in-Some.entry.0.now c.in-Some.entry.1 in
    let left = rows_put c.args.tables.now (rows_of_all others others.catalog) in
    let there = subst (λ (ds : List Declaration). slice_get ds place ≡ Some declared) c.catalog-catalog.ensures.value c.in-Some.ensures in
    (leads_rest row_put insert_fault c.loop-place.tables left (rows_in declared.relation others) (rows_of_all others (drop (place + 1) others.catalog))
    (subst (λ (rows : List RowRecord). Leads row_put insert_fault c.loop-place.tables rows left) (pieces_at (λ (d : Declaration). rows_in d.relation others) others.catalog place declared there) c.loop-place.invariant)).0.accepted

pub loop-place-preserved : goal.loop-place-preserved
loop-place-preserved g c =
    let others = c.args.others.now in
    let place = c.loop-place.place in
    let declared = declaration c.in-Some.entry.0.now c.in-Some.entry.1 in
    let left = rows_put c.args.tables.now (rows_of_all others others.catalog) in
    let there = subst (λ (ds : List Declaration). slice_get ds place ≡ Some declared) c.catalog-catalog.ensures.value c.in-Some.ensures in
    subst (λ (tables : TablesRecord). Leads row_put insert_fault tables (rows_of_all others (drop (place + 1) others.catalog)) left) (sym c.in_ok-insert_rows.ensures)
    (leads_rest row_put insert_fault c.loop-place.tables left (rows_in declared.relation others) (rows_of_all others (drop (place + 1) others.catalog))
    (subst (λ (rows : List RowRecord). Leads row_put insert_fault c.loop-place.tables rows left) (pieces_at (λ (d : Declaration). rows_in d.relation others) others.catalog place declared there) c.loop-place.invariant)).1
