use Rattle.std.proofs.Common.{◌≡◌, true, sym, ap, ◌∙◌}
use Rattle.std.specs.List.{list_any}
use Rattle.cq_atom.specs.Atom.{RowRecord}
use Rattle.cq_near.specs.Unfit.{fits}
use Rattle.cq_rel.specs.Tables.{arity_in, rows_in}
use Rattle.cq_near.proofs.Places.{first_passes, some_of}
use Rattle.cq_near.proofs.unfit.is_found.Goals as goal

pub returns-then-fits : goal.returns-then-fits
returns-then-fits g c =
    let p = λ (row : RowRecord). fits c.args.atom.now.terms row.values in
    let tables = c.args.tables.now in
    let row = c.in-Some-row.row.now in
    let fit : p row ≡ true = sym (c.fits.ensures ∙ ap (λ ts. fits ts c.values.result.now) c.terms.ensures.value ∙ ap (fits c.args.atom.now.terms) c.values.ensures.value) ∙ c.if-fits.true in
    sym (first_passes p c.loop-row.row-iterator c.next.new.self row c.in-Some-row.ensures.steps fit) ∙ c.loop-row.invariant
    ∙ ap (list_any p) (c.into_iter-row-iterator.ensures.into_iter_gives ∙ some_of (arity_in tables.catalog c.relation.result.now) _ c.in-Some.rows c.in-Some.ensures.value ∙ ap (λ r. rows_in r tables) c.relation.ensures.value)
