use Rattle.std.proofs.Common.{sym, ◌∙◌, arith}
use Rattle.cq_rel.proofs.Whole.{place-low, rows-none, rows-absent, rows-shown, rows-value, rows-under, valid}
use Rattle.cq_rel.proofs.tables.Tables.rows_of.Goals as goal

pub returns-in_err-place-clause-value : goal.returns-in_err-place-clause-value
returns-in_err-place-clause-value g c = c.from_residual.ensures ∙ rows-none c.self.inside.catalog c.self.inside.tables.items c.args.self.now c.args.relation.now c.self.view_is c.in_err-place.ensures

pub returns-in_err-place-clause-absent : goal.returns-in_err-place-clause-absent
returns-in_err-place-clause-absent g c = rw c.from_residual.ensures (rows-absent c.self.inside.catalog c.self.inside.tables.items c.args.self.now c.args.relation.now c.self.view_is c.self.invariant c.in_err-place.ensures)

pub index-requires : goal.index-requires
index-requires g c = omega (arith, place-low c.self.inside.catalog c.self.inside.tables.items c.args.relation.now c.in_ok-place.place c.self.invariant (sym c.in_ok-place.ensures), c.self.inside.tables.ok)

pub returns-clause-value : goal.returns-clause-value
returns-clause-value g c =
    rows-value c.self.inside.catalog c.self.inside.tables.items c.args.self.now c.args.relation.now c.in_ok-place.place c.rows.result c.self.view_is (sym c.in_ok-place.ensures)
    (rows-shown c.self.inside.catalog c.self.inside.tables.items c.args.self.now c.args.relation.now c.in_ok-place.place c.index.result.now c.rows.result c.self.view_is c.self.invariant (sym c.in_ok-place.ensures) c.index.ensures c.rows.ensures.value)

pub returns-clause-under : goal.returns-clause-under
returns-clause-under g c =
    rows-under c.args.self.now c.args.relation.now c.rows.result (valid c.self.inside.catalog c.self.inside.tables.items c.args.self.now c.self.view_is c.self.invariant)
    (rows-shown c.self.inside.catalog c.self.inside.tables.items c.args.self.now c.args.relation.now c.in_ok-place.place c.index.result.now c.rows.result c.self.view_is c.self.invariant (sym c.in_ok-place.ensures) c.index.ensures c.rows.ensures.value)
