use Rattle.std.proofs.Common.{ap, sym, ◌∙◌, arith, refl, Some, None}
use Rattle.cq_rel.specs.Tables.{arity_in, rows_in}
use Rattle.cq_rel.proofs.Whole.{place-low, rows-none, rows-absent, rows-value, rows-shown, rows-counted}
use Rattle.cq_rel.proofs.tables.Tables.count.Goals as goal

pub returns-in_err-place_of-clause-absent : goal.returns-in_err-place_of-clause-absent
returns-in_err-place_of-clause-absent g c = rw c.from_residual.ensures (rows-absent c.self.inside.catalog c.self.inside.tables.items c.args.self.now c.args.relation.now c.self.view_is c.self.invariant c.in_err-place_of.ensures)

pub returns-in_err-place_of-clause-value : goal.returns-in_err-place_of-clause-value
returns-in_err-place_of-clause-value g c =
    c.from_residual.ensures
    ∙ rows-counted (arity_in c.args.self.now.catalog c.args.relation.now) None (rows_in c.args.relation.now c.args.self.now)
    (rows-none c.self.inside.catalog c.self.inside.tables.items c.args.self.now c.args.relation.now c.self.view_is c.in_err-place_of.ensures)

pub index-requires : goal.index-requires
index-requires g c = omega (arith, place-low c.self.inside.catalog c.self.inside.tables.items c.args.relation.now c.in_ok-place_of.field-0 c.self.invariant (sym c.in_ok-place_of.ensures), c.self.inside.tables.ok)

pub returns-clause-value : goal.returns-clause-value
returns-clause-value g c =
    let rows = c.index.result.now in
    ap Some c.len.ensures
    ∙ rows-counted (arity_in c.args.self.now.catalog c.args.relation.now) (Some rows) (rows_in c.args.relation.now c.args.self.now)
    (rows-value c.self.inside.catalog c.self.inside.tables.items c.args.self.now c.args.relation.now c.in_ok-place_of.field-0 rows c.self.view_is (sym c.in_ok-place_of.ensures)
    (rows-shown c.self.inside.catalog c.self.inside.tables.items c.args.self.now c.args.relation.now c.in_ok-place_of.field-0 rows rows c.self.view_is c.self.invariant (sym c.in_ok-place_of.ensures) c.index.ensures refl))
