use Rattle.std.proofs.Common.{arith}
use Rattle.cq_rel.proofs.Whole.{place-low, kept-inserted, inserted-seen, inserted-member, insert-answer, has-seen, fine-seen, unchanged, valid}
use Rattle.cq_rel.proofs.tables.Tables.insert.Goals as goal

pub index_mut-requires : goal.index_mut-requires
index_mut-requires g c = omega (arith, place-low c.self.inside.catalog c.self.inside.tables.items c.args.row.relation c.in_ok-place.place c.self.invariant c.in_ok-place.ensures.found.1, c.self.inside.tables.ok)

pub invariant_of-self : goal.invariant_of-self
invariant_of-self g c =
    kept-inserted c.self.inside.catalog c.self.inside.tables.items c.args.row c.in_ok-place.place c.index_mut.result.now c.insert.new.self c.insert.result c.self.invariant
    c.in_ok-place.ensures.found.0 c.in_ok-place.ensures.found.1 c.index_mut.ensures.value c.insert.ensures.ok c.insert.ensures.err

pub returns-clause-answer : goal.returns-clause-answer
returns-clause-answer g c =
    insert-answer c.args.self.now c.args.row _ c.insert.result (fine-seen c.self.inside.catalog c.self.inside.tables.items c.args.self.now c.args.row c.self.view_is c.in_ok-place.ensures.found.0)
    (has-seen c.self.inside.catalog c.self.inside.tables.items c.args.self.now c.args.row c.in_ok-place.place c.index_mut.result.now c.self.view_is c.self.invariant c.in_ok-place.ensures.found.1 c.index_mut.ensures.value)
    c.insert.ensures.answer

ok : goal.returns-clause-ok
ok g c =
    inserted-seen c.self.inside.catalog c.self.inside.tables.items c.args.self.now c.args.row c.in_ok-place.place c.index_mut.result.now c.insert.new.self c.insert.result c.self.view_is c.self.invariant
    c.in_ok-place.ensures.found.0 c.in_ok-place.ensures.found.1 c.index_mut.ensures.value c.insert.ensures.ok

pub returns-clause-ok : goal.returns-clause-ok
returns-clause-ok g c = ok g c

pub returns-clause-member : goal.returns-clause-member
returns-clause-member g c =
    inserted-member c.args.self.now _ c.args.row c.insert.result (valid c.self.inside.catalog c.self.inside.tables.items c.args.self.now c.self.view_is c.self.invariant)
    (fine-seen c.self.inside.catalog c.self.inside.tables.items c.args.self.now c.args.row c.self.view_is c.in_ok-place.ensures.found.0) (ok g c)

pub returns-clause-err : goal.returns-clause-err
returns-clause-err g c =
    unchanged c.self.inside.catalog c.self.inside.tables.items c.args.self.now c.args.row.relation c.in_ok-place.place c.index_mut.result.now c.insert.new.self c.insert.result c.self.view_is c.self.invariant
    c.in_ok-place.ensures.found.1 c.index_mut.ensures.value c.insert.ensures.err
