use Rattle.std.proofs.Common.{◌≡◌, ◌∙◌, ap, subst, arith, List}
use Rattle.std.specs.Prelude.{OnOk}
use Rattle.cq_atom.specs.Value.{ValueContent}
use Rattle.cq_rel.specs.Steps.Table.{rows_without, has_values}
use Rattle.cq_rel.proofs.Whole.{place-low, kept-deleted, deleted-seen, deleted-member, delete-answer, has-seen, fine-seen, unchanged}
use Rattle.cq_rel.proofs.tables.Tables.delete.Goals as goal

pub index_mut-requires : goal.index_mut-requires
index_mut-requires g c = omega (arith, place-low c.self.inside.catalog c.self.inside.tables.items c.args.row.now.relation c.in_ok-place.place c.self.invariant c.in_ok-place.ensures.found.1, c.self.inside.tables.ok)

pub invariant_of-self : goal.invariant_of-self
invariant_of-self g c =
    kept-deleted c.self.inside.catalog c.self.inside.tables.items c.args.row.now c.in_ok-place.place c.index_mut.result.now c.delete.new.self c.delete.result c.self.invariant
    c.in_ok-place.ensures.found.0 c.in_ok-place.ensures.found.1 c.index_mut.ensures.value
    (subst (λ (v : List ValueContent). OnOk c.delete.result (c.delete.new.self ≡ rows_without v c.index_mut.result.now)) c.values.ensures.value c.delete.ensures.ok) c.delete.ensures.err

pub returns-clause-answer : goal.returns-clause-answer
returns-clause-answer g c =
    delete-answer c.args.self.now c.args.row.now _ c.delete.result (fine-seen c.self.inside.catalog c.self.inside.tables.items c.args.self.now c.args.row.now c.self.view_is c.in_ok-place.ensures.found.0)
    (ap (λ (v : List ValueContent). has_values v c.index_mut.result.now) c.values.ensures.value ∙
    has-seen c.self.inside.catalog c.self.inside.tables.items c.args.self.now c.args.row.now c.in_ok-place.place c.index_mut.result.now c.self.view_is c.self.invariant c.in_ok-place.ensures.found.1 c.index_mut.ensures.value)
    c.delete.ensures.answer

ok : goal.returns-clause-ok
ok g c =
    deleted-seen c.self.inside.catalog c.self.inside.tables.items c.args.self.now c.args.row.now c.in_ok-place.place c.index_mut.result.now c.delete.new.self c.delete.result c.self.view_is c.self.invariant
    c.in_ok-place.ensures.found.1 c.index_mut.ensures.value
    (subst (λ (v : List ValueContent). OnOk c.delete.result (c.delete.new.self ≡ rows_without v c.index_mut.result.now)) c.values.ensures.value c.delete.ensures.ok)

pub returns-clause-ok : goal.returns-clause-ok
returns-clause-ok g c = ok g c

pub returns-clause-member : goal.returns-clause-member
returns-clause-member g c = deleted-member c.args.self.now _ c.args.row.now c.delete.result (ok g c)

pub returns-clause-err : goal.returns-clause-err
returns-clause-err g c =
    unchanged c.self.inside.catalog c.self.inside.tables.items c.args.self.now c.args.row.now.relation c.in_ok-place.place c.index_mut.result.now c.delete.new.self c.delete.result c.self.view_is c.self.invariant
    c.in_ok-place.ensures.found.1 c.index_mut.ensures.value c.delete.ensures.err
