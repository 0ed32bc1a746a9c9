use Rattle.std.proofs.Common.{[], List, sym, subst, map, arith, refl}
use Rattle.std.specs.List.{filter}
use Rattle.std.specs.List.Sorted.{IsPermutation}
use Rattle.std.proofs.lemmas.List.Sorted.{IsPermutation-refl}
use Rattle.cq_atom.specs.Atom.{RowRecord}
use Rattle.cq_rel.specs.Tables.{has_turned}
use Rattle.cq_rel.proofs.Places.{place-known}
use Rattle.cq_rel.proofs.Whole.{place-low, rows-absent, rows-shown, rows-alike}
use Rattle.cq_rel.proofs.tables.Tables.rows_with.Goals as goal

pub arity_at-arity-requires : goal.arity_at-arity-requires
arity_at-arity-requires g c = (place-known c.self.inside.catalog c.args.relation.now c.in-Some.place (sym c.in-Some.ensures)).1

pub index-requires : goal.index-requires
index-requires g c = omega (arith, place-low c.self.inside.catalog c.self.inside.tables.items c.args.relation.now c.in-Some.place c.self.invariant (sym c.in-Some.ensures), c.self.inside.tables.ok)

pub rows_with-requires-clause-alike : goal.rows_with-requires-clause-alike
rows_with-requires-clause-alike g c =
    rows-alike c.self.inside.catalog c.self.inside.tables.items c.args.relation.now c.in-Some.place c.arity_at-arity.result c.index.result.now c.self.invariant (sym c.in-Some.ensures) c.index.ensures c.arity_at-arity.ensures.arity

pub returns : goal.returns
returns g c =
    let firsts = map (λ v. v.now) c.args.values.now in
    subst (λ (l : List RowRecord). IsPermutation (filter (has_turned c.args.column firsts) l) c.rows_with.result)
    (rows-shown c.self.inside.catalog c.self.inside.tables.items c.args.self.now c.args.relation.now c.in-Some.place c.index.result.now c.index.result.now c.self.view_is c.self.invariant (sym c.in-Some.ensures) c.index.ensures refl)
    c.rows_with.ensures

pub returns-in_default : goal.returns-in_default
returns-in_default g c =
    let firsts = map (λ v. v.now) c.args.values.now in
    let none = rows-absent c.self.inside.catalog c.self.inside.tables.items c.args.self.now c.args.relation.now c.self.view_is c.self.invariant c.in_default.ensures in
    subst (λ (l : List RowRecord). IsPermutation (filter (has_turned c.args.column firsts) l) c.empty.result) (sym none)
    (subst (λ (l : List RowRecord). IsPermutation [] l) (sym c.empty.ensures) (IsPermutation-refl []))
