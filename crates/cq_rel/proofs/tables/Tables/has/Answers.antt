use Rattle.std.proofs.Common.{sym, ◌∙◌, ap, arith, List, ℕ}
use Rattle.std.specs.List.{position}
use Rattle.cq_atom.specs.Value.{ValueContent}
use Rattle.cq_rel.specs.Tables.{declares}
use Rattle.cq_rel.specs.Steps.Table.{has_values}
use Rattle.cq_rel.proofs.Whole.{place-low, has-none, has-seen, has-member}
use Rattle.cq_rel.proofs.tables.Tables.has.Goals as goal

pub index-requires : goal.index-requires
index-requires g c = omega (arith, place-low c.self.inside.catalog c.self.inside.tables.items c.relation.result.now c.in-Some.place c.self.invariant (sym c.in-Some.ensures), c.self.inside.tables.ok)

none : goal.returns-in-None-clause-value
none g c = has-none c.self.inside.catalog c.self.inside.tables.items c.args.self.now c.args.row.now c.self.view_is c.self.invariant
    (c.in-None.ensures ∙ ap (λ (name : List ℕ). position (declares name) c.self.inside.catalog) c.relation.ensures.value)

pub returns-in-None-clause-value : goal.returns-in-None-clause-value
returns-in-None-clause-value g c = none g c

pub returns-in-None-clause-member : goal.returns-in-None-clause-member
returns-in-None-clause-member g c = has-member _ c.args.self.now c.args.row.now (none g c)

found : goal.returns-in-Some-clause-value
found g c = c.has.ensures ∙ ap (λ (v : List ValueContent). has_values v c.index.result.now) c.values.ensures.value ∙
    has-seen c.self.inside.catalog c.self.inside.tables.items c.args.self.now c.args.row.now c.in-Some.place c.index.result.now c.self.view_is c.self.invariant
    (sym (c.in-Some.ensures ∙ ap (λ (name : List ℕ). position (declares name) c.self.inside.catalog) c.relation.ensures.value)) c.index.ensures

pub returns-in-Some-clause-value : goal.returns-in-Some-clause-value
returns-in-Some-clause-value g c = found g c

pub returns-in-Some-clause-member : goal.returns-in-Some-clause-member
returns-in-Some-clause-member g c = has-member _ c.args.self.now c.args.row.now (found g c)
