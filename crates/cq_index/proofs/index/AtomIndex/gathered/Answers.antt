use Rattle.std.proofs.Common.{sym, ◌∙◌}
use Rattle.cq_index.proofs.Gathered.{if_ok, constant_gathered, constant_distinct, variable_gathered}
use Rattle.cq_index.proofs.index.AtomIndex.gathered.Goals as goal

pub returns-then-begins_with_constant-clause-members : goal.returns-then-begins_with_constant-clause-members
returns-then-begins_with_constant-clause-members g c = if_ok c.beside.result
    (λ places. constant_gathered c.self.inside.kept.entries c.self.inside.buckets.entries c.args.self.now c.self.view_is c.self.invariant c.args.atom.now
    (sym c.begins_with_constant.ensures ∙ c.if-begins_with_constant.true) places.items)
    c.beside.ensures

pub returns-then-begins_with_constant-clause-distinct : goal.returns-then-begins_with_constant-clause-distinct
returns-then-begins_with_constant-clause-distinct g c = if_ok c.beside.result
    (λ places. constant_distinct c.self.inside.kept.entries c.self.inside.buckets.entries c.args.self.now c.self.view_is c.self.invariant c.args.atom.now
    (sym c.begins_with_constant.ensures ∙ c.if-begins_with_constant.true) places.items)
    c.beside.ensures

pub returns-else-begins_with_constant-clause-members : goal.returns-else-begins_with_constant-clause-members
returns-else-begins_with_constant-clause-members g c = if_ok c.grouped.result
    (λ places. variable_gathered c.self.inside.kept.entries c.self.inside.buckets.entries c.args.self.now c.self.view_is c.self.invariant c.args.atom.now
    (sym c.begins_with_constant.ensures ∙ c.if-begins_with_constant.false) places.items)
    c.grouped.ensures.members
