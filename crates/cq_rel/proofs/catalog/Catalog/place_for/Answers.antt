use Rattle.std.proofs.Common.{sym, ◌∙◌, ap, List, ℕ}
use Rattle.std.specs.List.{position}
use Rattle.cq_rel.specs.Tables.{declares}
use Rattle.cq_rel.proofs.Whole.{unknown-row, wrong-arity, right-arity}
use Rattle.cq_rel.proofs.catalog.Catalog.place_for.Goals as goal

pub returns-in_default-clause-fault : goal.returns-in_default-clause-fault
returns-in_default-clause-fault g c = unknown-row c.args.self.now c.args.row.now (c.in_default.ensures ∙ ap (λ (name : List ℕ). position (declares name) c.args.self.now) c.relation.ensures.value)

pub returns-then-arity-values-clause-fault : goal.returns-then-arity-values-clause-fault
returns-then-arity-values-clause-fault g c =
    wrong-arity c.self.inside.entries.items c.args.self.now c.args.row.now c.in-Some.place c.index-entry.result.now c.arity.result c.values.result.now c.self.view_is
    (sym (c.in-Some.ensures ∙ ap (λ (name : List ℕ). position (declares name) c.args.self.now) c.relation.ensures.value)) c.index-entry.ensures c.arity.ensures c.values.ensures.value c.if-arity-values.true

pub returns-clause-found : goal.returns-clause-found
returns-clause-found g c =
    let at = sym (c.in-Some.ensures ∙ ap (λ (name : List ℕ). position (declares name) c.args.self.now) c.relation.ensures.value) in
    (right-arity c.self.inside.entries.items c.args.self.now c.args.row.now c.in-Some.place c.index-entry.result.now c.arity.result c.values.result.now c.self.view_is at c.index-entry.ensures c.arity.ensures c.values.ensures.value c.if-arity-values.false, at)
