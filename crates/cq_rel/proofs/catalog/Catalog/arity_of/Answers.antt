use Rattle.cq_rel.proofs.Declared.{arity-here, arity-on, arity-past}
use Rattle.cq_rel.proofs.catalog.Catalog.arity_of.Goals as goal

pub returns-then-declares : goal.returns-then-declares
returns-then-declares g c =
    arity-here c.args.self.now c.deref-entry-items.result.now c.args.relation.now c.loop-entry.entry-index c.entry-item.result c.declares.result c.arity.result c.loop-entry-test.true c.entry-item.is
    c.loop-entry.invariant c.declares.ensures c.if-declares.true c.arity.ensures

pub loop-entry-preserved : goal.loop-entry-preserved
loop-entry-preserved g c =
    arity-on c.args.self.now c.deref-entry-items.result.now c.args.relation.now c.loop-entry.entry-index c.entry-item.result c.declares.result c.loop-entry-test.true c.entry-item.is
    c.loop-entry.invariant c.declares.ensures c.if-declares.false

pub returns : goal.returns
returns g c = arity-past c.args.self.now c.deref-entry-items.result.now c.args.relation.now c.loop-entry.entry-index c.loop-entry-test.false c.loop-entry.invariant
