use Rattle.cq_rel.proofs.Whole.{valid}
use Rattle.cq_rel.proofs.tables.Tables.catalog.Goals as goal

pub returns-clause-valid : goal.returns-clause-valid
returns-clause-valid g c = valid c.self.inside.catalog c.self.inside.tables.items c.args.self.now c.self.view_is c.self.invariant
