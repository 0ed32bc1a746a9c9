use Rattle.cq_rel.proofs.Copied.{copied, kept-copied}
use Rattle.cq_rel.proofs.tables.Tables.copy.Goals as goal

pub invariant_of-result : goal.invariant_of-result
invariant_of-result g c =
    kept-copied c.self.inside.catalog c.in_ok-catalog.catalog c.self.inside.tables.items c.in_ok-tables.tables.items c.in_ok-catalog.ensures
    (copied c.self.inside.tables.items c.in_ok-tables.tables.items c.in_ok-tables.ensures.cases.0) c.self.invariant
