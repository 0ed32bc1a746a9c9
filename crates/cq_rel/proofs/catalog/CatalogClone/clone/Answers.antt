use Rattle.cq_rel.proofs.Copied.{copied, catalog-copied}
use Rattle.cq_rel.proofs.catalog.CatalogClone.clone.Goals as goal

pub invariant_of-result : goal.invariant_of-result
invariant_of-result g c =
    catalog-copied c.self.inside.entries.items c.in_ok-clone.field-0.items (copied c.self.inside.entries.items c.in_ok-clone.field-0.items c.in_ok-clone.ensures.cases.0) c.self.invariant
