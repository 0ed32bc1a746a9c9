use Rattle.cq_rel.proofs.Catalogs.{IsCatalog-nil}
use Rattle.cq_rel.proofs.catalog.Catalog.empty.Goals as goal

pub invariant_of-result : goal.invariant_of-result
invariant_of-result g c = IsCatalog-nil c.new.result.items c.new.ensures.items
