use Rattle.cq_index.proofs.Indexed.{indexed_empty}
use Rattle.cq_index.proofs.index.AtomIndex.begin.Goals as goal

pub invariant_of-result : goal.invariant_of-result
invariant_of-result g c = indexed_empty c.new.result.entries c.new-2.result.entries c.new.ensures.empty c.new-2.ensures.empty
