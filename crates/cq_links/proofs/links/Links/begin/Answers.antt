use Rattle.std.specs.FinMap.{empty}
use Rattle.cq_links.proofs.Kept.{nothing_kept, seen, kept_seen}
use Rattle.cq_links.proofs.links.Links.begin.Goals as goal

pub invariant_of-result : goal.invariant_of-result
invariant_of-result g c = kept_seen empty c.begin.result c.begin-2.result (nothing_kept c.begin.result c.begin-2.result c.begin.ensures c.begin-2.ensures)

pub returns : goal.returns
returns g c = seen empty c.begin.result c.begin-2.result (nothing_kept c.begin.result c.begin-2.result c.begin.ensures c.begin-2.ensures)
