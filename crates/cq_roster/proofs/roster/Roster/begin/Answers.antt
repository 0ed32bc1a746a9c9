use Rattle.cq_roster.proofs.Added.{kept_none}
use Rattle.cq_roster.proofs.roster.Roster.begin.Goals as goal

pub invariant_of-result : goal.invariant_of-result
invariant_of-result g c = kept_none c.new.result.entries c.new-2.result.entries c.new.ensures.empty c.new-2.ensures.empty
