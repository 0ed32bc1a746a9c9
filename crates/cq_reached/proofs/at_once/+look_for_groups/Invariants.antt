use Rattle.std.proofs.Common.{length}
use Rattle.cq_reached.proofs.at_once.+look_for_groups.Given as goal

abbrev pub decreases-look_for_groups : goal.decreases-look_for_groups
decreases-look_for_groups g l = length l.groups.now
