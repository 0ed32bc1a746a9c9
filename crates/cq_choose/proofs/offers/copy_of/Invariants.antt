use Rattle.std.proofs.Common.{◌≡◌, take}
use Rattle.cq_choose.proofs.offers.copy_of.Given as goal

abbrev pub invariant-loop-value : goal.invariant-loop-value
invariant-loop-value g l = l.copy.items ≡ take l.value-index l.values
