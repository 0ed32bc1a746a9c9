use Rattle.std.proofs.Common.{◌+◌, sum, vec_len}
use Rattle.cq_match.proofs.Settling.{Settling}
use Rattle.cq_match.proofs.settle.settled.Given as goal

abbrev pub invariant-loop-place : goal.invariant-loop-place
invariant-loop-place g l = Settling l.places l.owners l.offers l.standing.items l.counts.items l.waiting.items

abbrev pub decreases-loop-place : goal.decreases-loop-place
decreases-loop-place g l = sum l.counts.items + vec_len l.waiting
