use Rattle.cq_select.proofs.Turning.{marked-lost}
use Rattle.cq_select.proofs.retreat.mark_lost.Goals as goal

pub returns-clause-exhausted : goal.returns-clause-exhausted
returns-clause-exhausted g c supply wanted e = marked-lost supply wanted c.args.trail.now c.mark.new.marks e (rw c.deref.ensures.value at c.mark.ensures.marks)
