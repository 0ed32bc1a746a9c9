use Rattle.cq_sessions.proofs.Told.{HaveLeft}
use Rattle.cq_sessions.proofs.telling.has_numbers.Given as goal

abbrev pub invariant-loop-place : goal.invariant-loop-place
invariant-loop-place g l = HaveLeft l.session l.journal l.numbers l.place l.left
