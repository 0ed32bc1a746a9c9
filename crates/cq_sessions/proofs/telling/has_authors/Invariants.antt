use Rattle.std.proofs.Common.{ℕ, ◌≤◌}
use Rattle.cq_sessions.proofs.Told.{HaveNone}
use Rattle.cq_sessions.proofs.telling.has_authors.Given as goal

abbrev pub invariant-loop-place : goal.invariant-loop-place
invariant-loop-place g l = (session : ℕ) → l.sessions ≤ session → HaveNone session l.journal l.place
