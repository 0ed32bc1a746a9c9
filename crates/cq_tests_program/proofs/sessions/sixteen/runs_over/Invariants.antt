use Rattle.std.proofs.Common.{[], ◌∷◌, false}
use Rattle.cq_tests_program.proofs.sessions.sixteen.runs_over.Given as goal

abbrev pub ghosts-runs : goal.ghosts-runs
ghosts-runs g a = record { book = a.parts.book; opening = a.parts.opening ∷ []; limit = a.parts.limit; renews = false }
