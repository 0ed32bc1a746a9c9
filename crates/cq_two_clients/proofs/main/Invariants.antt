use Rattle.std.proofs.Common.{[], ◌∷◌, false}
use Rattle.cq_two_clients.proofs.main.Given as goal

abbrev pub ghosts-open : goal.ghosts-open
ghosts-open g a = record { book = a.parts.book; opening = a.parts.opening ∷ []; limit = a.parts.limit; renews = false }
