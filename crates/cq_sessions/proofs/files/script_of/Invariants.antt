use Rattle.std.proofs.Common.{[], ◌∷◌, false}
use Rattle.cq_sessions.proofs.files.script_of.Given as goal

abbrev pub ghosts-serve_room : goal.ghosts-serve_room
ghosts-serve_room g a = record { book = a.parts.book; opening = a.parts.opening ∷ []; limit = a.parts.limit; renews = false }
