use Rattle.std.proofs.Common.{[], ◌∷◌, false}
use Rattle.cq_tests_room.proofs.room.plays.in_room_over.Given as goal

abbrev pub ghosts-in_room : goal.ghosts-in_room
ghosts-in_room g a = record { book = a.parts.book; opening = a.parts.opening ∷ []; limit = a.parts.limit; renews = false }
