-- The rule of a room's history, and what its steps tell. (this project's profile)
use Rattle.std.specs.Prelude.{ℕ, ◌≡◌, ◌==◌, true, List, [], ◌∷◌, ◌++◌, length, MatchBool}
use Rattle.logbook.specs.Pages.{Cell, Step, View, Book, Named}

-- The first word is the length of the history. There is a second word, which stays at 0.
pub record IsKept {E : Type 0} (cells : List Cell) (log : List E) : Type 0 where
  pub words : cells ≡ (length log, true) ∷ (0, true) ∷ []

-- The first word of the book.
abbrev pub head_of : Book → Named
head_of book = record { tracked = true; key = 0; book = book }

-- The mark was added to all that had been seen; or the history was longer, and was seen.
abbrev pub Adds : {E : Type 0} → Step E → View E ℕ → ℕ → View E ℕ → Type 0
Adds step before found after = MatchBool (found == step.old) (after.0 ≡ before.0 ++ step.ask ∷ []) (length after.0 ≡ found)
