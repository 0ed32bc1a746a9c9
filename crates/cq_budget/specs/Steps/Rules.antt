-- The rule of a count's history, and what its steps tell. (this project's profile)
use Rattle.std.specs.Prelude.{ℕ, ◌≡◌, ◌==◌, true, List, [], ◌∷◌, ◌++◌, MatchBool}
use mathlib.Core.List.{IsPrefix}
use Rattle.logbook.specs.Pages.{Cell, Step, View, Book, Named}
use Rattle.cq_budget.specs.declared.change.Change.{Change}
use Rattle.cq_budget.specs.Counting.{out_of, IsWithin}

-- The one word is what the history leaves out, and the history is within its budget.
pub record IsKept (cells : List Cell) (history : List Change) : Type 0 where
  pub words : cells ≡ (out_of history, true) ∷ []
  pub within : IsWithin history

-- The word of the book.
abbrev pub word_of : Book → Named
word_of book = record { tracked = true; key = 0; book = book }

-- The history so far was seen, and found within its budget.
abbrev pub Looks : Step Change → View Change ℕ → ℕ → View Change ℕ → Type 0
Looks step before found after = (out_of after.0 ≡ found) × IsWithin after.0

-- The history ends with this change, and began so.
abbrev pub EndsWith : List Change → Change → List Change → Type 0
EndsWith begun change history = (earlier : List Change) × IsPrefix begun earlier × (history ≡ earlier ++ change ∷ [])

-- The change was added; or the word had changed, and the history was seen.
abbrev pub Adds : Step Change → View Change ℕ → ℕ → View Change ℕ → Type 0
Adds step before found after = MatchBool (found == step.old) (EndsWith before.0 step.ask after.0 × IsWithin after.0) ((out_of after.0 ≡ found) × IsWithin after.0)

-- The history that was seen is one of this book, and goes on from its beginning.
abbrev pub GoesOn : Book → List Change → Book → List Change → Type 0
GoesOn book begun seen_book seen = (seen_book ≡ book) × IsPrefix begun seen
