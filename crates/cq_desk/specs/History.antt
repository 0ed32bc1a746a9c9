-- Publications, and the histories that they make. (this project's profile)
use Rattle.std.specs.Prelude.{◌≡◌, List, [], ◌∷◌, ◌++◌}
use mathlib.Core.List.{IsPrefix}

-- A publication is the list of what one publish takes, be it edits or entries, a history a list of publications; the earliest come first.
abbrev pub History : Type 0 → Type 0
History E = List (List E)

-- What stands in the publications of a history, in order.
abbrev pub edits_of : {E : Type 0} → History E → List E
edits_of [] = []
edits_of (publication ∷ history) = publication ++ edits_of history

-- The history after a publish, by what was pending: one publication with all of it, and none where nothing was.
abbrev pub grown : {E : Type 0} → History E → List E → History E
grown history [] = history
grown history (e ∷ es) = history ++ (e ∷ es) ∷ []

-- One history begins with another: its first publications are the other's. Publications are compared, not only what stands in them.
abbrev pub BeginsWith : {E : Type 0} → History E → History E → Type 0
BeginsWith history front = IsPrefix front history

-- These are the end of the history's last publication. Where there are none, nothing is said.
abbrev pub StandsLast : {E : Type 0} → List E → History E → Type 0
StandsLast [] history = Unit {0}
StandsLast {E} (e ∷ es) history = (earlier : History E) × (others : List E) × (history ≡ earlier ++ (others ++ e ∷ es) ∷ [])
