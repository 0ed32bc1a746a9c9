-- A script as lines (this project's profile).
use Rattle.std.specs.Prelude.{◌≡◌, ℕ, List, [], ◌∷◌, ◌==◌, if◌then◌else◌, false}

-- A byte before the first line; where there is none, it begins one.
abbrev pub before_first : ℕ → List (List ℕ) → List (List ℕ)
before_first b [] = (b ∷ []) ∷ []
before_first b (line ∷ lines) = (b ∷ line) ∷ lines

-- The lines of a script: LF ends a line, the last one needs none, and nothing after the last LF is no line.
abbrev pub lines_of : List ℕ → List (List ℕ)
lines_of [] = []
lines_of (b ∷ bs) = if b == 10 then [] ∷ lines_of bs else before_first b (lines_of bs)

-- A byte before the first whole line, where there is one.
abbrev pub before_whole : ℕ → List (List ℕ) → List (List ℕ)
before_whole b [] = []
before_whole b (line ∷ lines) = (b ∷ line) ∷ lines

-- The whole lines: those that an LF ends.
abbrev pub whole_lines : List ℕ → List (List ℕ)
whole_lines [] = []
whole_lines (b ∷ bs) = if b == 10 then [] ∷ whole_lines bs else before_whole b (whole_lines bs)

-- No byte ends a line.
abbrev pub HasNoEnd : List ℕ → Type 0
HasNoEnd [] = Unit {0}
HasNoEnd (b ∷ bs) = ((b == 10) ≡ false) × HasNoEnd bs
