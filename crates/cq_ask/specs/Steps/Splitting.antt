-- How a text is cut at its commas, and a word at its first bracket.
use Rattle.std.specs.Prelude.{ℕ, Bool, false, not, ◌==◌, List, [], ◌∷◌, ◌++◌, if◌then◌else◌}
use Rattle.cq_ask.specs.declared.choices.Place.{Place}
use Rattle.cq_ask.specs.declared.choices.Place.TheVariants.{Outside, Inside, Escaped}
use Rattle.cq_ask.specs.Choices.{place_after}

-- A comma cuts outside of quotes alone.
abbrev pub is_cut : Place → ℕ → Bool
is_cut Outside b = b == 44
is_cut Inside b = false
is_cut Escaped b = false

-- The pieces of the bytes, of which the first is begun.
abbrev pub pieces : Place → List ℕ → List ℕ → List (List ℕ)
pieces place piece [] = piece ∷ []
pieces place piece (b ∷ bs) = if is_cut place b then piece ∷ pieces place [] bs else pieces (place_after place b) (piece ++ b ∷ []) bs

-- A byte that opens no bracket.
abbrev pub is_before_bracket : ℕ → Bool
is_before_bracket b = not (b == 40)
