-- Graphs whose nodes are numbered by their places.
use Rattle.std.specs.Prelude.{◌≡◌, ℕ, ◌<◌, Bool, false, List, length, slice_index_or}

-- Each node's number is its place.
abbrev pub AreNumbered : List (ℕ × ℕ × Bool) → Type 0
AreNumbered nodes = (place : ℕ) → place < length nodes → (slice_index_or nodes place (0, 0, false)).0 ≡ place
