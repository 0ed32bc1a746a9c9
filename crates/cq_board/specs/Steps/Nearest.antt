-- The nearest of the heads that miss a postcondition, as they are kept.
use Rattle.std.specs.Prelude.{◌≡◌, ◌<◌, ◌⊎◌, ℕ, Bool, List}
use Rattle.std.specs.Ordering.{is_lt}
use denote.Ref.{Bor}
use Rattle.cq_atom.specs.Atom.{AtomRecord}
use Rattle.cq_board.specs.declared.near.Head.{Head}
use Rattle.cq_board.specs.Near.{miss_if, miss_cmp}

-- A head: the place of its query in posting order, its place among the query's heads, and its atom.
abbrev pub HeadRecord : Type 0
HeadRecord = ℕ × ℕ × AtomRecord

abbrev pub head_read : Head (Bor AtomRecord) → HeadRecord
head_read head = (head.number, head.place, head.atom.now)

-- The one head comes before the other.
abbrev pub IsEarlier : HeadRecord → HeadRecord → Type 0
IsEarlier a b = (a.0 < b.0) ⊎ ((a.0 ≡ b.0) × (a.1 < b.1))

-- The head, where it misses.
abbrev pub miss_at : AtomRecord → HeadRecord → List (ℕ × ℕ × ℕ)
miss_at wanted (number, place, atom) = miss_if wanted number (place, atom)

-- The one miss comes before the other.
abbrev pub is_nearer : ℕ × ℕ × ℕ → ℕ × ℕ × ℕ → Bool
is_nearer a b = is_lt (miss_cmp a b)
