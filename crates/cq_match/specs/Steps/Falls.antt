-- The falls of places, over slots and their counts.
use Rattle.std.specs.Prelude.{◌≡◌, ℕ, ◌+◌, ◌==◌, Bool, false, List, slice_index, slice_index_or}
use Rattle.cq_match.specs.declared.falls.Fall.{Fall}
use Rattle.cq_match.specs.Falling.{IsFirstReason}
use Rattle.cq_match.specs.Steps.Places.{number_at}

-- The fall is of the node at the place, for the first reason that the counts of its slots tell.
abbrev pub IsFallOf : List (ℕ × ℕ × Bool) → List ℕ → List ℕ → ℕ → Fall → Type 0
IsFallOf ranked starts counts place fall =
    (fall.node ≡ number_at ranked place) × IsFirstReason (λ post. slice_index counts (slice_index starts place + post) == 0) (slice_index_or ranked place (0, 0, false)) fall.reason
