-- How the greatest closed set is found, over places and slots in place of nodes and postconditions.
-- Places and slots are numbers from 0. Each slot has an owner, which is a place, and offers lead from places to slots.
use Rattle.std.specs.Prelude.{◌≡◌, ℕ, ◌<◌, Bool, true, false, ◌&&◌, ◌==◌, List, length, slice_index, slice_index_or}
use Rattle.std.specs.List.{list_any}
use Rattle.cq_match.specs.declared.settle.Offer.{Offer}

-- The place has not fallen.
abbrev pub stands : List Bool → ℕ → Bool
stands standing place = slice_index_or standing place false

-- The offer leads to the slot.
abbrev pub is_into : ℕ → Offer → Bool
is_into slot offer = offer.slot == slot

-- The offer leads to the slot from a place of the set.
abbrev pub feeds : (ℕ → Bool) → ℕ → Offer → Bool
feeds set slot offer = is_into slot offer && set offer.provider

-- Each slot of a place of the set is fed from the set.
pub record FeedsItself (owners : List ℕ) (offers : List Offer) (set : ℕ → Bool) : Type 0 where
  pub fed : (slot : ℕ) → slot < length owners → set (slice_index owners slot) ≡ true → list_any (feeds set slot) offers ≡ true
