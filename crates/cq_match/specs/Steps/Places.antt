-- Nodes by their places among all nodes in rising order, and their postconditions by slots.
use Rattle.std.specs.Prelude.{◌≡◌, ℕ, Bool, false, if◌then◌else◌, ◌+◌, ◌<◌, ◌≤◌, nat_eq, List, length, slice_index, slice_index_or}
use Rattle.std.specs.List.{All, list_any}
use Rattle.std.specs.Set.{is_member}
use Rattle.cq_atom.specs.declared.edge.Edge.{Edge}
use Rattle.cq_match.specs.declared.settle.Offer.{Offer}
use Rattle.cq_match.specs.Matched.{is_supplied}
use Rattle.cq_match.specs.Steps.Settle.{feeds}

-- The number of the node at a place.
abbrev pub number_at : List (ℕ × ℕ × Bool) → ℕ → ℕ
number_at nodes place = (slice_index_or nodes place (0, 0, false)).0

-- How many postconditions the node at a place has.
abbrev pub posts_at : List (ℕ × ℕ × Bool) → ℕ → ℕ
posts_at nodes place = (slice_index_or nodes place (0, 0, false)).1

-- Whether the node at a place is able.
abbrev pub able_at : List (ℕ × ℕ × Bool) → ℕ → Bool
able_at nodes place = (slice_index_or nodes place (0, 0, false)).2

-- How many slots a node has: one for each postcondition and, where it is not able, one more, which nothing feeds.
abbrev pub slots_of_node : ℕ × ℕ × Bool → ℕ
slots_of_node node = node.1 + (if node.2 then 0 else 1)

-- How many slots the node at a place has.
abbrev pub slots_at : List (ℕ × ℕ × Bool) → ℕ → ℕ
slots_at nodes place = slots_of_node (slice_index_or nodes place (0, 0, false))

-- Each node has a smaller number than those after it.
abbrev pub IsRanked : List (ℕ × ℕ × Bool) → Type 0
IsRanked nodes = (i j : ℕ) → i < j → j < length nodes → number_at nodes i < number_at nodes j

-- The slots of all nodes in a row: those of each place from its start on, its postconditions first.
pub record AreSlots (nodes : List (ℕ × ℕ × Bool)) (starts owners : List ℕ) : Type 0 where
  pub starts_len : length starts ≡ length nodes
  pub owner_low : (slot : ℕ) → slot < length owners → slice_index owners slot < length nodes
  pub owned_from : (slot : ℕ) → slot < length owners → slice_index starts (slice_index owners slot) ≤ slot
  pub owned_to : (slot : ℕ) → slot < length owners → slot < slice_index starts (slice_index owners slot) + slots_at nodes (slice_index owners slot)
  pub slot_low : (place post : ℕ) → place < length nodes → post < slots_at nodes place → slice_index starts place + post < length owners
  pub slot_owner : (place post : ℕ) → place < length nodes → post < slots_at nodes place → slice_index owners (slice_index starts place + post) ≡ place

-- The offer is the edge, by the place of its provider and the slot of its postcondition.
pub record IsOfferOf (nodes : List (ℕ × ℕ × Bool)) (starts : List ℕ) (edge : Edge) (offer : Offer) : Type 0 where
  pub waiter : ℕ
  pub provider_low : offer.provider < length nodes
  pub provider_is : number_at nodes offer.provider ≡ edge.provider
  pub waiter_low : waiter < length nodes
  pub waiter_is : number_at nodes waiter ≡ edge.waiter
  pub post_low : edge.post < posts_at nodes waiter
  pub slot_is : offer.slot ≡ slice_index starts waiter + edge.post

-- The offers are the edges: a slot is fed from a set of places exactly where the postcondition is supplied from their nodes.
pub record AreOffersOf (nodes : List (ℕ × ℕ × Bool)) (starts : List ℕ) (slots : ℕ) (edges : List Edge) (offers : List Offer) : Type 0 where
  pub low : All (λ offer. (offer.provider < length nodes) × (offer.slot < slots)) offers
  pub same : (set : List ℕ) (place post : ℕ) → place < length nodes → post < slots_at nodes place
      → list_any (feeds (λ provider. is_member nat_eq set (number_at nodes provider)) (slice_index starts place + post)) offers ≡ is_supplied edges set (number_at nodes place) post
