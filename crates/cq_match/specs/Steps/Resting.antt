-- How the part of a falling list on which a node rests is found: backwards, by the places of the falls that are still wanted.
use Rattle.std.specs.Prelude.{◌≡◌, ℕ, ◌≤◌, ◌<◌, ◌⊎◌, Bool, false, ◌&&◌, ◌==◌, ⊤, nat_eq, List, [], ◌∷◌, length, slice_index_or, drop, Option, Some}
use Rattle.std.specs.List.{Contains, IsDistinct, list_any}
use Rattle.std.specs.List.Sorted.{IsNonDecreasingBy}
use Rattle.std.specs.Option.{unwrap_or}
use Rattle.cq_atom.specs.declared.edge.Edge.{Edge}
use Rattle.cq_match.specs.declared.falls.Fall.{Fall}
use Rattle.cq_match.specs.declared.falls.Reason.{Reason}
use Rattle.cq_match.specs.declared.falls.Reason.TheVariants.{NotAble, Unmet}
use Rattle.cq_match.specs.Falling.{fallen, IsFalling}
use Rattle.cq_match.specs.Resting.{RestsOn}

abbrev pub no_fall : Fall
no_fall = record { node = 0; reason = NotAble }

-- The node of the fall at that place.
abbrev pub node_at : List Fall → ℕ → ℕ
node_at falls place = (slice_index_or falls place no_fall).node

-- So far in the list the table has the place of the fall of each node, and nothing else.
pub record ArePlaces (falls : List Fall) (count : ℕ) (places : ℕ → Option ℕ) : Type 0 where
  pub each : (place : ℕ) → place < count → places (node_at falls place) ≡ Some place
  pub only : (n place : ℕ) → places n ≡ Some place → (place < count) × (node_at falls place ≡ n)

-- An edge of the list to that postcondition comes from the node that has that place.
abbrev pub is_sender_at : (ℕ → Option ℕ) → ℕ → List Edge → ℕ → Bool
is_sender_at places post edges place = list_any (λ edge. (edge.post == post) && (unwrap_or (places edge.provider) 0 == place)) edges

-- An edge to the reason comes from the node that has that place.
abbrev pub feeds_from : (ℕ → Option ℕ) → List Edge → Reason → ℕ → Bool
feeds_from places edges NotAble place = false
feeds_from places edges (Unmet post) place = is_sender_at places post edges place

-- The second list has those of the first that have the property, in their order.
abbrev pub Picks : (Fall → Type 0) → List Fall → List Fall → Type 0
Picks P [] [] = ⊤
Picks P [] (x ∷ part) = ⊥
Picks P (fall ∷ falls) part = ((P fall → ⊥) × Picks P falls part) ⊎ (P fall × (rest : List Fall) × (part ≡ fall ∷ rest) × Picks P falls rest)

-- The list is falling in some graph of these edges, and has each node once.
pub record FallsOnce (edges : List Edge) (falls : List Fall) : Type 0 where
  pub nodes : List (ℕ × ℕ × Bool)
  pub falling : IsFalling nodes edges falls
  pub once : IsDistinct nat_eq (fallen falls)

-- What the type of `Parts` says.
pub record AreParts (edges : List Edge) (falls : List Fall) (places : ℕ → Option ℕ) : Type 0 where
  pub grouped : IsNonDecreasingBy (λ (edge : Edge). edge.waiter) edges
  pub good : FallsOnce edges falls
  pub placed : ArePlaces falls (length falls) places

-- The node has the fall in the part on which that node rests.
abbrev pub IsRested : List Edge → List Fall → ℕ → Fall → Type 0
IsRested edges falls node fall = RestsOn edges falls node fall.node

-- What stays true while the list is walked backwards, by wanted places: the part of the falls from a place on is found; the node rests on the node of each wanted place; and what else it rests on, one of these rests on.
pub record Walking (edges : List Edge) (falls : List Fall) (node left : ℕ) (wanted : List ℕ) (part : List Fall) : Type 0 where
  pub found : Picks (IsRested edges falls node) (drop left falls) part
  pub due : (w : ℕ) → Contains wanted w → RestsOn edges falls node (node_at falls w)
  pub reached : (n : ℕ) → RestsOn edges falls node n → ((k : ℕ) × (left ≤ k) × (k < length falls) × (node_at falls k ≡ n)) ⊎ ((w : ℕ) × Contains wanted w × RestsOn edges falls (node_at falls w) n)
