-- What the tests know of the nodes of a matcher, and what is asked of an edge that comes with a node.
use Rattle.std.specs.Prelude.{◌≡◌, ℕ, ◌<◌, Bool, false, List, ◌∷◌, slice_index}
use Rattle.std.specs.List.{All, Any, Contains}
use Rattle.cq_atom.specs.declared.edge.Edge.{Edge}
use Rattle.cq_match.specs.Matched.{numbers}
use Rattle.cq_match.specs.Matcher.{is_apart}

-- Each node has as many postconditions as the list says at its number.
abbrev pub HavePosts : List ℕ → List (ℕ × ℕ × Bool) → Type 0
HavePosts posts nodes = All (λ node. node.1 ≡ slice_index posts node.0) nodes

-- Both ends of the edge are among the nodes.
abbrev pub HasEnds : List (ℕ × ℕ × Bool) → Edge → Type 0
HasEnds nodes edge = Contains (numbers nodes) edge.provider × Any (λ node. (node.0 ≡ edge.waiter) × (edge.post < node.1)) nodes

-- The edge may come with a node that has so many postconditions.
abbrev pub IsTaken : List (ℕ × ℕ × Bool) → ℕ → ℕ → Edge → Type 0
IsTaken nodes node count edge = (is_apart node edge ≡ false) × ((able : Bool) → HasEnds ((node, count, able) ∷ nodes) edge)
