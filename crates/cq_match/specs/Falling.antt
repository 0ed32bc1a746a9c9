-- Which nodes of a graph fall, why, and in which order. A graph is a list of nodes and a list of edges, as for the definition of matched nodes.
-- (falling lists, and unmatched nodes as those that stand in one: this project's profile)
use Rattle.std.specs.Prelude.{◌≡◌, ℕ, ◌<◌, ◌↔◌, ⊤, Bool, true, false, nat_eq, List, [], ◌∷◌, ◌++◌, map}
use Rattle.std.specs.List.{Any, Contains, list_all}
use Rattle.std.specs.List.Sorted.{IsStrictlySortedBy}
use Rattle.std.specs.Ordering.{nat_cmp}
use Rattle.std.specs.Set.{is_member}
use Rattle.cq_atom.specs.declared.edge.Edge.{Edge}
use Rattle.cq_match.specs.declared.falls.Fall.{Fall}
use Rattle.cq_match.specs.declared.falls.Reason.{Reason}
use Rattle.cq_match.specs.declared.falls.Reason.TheVariants.{NotAble, Unmet}
use Rattle.cq_match.specs.Graph.{edges_to}
use Rattle.cq_match.specs.Matched.{numbers, is_matched}

-- Each edge to the postcondition comes from a node of the list. There may be none.
abbrev pub is_unmet : List Edge → List ℕ → ℕ → ℕ → Bool
is_unmet edges gone waiter post = list_all (λ edge. is_member nat_eq gone edge.provider) (edges_to waiter post edges)

-- The node is not able, or it has the named postcondition, which is unmet.
abbrev pub HasReason : (ℕ → Bool) → ℕ × ℕ × Bool → Reason → Type 0
HasReason unmet node NotAble = node.2 ≡ false
HasReason unmet node (Unmet post) = (post < node.1) × (unmet post ≡ true)

-- The reason is the first that the node has: not able, if it is not able, and else the lowest of its postconditions that are unmet.
abbrev pub IsFirstReason : (ℕ → Bool) → ℕ × ℕ × Bool → Reason → Type 0
IsFirstReason unmet node NotAble = node.2 ≡ false
IsFirstReason unmet node (Unmet post) = (node.2 ≡ true) × (post < node.1) × (unmet post ≡ true) × ((lower : ℕ) → lower < post → unmet lower ≡ false)

-- The numbers of the nodes, in the order of the list.
abbrev pub fallen : List Fall → List ℕ
fallen falls = map (λ fall. fall.node) falls

-- The list is falling once the nodes of the other list have fallen.
abbrev pub IsFallingAfter : List (ℕ × ℕ × Bool) → List Edge → List ℕ → List Fall → Type 0
IsFallingAfter nodes edges gone [] = ⊤
IsFallingAfter nodes edges gone (fall ∷ falls) =
    Any (λ node. (node.0 ≡ fall.node) × HasReason (is_unmet edges gone node.0) node fall.reason) nodes × IsFallingAfter nodes edges (gone ++ fall.node ∷ []) falls

-- A list is falling where each node is not able, or has the named postcondition, all of whose edges come from nodes that stand earlier in the list.
abbrev pub IsFalling : List (ℕ × ℕ × Bool) → List Edge → List Fall → Type 0
IsFalling nodes edges falls = IsFallingAfter nodes edges [] falls

-- Some falling list has the node.
pub record CanFall (nodes : List (ℕ × ℕ × Bool)) (edges : List Edge) (n : ℕ) : Type 0 where
  pub falls : List Fall
  pub falling : IsFalling nodes edges falls
  pub has : Contains (fallen falls) n

-- A node of the graph that is not matched.
abbrev pub IsUnmatched : List (ℕ × ℕ × Bool) → List Edge → ℕ → Type 0
IsUnmatched nodes edges n = Contains (numbers nodes) n × (is_matched nodes edges n ≡ false)

-- Once the nodes of the list have fallen, another node falls, for the first reason that it has.
abbrev pub FallsNext : List (ℕ × ℕ × Bool) → List Edge → List ℕ → Fall → Type 0
FallsNext nodes edges gone fall =
    Any (λ node. (node.0 ≡ fall.node) × IsFirstReason (is_unmet edges gone node.0) node fall.reason) nodes × (is_member nat_eq gone fall.node ≡ false)

-- A round, once the nodes of the list have fallen: all that fall next, rising.
pub record IsRound (nodes : List (ℕ × ℕ × Bool)) (edges : List Edge) (gone : List ℕ) (round : List Fall) : Type 0 where
  pub each : (fall : Fall) → Contains round fall ↔ FallsNext nodes edges gone fall
  pub rising : IsStrictlySortedBy nat_cmp (fallen round)

-- The list is round after round, each once the nodes of those before it have fallen.
pub data AreRounds (nodes : List (ℕ × ℕ × Bool)) (edges : List Edge) : List Fall → Type 0 where
  Start : AreRounds nodes edges []
  Next : (falls round : List Fall) → AreRounds nodes edges falls → IsRound nodes edges (fallen falls) round → AreRounds nodes edges (falls ++ round)

-- All rounds: after them no node falls.
pub record AreAllRounds (nodes : List (ℕ × ℕ × Bool)) (edges : List Edge) (falls : List Fall) : Type 0 where
  pub rounds : AreRounds nodes edges falls
  pub last : IsRound nodes edges (fallen falls) []
