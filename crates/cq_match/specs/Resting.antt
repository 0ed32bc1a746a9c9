-- On which part of a falling list a node rests: itself, and, where its reason is a postcondition, those from which the edges to it come, and so on.
-- (what a node rests on: this project's profile)
use Rattle.std.specs.Prelude.{◌≡◌, ◌↔◌, ℕ, Bool, true, List, [], ◌∷◌, ◌++◌, filter}
use Rattle.std.specs.List.{Contains}
use Rattle.cq_atom.specs.declared.edge.Edge.{Edge}
use Rattle.cq_match.specs.declared.falls.Fall.{Fall}
use Rattle.cq_match.specs.declared.falls.Reason.TheVariants.{Unmet}
use Rattle.cq_match.specs.Graph.{edges_to}

-- A node rests on itself; and where the list has it with a postcondition as the reason, on all on which a provider of that postcondition rests.
pub data RestsOn (edges : List Edge) (falls : List Fall) : ℕ → ℕ → Type 0 where
  Itself : (n : ℕ) → RestsOn edges falls n n
  ByProvider : (n post m : ℕ) (edge : Edge) → Contains falls (record { node = n; reason = Unmet post }) → Contains (edges_to n post edges) edge → RestsOn edges falls edge.provider m → RestsOn edges falls n m

-- The part of a list on which a node rests: in the order of the list, the falls of exactly the nodes on which it rests.
pub record IsPartFor (edges : List Edge) (falls : List Fall) (node : ℕ) (part : List Fall) : Type 0 where
  pub keeps : Fall → Bool
  pub exact : (fall : Fall) → Contains falls fall → (keeps fall ≡ true) ↔ RestsOn edges falls node fall.node
  pub kept : part ≡ filter keeps falls

-- The list ends with the fall of the node.
pub record EndsWith (falls : List Fall) (node : ℕ) : Type 0 where
  pub front : List Fall
  pub last : Fall
  pub splits : falls ≡ front ++ last ∷ []
  pub itself : last.node ≡ node

-- What contracts see of the parts of a list: the edges of a graph, and a list that is falling in it.
pub record RestingRecord : Type 0 where
  pub edges : List Edge
  pub falls : List Fall
