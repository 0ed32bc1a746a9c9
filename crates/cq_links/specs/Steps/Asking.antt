-- Edges that are found by asking one side of all queries for the partners of atoms of the other side.
use Rattle.std.specs.Prelude.{◌≡◌, ◌↔◌, ⊤, ℕ, ◌+◌, ◌/◌, ◌%◌, List, [], ◌∷◌, ◌++◌, Some, slice_get, sum_by, length}
use Rattle.std.specs.List.{Contains}
use Rattle.cq_atom.specs.declared.limits.TheConstants.{MAX_ATOMS}
use Rattle.cq_atom.specs.Atom.{AtomRecord}
use Rattle.cq_atom.specs.declared.edge.Edge.{Edge}
use Rattle.cq_index.specs.Index.{AtomMap, candidates_of, IsPartnerAt}
use Rattle.cq_links.specs.declared.asking.Side.{Side}
use Rattle.cq_links.specs.declared.asking.Side.TheVariants.{Heads, Posts}

-- The edge between the atom of that number on the side of the query at the place, and the atom of the other side at the key.
abbrev pub edge_of : Side → ℕ → ℕ → ℕ → Edge
edge_of Heads place number key = record { provider = place; head = number; waiter = key / MAX_ATOMS; post = key % MAX_ATOMS }
edge_of Posts place number key = record { provider = key / MAX_ATOMS; head = key % MAX_ATOMS; waiter = place; post = number }

-- No edge of the list stands in it again.
abbrev pub IsOnce : List Edge → Type 0
IsOnce [] = ⊤
IsOnce (edge ∷ edges) = (Contains edges edge → ⊥) × IsOnce edges

-- After the old edges stand those with the property, each once.
pub record Adds (P : Edge → Type 0) (old new : List Edge) : Type 0 where
  pub added : List Edge
  pub behind : new ≡ old ++ added
  pub exact : (edge : Edge) → Contains added edge ↔ P edge
  pub once : IsOnce added

-- The edge is between the given atom and one of the index that unifies with it.
abbrev pub IsAnswer : (ℕ → Edge) → AtomMap → AtomRecord → Edge → Type 0
IsAnswer make index given edge = (key : ℕ) × (edge ≡ make key) × IsPartnerAt index given key

-- After the old edges stand those between the given atom and the atoms of the index that unify with it, each once.
abbrev pub Answers : (ℕ → Edge) → AtomMap → AtomRecord → List Edge → List Edge → Type 0
Answers make index given old new = Adds (IsAnswer make index given) old new

-- The edge is between one of the atoms, by its number, and one of the index that unifies with it.
abbrev pub IsAnswerTo : (ℕ → ℕ → Edge) → AtomMap → List AtomRecord → Edge → Type 0
IsAnswerTo make index atoms edge = (number : ℕ) × (given : AtomRecord) × (slice_get atoms number ≡ Some given) × IsAnswer (make number) index given edge

-- After the old edges stand those between one of the atoms and the atoms of the index that unify with it, each once.
abbrev pub AnswersAll : (ℕ → ℕ → Edge) → AtomMap → List AtomRecord → List Edge → List Edge → Type 0
AnswersAll make index atoms old new = Adds (IsAnswerTo make index atoms) old new

-- First the edges between the postconditions and the heads that unify with them, then those between the heads and the postconditions that unify with them.
pub record AnswersBoth (place : ℕ) (posts heads : List AtomRecord) (all_heads all_posts : AtomMap) (edges : List Edge) : Type 0 where
  pub halfway : List Edge
  pub supplied : AnswersAll (edge_of Posts place) all_heads posts [] halfway
  pub supplying : AnswersAll (edge_of Heads place) all_posts heads halfway edges

-- How many tests that asking takes.
abbrev pub pairs_tested : List AtomRecord → List AtomRecord → AtomMap → AtomMap → ℕ
pairs_tested posts heads all_heads all_posts = sum_by (λ post. length (candidates_of all_heads post)) posts + sum_by (λ head. length (candidates_of all_posts head)) heads
