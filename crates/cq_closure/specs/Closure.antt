-- Nodes that are reached over edges, from who waits to who provides.
-- (closure of a set under a relation: Aho, Garey, Ullman, SIAM J. Comput. 1972; edges: Gupta et al., SIGMOD 2011)
use Rattle.std.specs.Prelude.{◌≡◌, ℕ, Bool, true, false, List, slice_index_or}
use Rattle.std.specs.List.{Contains}
use Rattle.cq_atom.specs.declared.edge.Edge.{Edge}

-- The node has a flag. Behind the last flag no node has one.
abbrev pub is_set : List Bool → ℕ → Bool
is_set flags node = slice_index_or flags node false

-- A node is reached: it may be, and it is one of the first, or it provides for one that is reached.
pub data IsReached (edges : List Edge) (may first : List Bool) : ℕ → Type 0 where
  First : (n : ℕ) → is_set may n ≡ true → is_set first n ≡ true → IsReached edges may first n
  Providing : (edge : Edge) → Contains edges edge → is_set may edge.provider ≡ true → IsReached edges may first edge.waiter → IsReached edges may first edge.provider
