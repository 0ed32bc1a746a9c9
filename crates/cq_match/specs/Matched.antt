-- Which nodes of a graph are matched: the union of all closed sets of nodes.
-- A graph here is a list of nodes and a list of edges. A node is its number, how many postconditions it has, and whether it is able, that is,
-- whether it may stand in a set at all.
-- (matching of entangled queries: Gupta et al., SIGMOD 2011; closed sets and the greatest of them: this project's profile)
use Rattle.std.specs.Prelude.{ℕ, Bool, not, ◌&&◌, ◌||◌, nat_eq, List, [], ◌∷◌, ◌++◌, map}
use Rattle.std.specs.List.{list_any, list_all, range_with_len}
use Rattle.std.specs.Set.{is_member}
use Rattle.cq_atom.specs.declared.edge.Edge.{Edge}
use Rattle.cq_match.specs.Graph.{leads_to}

-- The nodes' numbers, in the order of the list.
abbrev pub numbers : List (ℕ × ℕ × Bool) → List ℕ
numbers nodes = map (λ node. node.0) nodes

-- Some edge to the postcondition comes from a node of the set.
abbrev pub is_supplied : List Edge → List ℕ → ℕ → ℕ → Bool
is_supplied edges set waiter post = list_any (λ edge. leads_to waiter post edge && is_member nat_eq set edge.provider) edges

-- Each postcondition of the node has an edge from a node of the set.
abbrev pub has_each_post : List Edge → List ℕ → ℕ × ℕ × Bool → Bool
has_each_post edges set node = list_all (is_supplied edges set node.0) (range_with_len 0 node.1)

-- A set of nodes is closed where each of its members is able and has each postcondition from a member.
unfoldable pub is_closed : List (ℕ × ℕ × Bool) → List Edge → List ℕ → Bool
is_closed nodes edges set = list_all (λ node. not (is_member nat_eq set node.0) || (node.2 && has_each_post edges set node)) nodes

-- All sets of elements of a list: the list with or without each of its elements.
abbrev pub sublists : {X : Type 0} → List X → List (List X)
sublists [] = [] ∷ []
sublists (x ∷ xs) = map (λ chosen. x ∷ chosen) (sublists xs) ++ sublists xs

-- A node is matched where some closed set of nodes contains it.
unfoldable pub is_matched : List (ℕ × ℕ × Bool) → List Edge → ℕ → Bool
is_matched nodes edges n = list_any (λ set. is_closed nodes edges set && is_member nat_eq set n) (sublists (numbers nodes))
