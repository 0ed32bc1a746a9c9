-- What contracts see of a matcher.
-- (the matched set kept while nodes come, go, and become able or not: this project's profile)
use Rattle.std.specs.Prelude.{ℕ, Bool, not, ◌&&◌, ◌==◌, nat_eq, List, [], map, filter, count_by, if◌then◌else◌}
use Rattle.std.specs.Set.{is_member}
use Rattle.std.specs.declared.cmp.Ordering.{Ordering}
use Rattle.std.specs.Ordering.{nat_cmp, ordering_then}
use Rattle.cq_atom.specs.declared.edge.Edge.{Edge}
use Rattle.cq_match.specs.Matched.{numbers}

-- A graph, as it is for the definition of matched nodes, and those of its nodes that are kept as matched.
pub record MatcherRecord : Type 0 where
  pub nodes : List (ℕ × ℕ × Bool)
  pub edges : List Edge
  pub matched : List ℕ

-- No nodes.
abbrev pub nothing : MatcherRecord
nothing = record { nodes = []; edges = []; matched = [] }

-- The node is in the graph.
abbrev pub has_node : ℕ → MatcherRecord → Bool
has_node n matcher = is_member nat_eq (numbers matcher.nodes) n

-- The nodes, of which one has got that flag.
abbrev pub with_flag : ℕ → Bool → List (ℕ × ℕ × Bool) → List (ℕ × ℕ × Bool)
with_flag n able nodes = map (λ node. (node.0, node.1, if node.0 == n then able else node.2)) nodes

-- The nodes but for that one.
abbrev pub without : ℕ → List (ℕ × ℕ × Bool) → List (ℕ × ℕ × Bool)
without n nodes = filter (λ node. not (node.0 == n)) nodes

-- The nodes of that number.
abbrev pub with_number : ℕ → List (ℕ × ℕ × Bool) → List (ℕ × ℕ × Bool)
with_number n nodes = filter (λ node. node.0 == n) nodes

-- How many edges had a matched provider before, and have none afterwards.
abbrev pub lost : MatcherRecord → MatcherRecord → ℕ
lost before after = count_by (λ edge. is_member nat_eq before.matched edge.provider && not (is_member nat_eq after.matched edge.provider)) before.edges

-- The edge neither leaves the node nor leads to it.
abbrev pub is_apart : ℕ → Edge → Bool
is_apart n edge = not (edge.provider == n) && not (edge.waiter == n)

-- The edge leaves the node.
abbrev pub leaves : ℕ → Edge → Bool
leaves n edge = edge.provider == n

-- The order of edges that leave one node: by waiter, then by postcondition, then by head.
abbrev pub waiter_cmp : Edge → Edge → Ordering
waiter_cmp a b = ordering_then (ordering_then (nat_cmp a.waiter b.waiter) (nat_cmp a.post b.post)) (nat_cmp a.head b.head)
