-- Which edges of a graph supply a postcondition.
-- (edges of the unifiability graph: Gupta et al., SIGMOD 2011; one edge for each pair of a head and a postcondition, and what is crowded: this project's profile)
use Rattle.std.specs.Prelude.{ℕ, Bool, ◌&&◌, ◌==◌, nat_le, List, length, filter}
use Rattle.cq_atom.specs.declared.edge.Edge.{Edge}

-- The edge leads to that postcondition.
abbrev pub leads_to : ℕ → ℕ → Edge → Bool
leads_to waiter post edge = (edge.waiter == waiter) && (edge.post == post)

-- The edges to a postcondition, in the order in which the graph lists them.
abbrev pub edges_to : ℕ → ℕ → List Edge → List Edge
edges_to waiter post edges = filter (leads_to waiter post) edges

-- How many providers a postcondition has: each of its edges counts.
abbrev pub provider_count : ℕ → ℕ → List Edge → ℕ
provider_count waiter post edges = length (edges_to waiter post edges)

-- Two providers or more are a crowd.
abbrev pub is_crowd : ℕ → Bool
is_crowd count = nat_le 2 count
