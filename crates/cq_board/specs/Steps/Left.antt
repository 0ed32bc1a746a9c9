-- The edges that are left, while queries and their postconditions are gone through.
use Rattle.std.specs.Prelude.{ℕ, List, Option, option_map}
use Rattle.std.specs.List.{flat_map, enumerate_from, slice_get}
use Rattle.cq_atom.specs.Query.{QueryRecord}
use Rattle.cq_atom.specs.declared.edge.Edge.{Edge}
use Rattle.cq_board.specs.Pool.{PendingQuery}
use Rattle.cq_board.specs.Edges.{edges_into}

-- The query of that number in posting order.
abbrev pub query_at : List PendingQuery → ℕ → Option QueryRecord
query_at pending place = option_map (λ p. p.query) (slice_get pending place)

-- The edges to a query of that number, by the postcondition.
abbrev pub edges_to_query : List PendingQuery → ℕ → QueryRecord → List Edge
edges_to_query pending waiter query = flat_map (edges_into pending waiter) (enumerate_from 0 query.posts)

-- The edges to one query at its place.
abbrev pub edges_at : List PendingQuery → ℕ × PendingQuery → List Edge
edges_at pending waiter = edges_to_query pending waiter.0 waiter.1.query
