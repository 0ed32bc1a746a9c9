-- The edges of a list of pending queries, whose nodes are their places in posting order.
-- (the unifiability graph: Gupta et al., SIGMOD 2011; provider and waiter may be one query, and each pair of atoms is looked at alone: this project's profile)
use Rattle.std.specs.Prelude.{ℕ, List, [], ◌∷◌, if◌then◌else◌}
use Rattle.std.specs.List.{flat_map, enumerate_from}
use Rattle.cq_atom.specs.Atom.{AtomRecord}
use Rattle.cq_atom.specs.declared.edge.Edge.{Edge}
use Rattle.cq_board.specs.Steps.Supply.{unifies}
use Rattle.cq_board.specs.Pool.{PendingQuery}

-- The edge from a head to a postcondition, where the two unify.
abbrev pub edge_if : ℕ → ℕ × AtomRecord → ℕ → ℕ × AtomRecord → List Edge
edge_if provider (head, offered) waiter (post, wanted) =
    if unifies offered wanted then (record { provider = provider; head = head; waiter = waiter; post = post }) ∷ [] else []

-- The edges to one postcondition of one waiter: by the provider's posting, and then by the head.
abbrev pub edges_into : List PendingQuery → ℕ → ℕ × AtomRecord → List Edge
edges_into pending waiter post =
    flat_map (λ provider. flat_map (λ head. edge_if provider.0 head waiter post) (enumerate_from 0 provider.1.query.heads)) (enumerate_from 0 pending)

-- All edges: by the waiter's posting, then by the postcondition, and then as above. Two atoms unify where `Unify` says so: `unifies` is `Unify` as a test, by the law `unifies_is_unify`.
abbrev pub edges_of : List PendingQuery → List Edge
edges_of pending =
    flat_map (λ waiter. flat_map (edges_into pending waiter.0) (enumerate_from 0 waiter.1.query.posts)) (enumerate_from 0 pending)
