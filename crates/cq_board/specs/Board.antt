-- The board of a pool: what is computed from scratch over its queries and rows.
-- (edges, and groundings of bodies: Gupta et al., SIGMOD 2011; crowded, matched and the order of lists: this project's profile)
use Rattle.std.specs.Prelude.{ℕ, Bool, nat_lt, List, [], ◌∷◌, map, filter, length, if◌then◌else◌, Option, Some, None, option_map}
use Rattle.std.specs.List.{flat_map, enumerate_from, slice_get, position}
use Rattle.cq_atom.specs.Value.{ValueContent}
use Rattle.cq_atom.specs.Atom.{AtomRecord, RowRecord}
use Rattle.cq_atom.specs.declared.edge.Edge.{Edge}
use Rattle.cq_match.specs.Graph.{provider_count, is_crowd}
use Rattle.cq_match.specs.Matched.{is_matched}
use Rattle.cq_ground.specs.Grounding.{groundings_of}
use Rattle.cq_board.specs.declared.link.Link.{Link}
use Rattle.cq_board.specs.declared.link.Crowd.{Crowd}
use Rattle.cq_board.specs.Pool.{PendingQuery, PoolRecord}
use Rattle.cq_board.specs.Edges.{edges_of}
use Rattle.cq_board.specs.Edits.{is_named}

-- A query is able where its groundings over the rows are not empty: a body that finds no rows keeps it from coordinating.
abbrev pub is_able : List RowRecord → PendingQuery → Bool
is_able rows p = nat_lt 0 (length (groundings_of p.query.body rows))

-- The graph's nodes: the places of the queries, each with its number of postconditions, and whether it is able.
abbrev pub nodes_of : PoolRecord → List (ℕ × ℕ × Bool)
nodes_of pool = map (λ p. (p.0, length p.1.query.posts, is_able pool.tables.rows p.1)) (enumerate_from 0 pool.pending)

-- The query at that place is matched.
abbrev pub is_matched_at : PoolRecord → ℕ → Bool
is_matched_at pool place = is_matched (nodes_of pool) (edges_of pool.pending) place

-- The places of the matched queries, in posting order.
abbrev pub matched_of : PoolRecord → List ℕ
matched_of pool = filter (is_matched_at pool) (map (λ p. p.0) (enumerate_from 0 pool.pending))

-- The groundings of each query over the rows, in posting order.
abbrev pub all_groundings : PoolRecord → List (List (List ValueContent))
all_groundings pool = map (λ p. groundings_of p.query.body pool.tables.rows) pool.pending

-- A postcondition with its providers counted, where they are a crowd.
abbrev pub crowd_if : List PendingQuery → ℕ × PendingQuery → ℕ × AtomRecord → List (Crowd (List ℕ))
crowd_if pending (waiter, query) (post, wanted) =
    let count = provider_count waiter post (edges_of pending) in
    if is_crowd count then (record { waiter = query.name; post = post; providers = count }) ∷ [] else []

-- The crowded postconditions: by the waiter's posting, and then by the postcondition.
abbrev pub crowded_of : List PendingQuery → List (Crowd (List ℕ))
crowded_of pending = flat_map (λ p. flat_map (crowd_if pending p) (enumerate_from 0 p.1.query.posts)) (enumerate_from 0 pending)

-- The board of a pool.
pub record BoardRecord : Type 0 where
  pub edges : List Edge
  pub crowded : List (Crowd (List ℕ))
  pub matched : List ℕ
  pub groundings : List (List (List ValueContent))

-- The board of a pool: all four from its queries and rows alone.
abbrev pub board_of : PoolRecord → BoardRecord
board_of pool = record { edges = edges_of pool.pending; crowded = crowded_of pool.pending; matched = matched_of pool; groundings = all_groundings pool }

-- The name at a place, where there is one.
abbrev pub name_at : List PendingQuery → ℕ → Option (List ℕ)
name_at pending place = option_map (λ p. p.name) (slice_get pending place)

-- ---- edges by names

-- A name, or no byte where there is none.
abbrev pub name_or_none : Option (List ℕ) → List ℕ
name_or_none None = []
name_or_none (Some name) = name

-- An edge by the names of its ends.
abbrev pub link_of : List PendingQuery → Edge → Link (List ℕ)
link_of pending edge = record {
  provider = name_or_none (name_at pending edge.provider);
  head = edge.head;
  waiter = name_or_none (name_at pending edge.waiter);
  post = edge.post;
}

-- All edges by names: by the waiter's posting, the postcondition, the provider's posting, the head.
abbrev pub links_of : List PendingQuery → List (Link (List ℕ))
links_of pending = map (link_of pending) (edges_of pending)

-- ---- one query by its name

-- The place of the query of that name, where one is pending.
abbrev pub place_of : List ℕ → List PendingQuery → Option ℕ
place_of name pending = position (is_named name) pending
