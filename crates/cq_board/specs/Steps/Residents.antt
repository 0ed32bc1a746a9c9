-- Pending queries in places of their own, and the graph among them, whose nodes are the places in any order.
use Rattle.std.specs.Prelude.{◌≡◌, ◌↔◌, ℕ, Bool, true, not, Option, Some, option_map, find, if◌then◌else◌, nat_eq, ◌==◌, List, [], ◌∷◌, ◌++◌, length, map, filter, count_by, slice_index_or}
use Rattle.std.specs.declared.cmp.Ordering.{Ordering}
use Rattle.std.specs.Ordering.{nat_cmp, ordering_then}
use Rattle.std.specs.Map.{lookup}
use Rattle.std.specs.Option.{option_map_or}
use Rattle.std.specs.List.{Contains, flat_map, enumerate_from, slice_get}
use Rattle.cq_atom.specs.Atom.{AtomRecord}
use Rattle.cq_atom.specs.Unify.{Unify}
use Rattle.cq_atom.specs.declared.edge.Edge.{Edge}
use Rattle.cq_match.specs.Graph.{provider_count, is_crowd}
use Rattle.cq_board.specs.Steps.Supply.{unifies}
use Rattle.cq_board.specs.declared.link.Link.{Link}
use Rattle.cq_board.specs.declared.link.Crowd.{Crowd}
use Rattle.cq_board.specs.Pool.{PendingQuery}
use Rattle.cq_board.specs.Edits.{is_named}
use Rattle.cq_board.specs.Board.{name_or_none}
use Rattle.cq_board.specs.Edges.{edge_if}

-- A pending query with its place. Lists of residents are in posting order.
abbrev pub Resident : Type 0
Resident = ℕ × PendingQuery

abbrev pub places_of : List Resident → List ℕ
places_of residents = map (λ r. r.0) residents

abbrev pub queries_of : List Resident → List PendingQuery
queries_of residents = map (λ r. r.1) residents

-- The place of the query at a position in posting order.
abbrev pub place_at : List Resident → ℕ → ℕ
place_at residents position = slice_index_or (places_of residents) position 0

-- The residents but for the one in that place.
abbrev pub all_but : ℕ → List Resident → List Resident
all_but place residents = filter (λ r. not (r.0 == place)) residents

-- The edges from the residents' heads to one postcondition of one waiter.
abbrev pub edges_from : List Resident → ℕ → ℕ × AtomRecord → List Edge
edges_from providers waiter post = flat_map (λ provider. flat_map (λ head. edge_if provider.0 head waiter post) (enumerate_from 0 provider.1.query.heads)) providers

-- The edges from the heads of the first to the postconditions of the second.
abbrev pub edges_between : List Resident → List Resident → List Edge
edges_between providers waiters = flat_map (λ waiter. flat_map (edges_from providers waiter.0) (enumerate_from 0 waiter.1.query.posts)) waiters

-- All edges, by their ends' places.
abbrev pub edges_among : List Resident → List Edge
edges_among residents = edges_between residents residents

-- The edges between one resident and the others, and between it and itself.
abbrev pub edges_touching : List Resident → Resident → List Edge
edges_touching residents r = edges_between residents (r ∷ []) ++ (edges_between (r ∷ []) residents ++ edges_between (r ∷ []) (r ∷ []))

-- The edge leads from a head of the one to a postcondition of the other, and the two unify.
pub record Supplies (provider waiter : Resident) (edge : Edge) : Type 0 where
  pub offered : AtomRecord
  pub wanted : AtomRecord
  pub comes_from : edge.provider ≡ provider.0
  pub leads_to : edge.waiter ≡ waiter.0
  pub head : slice_get provider.1.query.heads edge.head ≡ Some offered
  pub post : slice_get waiter.1.query.posts edge.post ≡ Some wanted
  pub unify : unifies offered wanted ≡ true

-- What the resident in that place offers, and what it waits for; nothing where there is none.
abbrev pub heads_in : List Resident → ℕ → List AtomRecord
heads_in residents place = option_map_or (λ q. q.query.heads) (lookup (nat_eq place) residents) []

abbrev pub posts_in : List Resident → ℕ → List AtomRecord
posts_in residents place = option_map_or (λ q. q.query.posts) (lookup (nat_eq place) residents) []

-- The edge leads from one of the heads at its provider's place to one of the postconditions at its waiter's place, and the two unify.
pub record IsLinked (heads posts : ℕ → List AtomRecord) (edge : Edge) : Type 0 where
  pub offered : AtomRecord
  pub wanted : AtomRecord
  pub head : slice_get (heads edge.provider) edge.head ≡ Some offered
  pub post : slice_get (posts edge.waiter) edge.post ≡ Some wanted
  pub unify : Unify offered wanted

-- The place of the resident whose query has the name.
abbrev pub place_in : List ℕ → List Resident → Option ℕ
place_in name residents = option_map (λ r. r.0) (find (λ r. is_named name r.1) residents)

-- The nodes: each place with its query's number of postconditions, and whether it is able.
abbrev pub nodes_among : (Resident → Bool) → List Resident → List (ℕ × ℕ × Bool)
nodes_among able residents = map (λ r. (r.0, length r.1.query.posts, able r)) residents

-- The edge with other numbers for its ends.
abbrev pub renamed : (ℕ → ℕ) → Edge → Edge
renamed f edge = record { provider = f edge.provider; head = edge.head; waiter = f edge.waiter; post = edge.post }

-- The order of edges: by waiter, then by postcondition, then by provider, then by head.
abbrev pub edge_cmp : Edge → Edge → Ordering
edge_cmp a b = ordering_then (ordering_then (ordering_then (nat_cmp a.waiter b.waiter) (nat_cmp a.post b.post)) (nat_cmp a.provider b.provider)) (nat_cmp a.head b.head)

-- The postcondition of a resident, where it has a crowd of providers among the edges by places.
abbrev pub crowd_at_place : List Edge → Resident → ℕ × AtomRecord → List (Crowd (List ℕ))
crowd_at_place edges r (post, wanted) =
    let count = provider_count r.0 post edges in
    if is_crowd count then (record { waiter = r.1.name; post = post; providers = count }) ∷ [] else []

-- The crowded postconditions of residents, in posting order.
abbrev pub crowds_among : List Edge → List Resident → List (Crowd (List ℕ))
crowds_among edges residents = flat_map (λ r. flat_map (crowd_at_place edges r) (enumerate_from 0 r.1.query.posts)) residents

-- The name of the resident in that place.
abbrev pub name_in : List Resident → ℕ → List ℕ
name_in residents place = name_or_none (option_map (λ q. q.name) (lookup (nat_eq place) residents))

-- An edge by places, by the names of its ends.
abbrev pub link_in : List Resident → Edge → Link (List ℕ)
link_in residents edge = record { provider = name_in residents edge.provider; head = edge.head; waiter = name_in residents edge.waiter; post = edge.post }

-- The nodes and the edges are those of the residents, in any order.
pub record IsGraphOf (able : Resident → Bool) (residents : List Resident) (nodes : List (ℕ × ℕ × Bool)) (edges : List Edge) : Type 0 where
  pub same_nodes : (node : ℕ × ℕ × Bool) → Contains nodes node ↔ Contains (nodes_among able residents) node
  pub same_edges : (test : Edge → Bool) → count_by test edges ≡ count_by test (edges_among residents)
