-- What the four stores of a board keep of a pool: its residents, each at its place.
use Rattle.std.specs.Prelude.{◌≡◌, ◌≢◌, ◌↔◌, ℕ, ◌+◌, Bool, List, [], map, count_by, nat_eq}
use Rattle.std.specs.List.{Contains, AllPairs, position_or_len}
use Rattle.std.specs.FinMap.{empty, get}
use Rattle.std.specs.Map.{lookup}
use Rattle.std.specs.Option.{option_map, option_map_or}
use Rattle.std.specs.Set.{is_member}
use Rattle.cq_atom.specs.Atom.{RowRecord}
use Rattle.cq_atom.specs.Query.{QueryRecord}
use Rattle.cq_roster.specs.Roster.{SeatRecord, IsRoster}
use Rattle.cq_grounded.specs.Grounded.{GroundedMap, found}
use Rattle.cq_links.specs.Links.{LinkMap, ends_of, IsLink, Touches}
use Rattle.cq_atom.specs.declared.edge.Edge.{Edge}
use Rattle.cq_match.specs.Matched.{is_matched}
use Rattle.cq_match.specs.Matcher.{MatcherRecord, nothing}
use Rattle.cq_board.specs.Pool.{PendingQuery, PoolRecord, IsPool}
use Rattle.cq_board.specs.Board.{is_able}
use Rattle.cq_board.specs.Steps.Residents.{Resident, queries_of, IsGraphOf}

-- What the stores hold: names in posting order, each with its place, and at each place the query with its groundings, the query's atoms, and a node of the graph.
pub record StoresRecord : Type 0 where
  pub seats : List SeatRecord
  pub grounded : GroundedMap
  pub links : LinkMap
  pub matcher : MatcherRecord

-- Stores without queries.
abbrev pub no_stores : StoresRecord
no_stores = record { seats = []; grounded = empty; links = empty; matcher = nothing }

-- What is read at a place where no query stands.
abbrev pub no_query : QueryRecord
no_query = record { posts = []; heads = []; body = [] }

-- The query at the place.
abbrev pub query_at : GroundedMap → ℕ → QueryRecord
query_at grounded place = option_map_or (λ f. f.query) (get grounded place) no_query

-- The queries of these names, each with its place.
abbrev pub residents_at : List SeatRecord → GroundedMap → List Resident
residents_at seats grounded = map (λ seat. (seat.place, (record { name = seat.name; query = query_at grounded seat.place }))) seats

-- The pending queries in posting order, each with its place.
abbrev pub residents_of : StoresRecord → List Resident
residents_of stores = residents_at stores.seats stores.grounded

-- The pending queries in posting order.
abbrev pub pending_of : StoresRecord → List PendingQuery
pending_of stores = queries_of (residents_of stores)

-- Whether the resident is able: whether its query is, over the rows.
abbrev pub able_over : List RowRecord → Resident → Bool
able_over rows resident = is_able rows resident.1

-- The number of a place in a list of places, from 0.
abbrev pub number_of : List ℕ → ℕ → ℕ
number_of places place = position_or_len (nat_eq place) places

-- The edges are those before, and all that touch the place, each once.
pub record AddsLinks (links : LinkMap) (place : ℕ) (before after : List Edge) : Type 0 where
  pub added : List Edge
  pub exact : (edge : Edge) → Contains added edge ↔ (IsLink links edge × Touches place edge)
  pub once : AllPairs (λ a b. a ≢ b) added
  pub counted : (test : Edge → Bool) → count_by test after ≡ count_by test before + count_by test added

-- The stores are of the same residents: each place of a name has its query with the groundings over the rows, and its atoms, and is a node of the graph, whose edges are those among the residents, and which keeps who is matched.
pub record AreStores (stores : StoresRecord) (rows : List RowRecord) : Type 0 where
  pub roster : IsRoster stores.seats
  pub stand : (place : ℕ) → get stores.grounded place ≡ option_map (λ q. found rows q.query) (lookup (nat_eq place) (residents_of stores))
  pub linked : (place : ℕ) → get stores.links place ≡ option_map (λ q. ends_of q.query) (lookup (nat_eq place) (residents_of stores))
  pub graph : IsGraphOf (able_over rows) (residents_of stores) stores.matcher.nodes stores.matcher.edges
  pub matched : (n : ℕ) → is_member nat_eq stores.matcher.matched n ≡ is_matched stores.matcher.nodes stores.matcher.edges n

-- The pool is good, and the stores are of it.
pub record IsKeptIn (pool : PoolRecord) (content : StoresRecord) : Type 0 where
  pub good : IsPool pool
  pub stores : AreStores content pool.tables.rows
