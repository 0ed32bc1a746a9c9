-- Pools: pending queries, and the tables that their bodies read.
-- (the pool of pending entangled queries: Gupta et al., SIGMOD 2011; limits and order: this project's profile)
use Rattle.std.specs.Prelude.{◌≡◌, ◌≤◌, ℕ, Bool, not, List, [], length, map, IsTrue, Some, is_some}
use Rattle.std.specs.List.{All, IsDistinct}
use Rattle.std.specs.Str.{bytes_eq}
use Rattle.cq_atom.specs.Atom.{AtomRecord}
use Rattle.cq_atom.specs.Query.{QueryRecord}
use Rattle.cq_rel.specs.Tables.{Declaration, arity_in, TablesRecord, IsTables}
use Rattle.cq_board.specs.declared.limits.Limits.{Limits}
use Rattle.cq_board.specs.declared.pending.Pending.{Pending}

-- A pending query, by the bytes of its name and by its parts.
abbrev pub PendingQuery : Type 0
PendingQuery = Pending (List ℕ) QueryRecord

-- The limits, the catalog with its rows, and the pending queries in posting order.
pub record PoolRecord : Type 0 where
  pub limits : Limits
  pub tables : TablesRecord
  pub pending : List PendingQuery

-- A pool without rows and queries.
abbrev pub opening_pool : List Declaration → Limits → PoolRecord
opening_pool catalog limits = record { limits = limits; tables = record { catalog = catalog; rows = [] }; pending = [] }

-- The name under which a query is pending.
abbrev pub name_of : PendingQuery → List ℕ
name_of query = query.name

-- The relation is one of the database.
abbrev pub is_declared : List Declaration → List ℕ → Bool
is_declared catalog relation = is_some (arity_in catalog relation)

-- The query waits for and offers rows of no declared relation, and reads declared ones, each with its arity.
pub record FitsCatalog (catalog : List Declaration) (query : QueryRecord) : Type 0 where
  pub posts : All (λ (a : AtomRecord). IsTrue (not (is_declared catalog a.relation))) query.posts
  pub heads : All (λ (a : AtomRecord). IsTrue (not (is_declared catalog a.relation))) query.heads
  pub body : All (λ (a : AtomRecord). arity_in catalog a.relation ≡ Some (length a.terms)) query.body

-- What all pools are: good tables, no more queries than the limit, each under a name of its own, and all of them fit the catalog.
pub record IsPool (pool : PoolRecord) : Type 0 where
  pub tables : IsTables pool.tables
  pub few : length pool.pending ≤ pool.limits.pool
  pub distinct : IsDistinct bytes_eq (map name_of pool.pending)
  pub fit : All (λ (p : PendingQuery). FitsCatalog pool.tables.catalog p.query) pool.pending
