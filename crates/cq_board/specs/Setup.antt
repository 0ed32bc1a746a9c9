-- A pool under another setup: with one relation more, or with other limits. (this project's profile)
use Rattle.std.specs.Prelude.{ℕ, Bool, ◌||◌, nat_le, List, [], ◌∷◌, ◌++◌, length, if◌then◌else◌, Option, Some, None, Result, Ok, Err}
use Rattle.std.specs.List.{list_any}
use Rattle.std.specs.Str.{bytes_eq}
use Rattle.cq_atom.specs.Atom.{AtomRecord}
use Rattle.cq_atom.specs.Query.{QueryRecord}
use Rattle.cq_rel.specs.declared.fault.CatalogFault.{CatalogFault}
use Rattle.cq_rel.specs.Tables.{Declaration, TablesRecord, declaration, declare_fault}
use Rattle.cq_board.specs.declared.limits.Limits.{Limits}
use Rattle.cq_board.specs.declared.setup.RelationFault.{RelationFault}
use Rattle.cq_board.specs.declared.setup.RelationFault.TheVariants.{Refused, InUse}
use Rattle.cq_board.specs.declared.setup.LimitsFault.{LimitsFault}
use Rattle.cq_board.specs.declared.setup.LimitsFault.TheVariants.{TooManyPending}
use Rattle.cq_board.specs.Pool.{PendingQuery, PoolRecord}

-- ---- one relation more

-- The tables with one relation more, declared after the others.
abbrev pub declared_in : Declaration → TablesRecord → TablesRecord
declared_in relation tables = record tables { catalog = tables.catalog ++ relation ∷ [] }

-- The pool with one relation more: its limits, rows and queries stay.
abbrev pub with_relation : PoolRecord → List ℕ → ℕ → PoolRecord
with_relation pool relation arity = record pool { tables = declared_in (declaration relation arity) pool.tables }

-- The atom is over the relation.
abbrev pub is_over : List ℕ → AtomRecord → Bool
is_over relation atom = bytes_eq atom.relation relation

-- Some postcondition or head of the query is over the relation.
abbrev pub uses : List ℕ → QueryRecord → Bool
uses relation query = list_any (is_over relation) query.posts || list_any (is_over relation) query.heads

-- Some pending query waits for the relation or offers it.
abbrev pub is_used : List ℕ → List PendingQuery → Bool
is_used relation pending = list_any (λ p. uses relation p.query) pending

-- The catalog's reason, or else what the use of the relation says.
abbrev pub or_in_use : Option CatalogFault → Bool → Option RelationFault
or_in_use (Some fault) used = Some (Refused fault)
or_in_use None used = if used then Some InUse else None

-- Why the relation cannot be declared: the catalog's reason comes first.
abbrev pub relation_fault : PoolRecord → List ℕ → ℕ → Option RelationFault
relation_fault pool relation arity = or_in_use (declare_fault pool.tables.catalog relation arity) (is_used relation pool.pending)

-- ---- other limits

-- The pool under other limits: its tables and queries stay.
abbrev pub with_limits : PoolRecord → Limits → PoolRecord
with_limits pool limits = record pool { limits = limits }

-- Why the pool cannot have the limits: more queries are pending than they allow.
abbrev pub limits_fault : PoolRecord → Limits → Option LimitsFault
limits_fault pool limits = if nat_le (length pool.pending) limits.pool then None else Some TooManyPending

-- What a call returns that does not allocate: the refusal if there is one.
abbrev pub refused_by : Option LimitsFault → Result (Unit {0}) LimitsFault
refused_by None = Ok tt
refused_by (Some fault) = Err fault
