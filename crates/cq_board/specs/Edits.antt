-- Why an edit of a pool is refused, and the pool after it. (this project's profile)
use Rattle.std.specs.Prelude.{ℕ, ◌+◌, Bool, not, List, [], ◌∷◌, ◌++◌, length, filter, nat_le, nat_eq, if◌then◌else◌, Option, Some, None}
use Rattle.std.specs.List.{list_any}
use Rattle.std.specs.Str.{bytes_eq}
use Rattle.cq_atom.specs.declared.fault.Part.{Part}
use Rattle.cq_atom.specs.declared.fault.Part.TheVariants.{Posts, Heads}
use Rattle.cq_atom.specs.Atom.{AtomRecord, RowRecord}
use Rattle.cq_atom.specs.Query.{QueryRecord}
use Rattle.cq_atom.specs.declared.edit.EditKind.TheVariants.{Post, Withdraw, Insert, Delete}
use Rattle.cq_atom.specs.Edit.{Edit}
use Rattle.cq_rel.specs.Tables.{Declaration, arity_in, TablesRecord, has_row, with_row, without_row}
use Rattle.cq_board.specs.declared.edit.Why.{Why}
use Rattle.cq_board.specs.declared.edit.Why.TheVariants.{PoolFull, NameTaken, NotAnswer, UnknownRelation, Arity, NoSuchName, RowPresent, RowAbsent}
use Rattle.cq_board.specs.Pool.{PendingQuery, PoolRecord, is_declared}

-- The query is pending under that name.
abbrev pub is_named : List ℕ → PendingQuery → Bool
is_named name query = bytes_eq name query.name

-- A query of that name is pending.
abbrev pub is_taken : List ℕ → List PendingQuery → Bool
is_taken name pending = list_any (is_named name) pending

-- The first of two reasons.
abbrev pub first_of : Option Why → Option Why → Option Why
first_of (Some reason) other = Some reason
first_of None other = other

-- The first of these atoms that is over a database relation, whatever its arity.
abbrev pub answer_why : List Declaration → Part → ℕ → List AtomRecord → Option Why
answer_why catalog part place [] = None
answer_why catalog part place (a ∷ atoms) = if is_declared catalog a.relation then Some (NotAnswer part place) else answer_why catalog part (place + 1) atoms

-- Why the catalog has no place for one atom: its relation is looked at before its arity.
abbrev pub arity_why : Option ℕ → ℕ → ℕ → Option Why
arity_why None arity place = Some (UnknownRelation place)
arity_why (Some declared) arity place = if nat_eq declared arity then None else Some (Arity place)

-- The first of these atoms for which the catalog has no place.
abbrev pub body_why : List Declaration → ℕ → List AtomRecord → Option Why
body_why catalog place [] = None
body_why catalog place (a ∷ atoms) = first_of (arity_why (arity_in catalog a.relation) (length a.terms) place) (body_why catalog (place + 1) atoms)

-- Why the query does not fit the catalog: all postconditions, then all heads, then the body.
abbrev pub query_why : List Declaration → QueryRecord → Option Why
query_why catalog query = first_of (answer_why catalog Posts 0 query.posts) (first_of (answer_why catalog Heads 0 query.heads) (body_why catalog 0 query.body))

-- Why an edit of rows is refused: a row's relation, then its arity, then whether it is there.
abbrev pub row_why : TablesRecord → RowRecord → Option Why → Option Why
row_why tables row present = first_of (arity_why (arity_in tables.catalog row.relation) (length row.values) 0) present

-- Why the pool refuses the edit: the first test that holds.
abbrev pub why : PoolRecord → Edit → Option Why
why pool (Post name query) = if nat_le pool.limits.pool (length pool.pending) then Some PoolFull else (if is_taken name pool.pending then Some NameTaken else query_why pool.tables.catalog query)
why pool (Withdraw name) = if is_taken name pool.pending then None else Some NoSuchName
why pool (Insert row) = row_why pool.tables row (if has_row pool.tables row then Some RowPresent else None)
why pool (Delete row) = row_why pool.tables row (if has_row pool.tables row then None else Some RowAbsent)

-- What an accepted edit makes of the pool: a posted query comes last, a withdrawn one goes, a row comes in or goes.
abbrev pub edited : PoolRecord → Edit → PoolRecord
edited pool (Post name query) = record pool { pending = pool.pending ++ (record { name = name; query = query } ∷ []) }
edited pool (Withdraw name) = record pool { pending = filter (λ other. not (is_named name other)) pool.pending }
edited pool (Insert row) = record pool { tables = with_row row pool.tables }
edited pool (Delete row) = record pool { tables = without_row row pool.tables }

-- A refused edit leaves the pool as it was.
abbrev pub unless_refused : Option Why → PoolRecord → PoolRecord → PoolRecord
unless_refused None before after = after
unless_refused (Some reason) before after = before

-- The pool after the edit.
abbrev pub pool_after : PoolRecord → Edit → PoolRecord
pool_after pool edit = unless_refused (why pool edit) pool (edited pool edit)
