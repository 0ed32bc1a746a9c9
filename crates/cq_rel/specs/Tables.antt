-- Tables: a catalog of declared relations, and a set of rows under it.
-- (the database that the body of an entangled query reads: Gupta et al., SIGMOD 2011; order and limits: this project's profile)
use Rattle.std.specs.Prelude.{◌≡◌, ◌≤◌, ℕ, Bool, ◌&&◌, not, nat_eq, nat_lt, List, [], ◌∷◌, ◌++◌, length, take, drop, map, filter, if◌then◌else◌, Option, Some, None, Result, Ok, Err}
use Rattle.std.specs.List.{All, Contains, IsDistinct, list_any, position_or_len}
use Rattle.std.specs.List.Sorted.{IsStrictlySortedBy}
use Rattle.std.specs.declared.cmp.Ordering.{Ordering}
use Rattle.std.specs.declared.cmp.Ordering.TheVariants.{Less, Greater}
use Rattle.std.specs.Ordering.{is_lt, is_eq, nat_cmp, int_cmp, ordering_then}
use Rattle.std.specs.Cmp.Lexicographic.{slice_cmp}
use Rattle.std.specs.Str.{bytes_eq}
use Rattle.cq_atom.specs.declared.value.Content.TheVariants.{Number, Text}
use Rattle.cq_atom.specs.Value.{ValueContent}
use Rattle.cq_atom.specs.Text.{is_relation_name}
use Rattle.cq_atom.specs.Atom.{RowRecord, is_arity, arity_fault}
use Rattle.cq_rel.specs.declared.fault.CatalogFault.{CatalogFault}
use Rattle.cq_rel.specs.declared.fault.CatalogFault.TheVariants.{BadName, BadArity, Declared, CatalogFull}
use Rattle.cq_rel.specs.declared.fault.RowFault.{RowFault}
use Rattle.cq_rel.specs.declared.fault.RowFault.TheVariants.{UnknownRelation, Arity, RowPresent, RowAbsent}
use Rattle.cq_rel.specs.Limits.{max_relations}

-- One declared relation: its name, and how many values its rows have.
pub record Declaration : Type 0 where
  pub relation : List ℕ
  pub arity : ℕ

-- The declaration of a name and an arity.
abbrev pub declaration : List ℕ → ℕ → Declaration
declaration relation arity = record { relation = relation; arity = arity }

-- The name that is declared.
abbrev pub relation_of : Declaration → List ℕ
relation_of d = d.relation

-- The declaration is of that relation.
abbrev pub declares : List ℕ → Declaration → Bool
declares relation d = bytes_eq relation d.relation

-- The arity that a catalog declares for a relation, where it declares one.
abbrev pub arity_in : List Declaration → List ℕ → Option ℕ
arity_in [] relation = None
arity_in (d ∷ ds) relation = if declares relation d then Some d.arity else arity_in ds relation

-- A catalog: at most 64 relations, each declared once, with a relation's name and an arity from 1 to 16.
pub record IsCatalog (catalog : List Declaration) : Type 0 where
  pub good : All (λ (d : Declaration). arity_fault d.relation d.arity ≡ None) catalog
  pub distinct : IsDistinct bytes_eq (map relation_of catalog)
  pub few : length catalog ≤ max_relations

-- Why a relation cannot be declared: the first of these that applies.
abbrev pub declare_fault : List Declaration → List ℕ → ℕ → Option CatalogFault
declare_fault catalog relation arity =
    if not (is_relation_name relation) then Some BadName
    else (if not (is_arity arity) then Some BadArity
    else elim (arity_in catalog relation) [
      | Some n ↦ Some Declared
      | None ↦ (if nat_lt (length catalog) max_relations then None else Some CatalogFull)
    ])

-- The order of values, of which `is_before` is the strict part: numbers come before texts, numbers go by size, texts by bytes.
abbrev pub value_order : ValueContent → ValueContent → Ordering
value_order (Number m) (Number n) = int_cmp m n
value_order (Number m) (Text t) = Less
value_order (Text s) (Number n) = Greater
value_order (Text s) (Text t) = slice_cmp nat_cmp s t

-- Lists of values go place by place.
abbrev pub values_order : List ValueContent → List ValueContent → Ordering
values_order = slice_cmp value_order

-- One list comes before the other.
abbrev pub values_before : List ValueContent → List ValueContent → Bool
values_before v w = is_lt (values_order v w)

-- Where in the catalog a relation is declared.
abbrev pub place_in : List Declaration → List ℕ → ℕ
place_in catalog relation = position_or_len (declares relation) catalog

-- Rows go by the declaration of their relation, and then by their values.
abbrev pub row_order : List Declaration → RowRecord → RowRecord → Ordering
row_order catalog r s = ordering_then (nat_cmp (place_in catalog r.relation) (place_in catalog s.relation)) (values_order r.values s.values)

-- One row comes before the other.
abbrev pub row_before : List Declaration → RowRecord → RowRecord → Bool
row_before catalog r s = is_lt (row_order catalog r s)

-- A catalog, and rows under it: each row once, in order of declaration of its relation and then of its values.
pub record TablesRecord : Type 0 where
  pub catalog : List Declaration
  pub rows : List RowRecord

-- The row is of a declared relation, and of its arity.
abbrev pub IsUnder : List Declaration → RowRecord → Type 0
IsUnder catalog row = arity_in catalog row.relation ≡ Some (length row.values)

-- What all tables are: a good catalog, each row under it, and the rows in their order, so each once.
pub record IsTables (tables : TablesRecord) : Type 0 where
  pub catalog : IsCatalog tables.catalog
  pub under : All (IsUnder tables.catalog) tables.rows
  pub ascending : IsStrictlySortedBy (row_order tables.catalog) tables.rows

-- The row is in the tables.
abbrev pub IsRow : TablesRecord → RowRecord → Type 0
IsRow tables row = Contains tables.rows row

-- One row: one relation, and values that are the same place by place.
abbrev pub same_row : RowRecord → RowRecord → Bool
same_row r s = bytes_eq r.relation s.relation && is_eq (values_order r.values s.values)

-- Whether the row is in the tables.
abbrev pub has_row : TablesRecord → RowRecord → Bool
has_row tables row = list_any (same_row row) tables.rows

-- The rows of one relation, in order.
abbrev pub rows_in : List ℕ → TablesRecord → List RowRecord
rows_in relation tables = filter (λ r. bytes_eq relation r.relation) tables.rows

-- The values from the column on, counted from 0, and after them those before it.
abbrev pub turned : ℕ → List ValueContent → List ValueContent
turned column values = drop column values ++ take column values

-- How the first of the values, as many as are given, stand to the given ones.
abbrev pub first_order : List ValueContent → List ValueContent → Ordering
first_order firsts values = values_order (take (length firsts) values) firsts

-- From the column on, going round after the last, the row's values begin with these.
abbrev pub has_turned : ℕ → List ValueContent → RowRecord → Bool
has_turned column firsts r = is_eq (first_order firsts (turned column r.values))

-- Why the catalog has no place for the row: its relation is looked at before its arity.
abbrev pub row_fault : List Declaration → RowRecord → Option RowFault
row_fault catalog row =
    elim (arity_in catalog row.relation) [
      | None ↦ Some UnknownRelation
      | Some n ↦ (if nat_eq n (length row.values) then None else Some Arity)
    ]

-- Why the row cannot be inserted: the first of these that applies.
abbrev pub insert_fault : TablesRecord → RowRecord → Option RowFault
insert_fault tables row =
    elim (row_fault tables.catalog row) [
      | Some fault ↦ Some fault
      | None ↦ (if has_row tables row then Some RowPresent else None)
    ]

-- Why the row cannot be deleted: the first of these that applies.
abbrev pub delete_fault : TablesRecord → RowRecord → Option RowFault
delete_fault tables row =
    elim (row_fault tables.catalog row) [
      | Some fault ↦ Some fault
      | None ↦ (if has_row tables row then None else Some RowAbsent)
    ]

-- The tables with the row: the rows before it, the row, and the rows after it.
abbrev pub with_row : RowRecord → TablesRecord → TablesRecord
with_row row tables = record tables {
  rows = filter (λ r. row_before tables.catalog r row) tables.rows ++ row ∷ filter (λ r. row_before tables.catalog row r) tables.rows;
}

-- The tables without the row.
abbrev pub without_row : RowRecord → TablesRecord → TablesRecord
without_row row tables = record tables { rows = filter (λ r. not (same_row row r)) tables.rows }

-- What a call answers that takes no memory.
abbrev pub answer_of : Option RowFault → Result (Unit {0}) RowFault
answer_of None = Ok tt
answer_of (Some fault) = Err fault
