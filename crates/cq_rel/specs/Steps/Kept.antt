-- How tables are kept: a list of rows for each declared relation, in order of declaration.
use Rattle.std.specs.Prelude.{◌≡◌, List, [], ◌∷◌, ℕ, length, if◌then◌else◌}
use Rattle.std.specs.List.{AllByRecursion, flat_map}
use Rattle.std.specs.List.Sorted.{IsStrictlySortedBy}
use Rattle.cq_atom.specs.Atom.{RowRecord}
use Rattle.cq_rel.specs.Tables.{Declaration, IsCatalog, declares}
use Rattle.cq_rel.specs.Steps.Table.{by_values}

-- All rows.
abbrev pub joined : List (List RowRecord) → List RowRecord
joined tables = flat_map (λ (rows : List RowRecord). rows) tables

-- The row is of the declared relation, and of its arity.
abbrev pub IsOf : Declaration → RowRecord → Type 0
IsOf d row = (row.relation ≡ d.relation) × (length row.values ≡ d.arity)

-- Each list has rows of its relation alone, in order of their values.
abbrev pub AreKept : List Declaration → List (List RowRecord) → Type 0
AreKept [] [] = Unit {0}
AreKept [] (rows ∷ tables) = ⊥
AreKept (d ∷ ds) [] = ⊥
AreKept (d ∷ ds) (rows ∷ tables) = AllByRecursion (IsOf d) rows × IsStrictlySortedBy by_values rows × AreKept ds tables

-- What the lists of all tables are.
pub record IsKept (ds : List Declaration) (lists : List (List RowRecord)) : Type 0 where
  pub catalog : IsCatalog ds
  pub tables : AreKept ds lists

-- The rows that are kept for a relation.
abbrev pub kept_for : List Declaration → List (List RowRecord) → List ℕ → List RowRecord
kept_for [] tables relation = []
kept_for (d ∷ ds) [] relation = []
kept_for (d ∷ ds) (rows ∷ tables) relation = if declares relation d then rows else kept_for ds tables relation

-- The same lists, but for that of a relation.
abbrev pub keeping : List Declaration → List (List RowRecord) → List ℕ → List RowRecord → List (List RowRecord)
keeping [] tables relation changed = tables
keeping (d ∷ ds) [] relation changed = []
keeping (d ∷ ds) (rows ∷ tables) relation changed = if declares relation d then changed ∷ tables else rows ∷ keeping ds tables relation changed
