-- What is copied item by item, each to an equal one, is what it was.
use Rattle.std.proofs.Common.{◌≡◌, List, sym, subst}
use Rattle.std.specs.List.{AllZip}
use Rattle.std.specs.List.Sorted.{IsStrictlySortedBy}
use Rattle.std.proofs.lemmas.List.Elements.{same_from_all_zip}
use Rattle.cq_atom.specs.Atom.{RowRecord}
use Rattle.cq_rel.specs.Tables.{Declaration, IsCatalog}
use Rattle.cq_rel.specs.Steps.Table.{by_values}
use Rattle.cq_rel.specs.Steps.Column.{ColumnRecord, HasColumns}
use Rattle.cq_rel.specs.Steps.Kept.{IsKept}

pub copied : {X : Type 0} (xs ys : List X) → AllZip (λ (x y : X). y ≡ x) xs ys → ys ≡ xs
copied {X} xs ys each = same_from_all_zip (λ (x y : X). y ≡ x) xs ys each (λ x y same. same)

pub catalog-copied : (entries copy : List Declaration) → copy ≡ entries → IsCatalog entries → IsCatalog copy
catalog-copied entries copy same = subst IsCatalog (sym same)

pub table-copied : (rows rows' : List RowRecord) (columns columns' : List ColumnRecord) → rows' ≡ rows → columns' ≡ columns → IsStrictlySortedBy by_values rows × HasColumns rows columns
    → IsStrictlySortedBy by_values rows' × HasColumns rows' columns'
table-copied rows rows' columns columns' same same' was = (
  subst (IsStrictlySortedBy by_values) (sym same) was.0,
  subst (λ (rs : List RowRecord). HasColumns rs columns') (sym same) (subst (HasColumns rows) (sym same') was.1),
)

pub kept-copied : (catalog catalog' : List Declaration) (tables tables' : List (List RowRecord)) → catalog' ≡ catalog → tables' ≡ tables → IsKept catalog tables → IsKept catalog' tables'
kept-copied catalog catalog' tables tables' same same' was =
    subst (λ (ds : List Declaration). IsKept ds tables') (sym same) (subst (IsKept catalog) (sym same') was)
