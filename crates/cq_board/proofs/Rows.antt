-- A good pool after an edit is good: what an accepted edit of its rows leaves are good tables.
use Rattle.std.proofs.Common.{◌≡◌, Bool, true, not, List, [], ◌∷◌, ◌++◌, length, refl, if◌then◌else◌, Option, Some, None, Ordering}
use Rattle.std.specs.Prelude.{filter}
use Rattle.std.specs.declared.cmp.Ordering.TheVariants.{Less, Equal, Greater}
use Rattle.std.specs.Cmp.{IsTotalOrder}
use Rattle.std.specs.Ordering.{is_lt}
use Rattle.std.specs.List.{AllByRecursion}
use Rattle.std.specs.List.Sorted.{IsStrictlySortedBy}
use Rattle.std.proofs.lemmas.Cmp.{nat_cmp_total, on_total, then_total}
use Rattle.std.proofs.lemmas.List.Elements.{All-append, All-cons, All-filter}
use Rattle.std.proofs.lemmas.List.Kept.{IsStrictlySortedBy-filter}
use Rattle.cq_atom.specs.Atom.{RowRecord}
use Rattle.cq_rel.specs.Tables.{Declaration, arity_in, place_in, TablesRecord, IsUnder, IsTables, row_order, same_row, has_row, with_row, without_row}
use Rattle.cq_rel.proofs.CallerLemmas.{values_total}
use Rattle.cq_atom.specs.declared.edit.EditKind.TheVariants.{Post, Withdraw, Insert, Delete}
use Rattle.cq_board.specs.declared.edit.Why.{Why}
use Rattle.cq_board.specs.declared.edit.Why.TheVariants.{RowPresent}
use Rattle.cq_board.specs.Pool.{PoolRecord, IsPool}
use Rattle.cq_atom.specs.Edit.{Edit}
use Rattle.cq_board.specs.Edits.{is_named, arity_why, why, edited, unless_refused, pool_after}
use Rattle.cq_board.proofs.Members.{by_bool}
use Rattle.cq_board.proofs.GoodPools.{tables_good, filtered_good, posted_good, first_none, arity_fits}

-- ---- a list with one element more, in its order

module _ {X : Type 0} (order : X → X → Ordering) (total : IsTotalOrder order) where
  abbrev Above : X → List X → Type 0
  Above x ys = AllByRecursion (λ (y : X). order x y ≡ Less) ys

  is_less : (o : Ordering) → is_lt o ≡ true → o ≡ Less
  is_less Less e = refl
  is_less Equal e = cc
  is_less Greater e = cc

  -- what a filter keeps is above x, where all that passes it is
  above_filter : (x : X) (p : X → Bool) (ys : List X) → ((y : X) → p y ≡ true → order x y ≡ Less) → Above x (filter p ys)
  above_filter x p [] h = tt
  above_filter x p (y ∷ ys) h = by_bool (p y) (Above x (filter p (y ∷ ys))) (λ t. rw t (h y t, above_filter x p ys h)) (λ f. rw f (above_filter x p ys h))

  above_append : (x : X) (ys zs : List X) → Above x ys → Above x zs → Above x (ys ++ zs)
  above_append x [] zs h k = k
  above_append x (y ∷ ys) zs h k = (h.0, above_append x ys zs h.1 k)

  sorted_append : (xs ys : List X) → IsStrictlySortedBy order xs → IsStrictlySortedBy order ys → AllByRecursion (λ (x : X). Above x ys) xs → IsStrictlySortedBy order (xs ++ ys)
  unfolding IsStrictlySortedBy
  sorted_append [] ys h k between = k
  sorted_append (x ∷ xs) ys h k between = (above_append x xs ys h.0 between.0, sorted_append xs ys h.1 k between.1)

  sorted_cons : (x : X) (xs : List X) → Above x xs → IsStrictlySortedBy order xs → IsStrictlySortedBy order (x ∷ xs)
  unfolding IsStrictlySortedBy
  sorted_cons x xs h k = (h, k)

  below_filter : (p : X → Bool) (xs ys : List X) → ((x : X) → p x ≡ true → Above x ys) → AllByRecursion (λ (x : X). Above x ys) (filter p xs)
  below_filter p [] ys h = tt
  below_filter p (x ∷ xs) ys h = by_bool (p x) (AllByRecursion (λ (z : X). Above z ys) (filter p (x ∷ xs))) (λ t. rw t (h x t, below_filter p xs ys h)) (λ f. rw f (below_filter p xs ys h))

  pub sorted_with : (new : X) (xs : List X) → IsStrictlySortedBy order xs → IsStrictlySortedBy order (filter (λ (x : X). is_lt (order x new)) xs ++ new ∷ filter (λ (x : X). is_lt (order new x)) xs)
  sorted_with new xs sorted =
      let before : X → Bool = λ x. is_lt (order x new) in
      let behind : X → Bool = λ x. is_lt (order new x) in
      let rest : IsStrictlySortedBy order (new ∷ filter behind xs) =
      sorted_cons new (filter behind xs) (above_filter new behind xs (λ y t. is_less (order new y) t)) (IsStrictlySortedBy-filter order behind xs sorted) in
      sorted_append (filter before xs) (new ∷ filter behind xs) (IsStrictlySortedBy-filter order before xs sorted) rest
      (below_filter before xs (new ∷ filter behind xs)
      (λ x t. (is_less (order x new) t, above_filter x behind xs (λ y u. total.trans x new y (is_less (order x new) t) (is_less (order new y) u)))))

-- ---- tables with another row, or without one

pub row_total : (catalog : List Declaration) → IsTotalOrder (row_order catalog)
row_total catalog = then_total (on_total (λ (r : RowRecord). place_in catalog r.relation) nat_cmp_total) (on_total (λ (r : RowRecord). r.values) values_total)

tables_with : (tables : TablesRecord) (row : RowRecord) → IsTables tables → IsUnder tables.catalog row → IsTables (with_row row tables)
tables_with tables row is fits =
    let catalog = tables.catalog in
    let before : RowRecord → Bool = λ r. is_lt (row_order catalog r row) in
    let behind : RowRecord → Bool = λ r. is_lt (row_order catalog row r) in
    record {
      catalog = is.catalog;
      under =
          All-append (IsUnder catalog) (filter before tables.rows) (row ∷ filter behind tables.rows) (All-filter before (IsUnder catalog) tables.rows is.under)
          (All-cons (IsUnder catalog) row (filter behind tables.rows) fits (All-filter behind (IsUnder catalog) tables.rows is.under));
      ascending = sorted_with (row_order catalog) (row_total catalog) row tables.rows is.ascending;
    }

tables_without : (tables : TablesRecord) (row : RowRecord) → IsTables tables → IsTables (without_row row tables)
tables_without tables row is =
    let others : RowRecord → Bool = λ r. not (same_row row r) in
    record {
      catalog = is.catalog;
      under = All-filter others (IsUnder tables.catalog) tables.rows is.under;
      ascending = IsStrictlySortedBy-filter (row_order tables.catalog) others tables.rows is.ascending;
    }

-- ---- pools

inserted_good : (pool : PoolRecord) (row : RowRecord) → IsPool pool → why pool (Insert row) ≡ None → IsPool (edited pool (Insert row))
inserted_good pool row good e =
    let both = first_none (arity_why (arity_in pool.tables.catalog row.relation) (length row.values) 0) (if has_row pool.tables row then Some RowPresent else None) e in
    tables_good pool (with_row row pool.tables) good
    (tables_with pool.tables row good.tables (arity_fits pool.tables.catalog (arity_in pool.tables.catalog row.relation) (length row.values) 0 both.0)) refl

deleted_good : (pool : PoolRecord) (row : RowRecord) → IsPool pool → IsPool (edited pool (Delete row))
deleted_good pool row good = tables_good pool (without_row row pool.tables) good (tables_without pool.tables row good.tables) refl

edited_good : (pool : PoolRecord) (edit : Edit) → IsPool pool → why pool edit ≡ None → IsPool (edited pool edit)
edited_good pool (Post name query) good e = posted_good pool name query good e
edited_good pool (Withdraw name) good e = filtered_good (λ other. not (is_named name other)) pool good
edited_good pool (Insert row) good e = inserted_good pool row good e
edited_good pool (Delete row) good e = deleted_good pool row good

unless_good : (o : Option Why) (before after : PoolRecord) → IsPool before → (o ≡ None → IsPool after) → IsPool (unless_refused o before after)
unless_good None before after good h = h refl
unless_good (Some reason) before after good h = good

-- Whether or not the edit is refused.
pub stays_good : (pool : PoolRecord) (edit : Edit) → IsPool pool → IsPool (pool_after pool edit)
stays_good pool edit good = unless_good (why pool edit) pool (edited pool edit) good (edited_good pool edit good)
