-- An insertion that is taken back: the tables are as they were.
use Rattle.std.proofs.Common.{◌≡◌, Bool, true, false, not, List, [], ◌∷◌, ◌++◌, refl, sym, ap, ◌∙◌}
use Rattle.std.specs.declared.cmp.Ordering.TheVariants.{Less}
use Rattle.std.specs.Ordering.{is_lt, ordering_reverse}
use Rattle.std.specs.List.{filter, list_any, AllByRecursion}
use Rattle.std.specs.List.Sorted.{IsStrictlySortedBy}
use Rattle.std.proofs.lemmas.List.Elements.{filter-append, recursion_from_All}
use Rattle.cq_atom.specs.Atom.{RowRecord}
use Rattle.cq_rel.specs.Tables.{Declaration, TablesRecord, IsTables, IsUnder, row_order, same_row, has_row, with_row, without_row}
use Rattle.cq_rel.proofs.Places.{by_bool}
use Rattle.cq_rel.proofs.Filters.{all-kept, none-kept}
use Rattle.cq_rel.proofs.Kept.{all-weaker}
use Rattle.cq_rel.proofs.Members.{row_total, tied-rows, by_order, row-itself}

-- a filter that passes all of a list passes all of what another one keeps of it
passes-kept : (s p : RowRecord → Bool) (rows : List RowRecord) → AllByRecursion (λ r. s r ≡ true) rows → filter s (filter p rows) ≡ filter p rows
passes-kept s p [] h = refl
passes-kept s p (r ∷ rows) h =
    by_bool (p r) (filter s (filter p (r ∷ rows)) ≡ filter p (r ∷ rows))
    (λ t. rw (t, h.0) (ap (λ (rest : List RowRecord). r ∷ rest) (passes-kept s p rows h.1)))
    (λ f. rw f (passes-kept s p rows h.1))

none-same : (row : RowRecord) (rows : List RowRecord) → list_any (same_row row) rows ≡ false → AllByRecursion (λ r. not (same_row row r) ≡ true) rows
none-same row [] e = tt
none-same row (r ∷ rows) e =
    by_bool (same_row row r) (AllByRecursion (λ (q : RowRecord). not (same_row row q) ≡ true) (r ∷ rows))
    (λ t. let never : true ≡ false = rw t at e in absurd cc)
    (λ f. (ap not f, none-same row rows (rw f at e)))

-- the rows before a row that is not there, and those after it
around : (catalog : List Declaration) (row : RowRecord) → IsUnder catalog row → (rows : List RowRecord) → AllByRecursion (IsUnder catalog) rows → IsStrictlySortedBy (row_order catalog) rows → AllByRecursion (λ r. not (same_row row r) ≡ true) rows →
    filter (λ (r : RowRecord). is_lt (row_order catalog r row)) rows ++ filter (λ (r : RowRecord). is_lt (row_order catalog row r)) rows ≡ rows
unfolding IsStrictlySortedBy
around catalog row u [] all up none = refl
around catalog row u (r ∷ rows) all up none =
    let p : RowRecord → Bool = λ s. is_lt (row_order catalog s row) in
    let q : RowRecord → Bool = λ s. is_lt (row_order catalog row s) in
    let turned : row_order catalog row r ≡ ordering_reverse (row_order catalog r row) = (row_total catalog).antisymm row r in
    by_order (row_order catalog r row) (filter p (r ∷ rows) ++ filter q (r ∷ rows) ≡ r ∷ rows)
    (λ e.
    let kept : p r ≡ true = ap is_lt e in
    let left : q r ≡ false = ap is_lt (turned ∙ ap ordering_reverse e) in
    rw (kept, left) (ap (λ (rest : List RowRecord). r ∷ rest) (around catalog row u rows all.1 up.1 none.1)))
    (λ e.
    let one : r ≡ row = tied-rows catalog r row all.0 u e in
    let never : false ≡ true = sym (ap not (ap (same_row row) one ∙ row-itself row)) ∙ none.0 in
    absurd cc)
    (λ e.
    let less : row_order catalog row r ≡ Less = turned ∙ ap ordering_reverse e in
    let left : p r ≡ false = ap is_lt e in
    let kept : q r ≡ true = ap is_lt less in
    let above : AllByRecursion (λ (s : RowRecord). row_order catalog row s ≡ Less) rows = all-weaker (λ (s : RowRecord). row_order catalog r s ≡ Less) (λ s. row_order catalog row s ≡ Less) (λ s l. (row_total catalog).trans row r s less l) rows up.0 in
    let none-before : filter p rows ≡ [] = none-kept p rows (all-weaker (λ (s : RowRecord). row_order catalog row s ≡ Less) (λ s. p s ≡ false) (λ s l. ap is_lt ((row_total catalog).antisymm s row ∙ ap ordering_reverse l)) rows above) in
    let all-after : filter q rows ≡ rows = all-kept q rows (all-weaker (λ (s : RowRecord). row_order catalog row s ≡ Less) (λ s. q s ≡ true) (λ s l. ap is_lt l) rows above) in
    rw (left, kept, none-before, all-after) refl)

-- the tables with a row that they did not have, without it
pub with-and-without : (tables : TablesRecord) (row : RowRecord) → IsTables tables → IsUnder tables.catalog row → has_row tables row ≡ false → without_row row (with_row row tables) ≡ tables
with-and-without tables row good under absent =
    let p : RowRecord → Bool = λ r. is_lt (row_order tables.catalog r row) in
    let q : RowRecord → Bool = λ r. is_lt (row_order tables.catalog row r) in
    let s : RowRecord → Bool = λ r. not (same_row row r) in
    let none = none-same row tables.rows absent in
    let gone : s row ≡ false = ap not (row-itself row) in
    let rows : filter s (filter p tables.rows ++ row ∷ filter q tables.rows) ≡ tables.rows =
    filter-append s (filter p tables.rows) (row ∷ filter q tables.rows) ∙
    rw (passes-kept s p tables.rows none, gone, passes-kept s q tables.rows none) (around tables.catalog row under tables.rows (recursion_from_All (IsUnder tables.catalog) tables.rows good.under) good.ascending none) in
    λ i. record { catalog = tables.catalog; rows = rows i }
