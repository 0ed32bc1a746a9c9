-- Tables with one relation more: their rows stay under the catalog and in their order, and can be inserted again in it.
use Rattle.std.proofs.Common.{◌≡◌, ℕ, ◌+◌, ◌<◌, Bool, true, false, not, List, [], ◌∷◌, ◌++◌, length, map, refl, sym, ap, subst, ◌∙◌, arith, append_assoc, Ordering, Some, None, bytes_eq}
use Rattle.std.specs.Prelude.{filter}
use Rattle.std.specs.declared.cmp.Ordering.TheVariants.{Less, Equal, Greater}
use Rattle.std.specs.Cmp.{nat_cmp_is}
use Rattle.std.specs.Ordering.{MatchOrdering, nat_cmp, ordering_then}
use Rattle.std.specs.List.{AllByRecursion, IsDistinct}
use Rattle.std.specs.List.Sorted.{IsStrictlySortedBy}
use Rattle.std.proofs.lemmas.List.{append-nil}
use Rattle.std.proofs.lemmas.List.Elements.{recursion_from_All}
use Rattle.std.proofs.lemmas.List.Kept.{IsStrictlySortedBy-filter}
use Rattle.std.proofs.lemmas.Cmp.{nat_list_eq_equiv, ranked}
use Rattle.std.proofs.lemmas.Slice.Eq.{bytes_eq-Decides}
use Rattle.cq_atom.specs.Atom.{RowRecord}
use Rattle.cq_rel.specs.Tables.{Declaration, declares, relation_of, arity_in, place_in, values_order, row_order, TablesRecord, IsTables, IsUnder, has_row, row_fault, insert_fault}
use Rattle.cq_board.specs.Setup.{declared_in}
use Rattle.cq_board.specs.Steps.Setup.{row_put, rows_of_all}
use Rattle.cq_board.proofs.Members.{by_bool}
use Rattle.cq_board.proofs.RowChanges.{fits_row}
use Rattle.cq_board.proofs.Led.{Leads, leads_none, leads_step}
use Rattle.cq_board.proofs.Contents.{each, all_kept, none_kept, tables_of, row_last, row_new}

-- ---- another order that agrees on the elements

module _ {X : Type 0} (order next : X → X → Ordering) (P : X → Type 0) (same : (x y : X) → P x → P y → next x y ≡ order x y) where
  above_still : (x : X) (ys : List X) → P x → AllByRecursion P ys → AllByRecursion (λ (y : X). order x y ≡ Less) ys → AllByRecursion (λ (y : X). next x y ≡ Less) ys
  above_still x [] p ps h = tt
  above_still x (y ∷ ys) p ps h = (same x y p ps.0 ∙ h.0, above_still x ys p ps.1 h.1)

  sorted_still : (xs : List X) → AllByRecursion P xs → IsStrictlySortedBy order xs → IsStrictlySortedBy next xs
  unfolding IsStrictlySortedBy
  sorted_still [] ps h = tt
  sorted_still (x ∷ xs) ps h = (above_still x xs ps.0 ps.1 h.0, sorted_still xs ps.1 h.1)

-- ---- a relation more

module _ (d : Declaration) where
  -- a relation that is declared keeps its arity and its place, and another that is not stays undeclared
  pub arity_still : (catalog : List Declaration) (relation : List ℕ) (n : ℕ) → arity_in catalog relation ≡ Some n → arity_in (catalog ++ d ∷ []) relation ≡ Some n
  arity_still [] relation n e = cc
  arity_still (c ∷ cs) relation n e =
      by_bool (declares relation c) (arity_in ((c ∷ cs) ++ d ∷ []) relation ≡ Some n) (λ t. rw t (rw t at e)) (λ f. rw f (arity_still cs relation n (rw f at e)))

  pub absent_still : (catalog : List Declaration) (relation : List ℕ) → arity_in catalog relation ≡ None → declares relation d ≡ false → arity_in (catalog ++ d ∷ []) relation ≡ None
  absent_still [] relation e other = rw other refl
  absent_still (c ∷ cs) relation e other =
      by_bool (declares relation c) (arity_in ((c ∷ cs) ++ d ∷ []) relation ≡ None)
      (λ t. let never : Some c.arity ≡ None = rw t at e in cc)
      (λ f. rw f (absent_still cs relation (rw f at e) other))

  place_still : (catalog : List Declaration) (relation : List ℕ) (n : ℕ) → arity_in catalog relation ≡ Some n → place_in (catalog ++ d ∷ []) relation ≡ place_in catalog relation
  place_still [] relation n e = cc
  place_still (c ∷ cs) relation n e =
      by_bool (declares relation c) (place_in ((c ∷ cs) ++ d ∷ []) relation ≡ place_in (c ∷ cs) relation)
      (λ t. rw t refl)
      (λ f. rw f (ap (λ (k : ℕ). 1 + k) (place_still cs relation n (rw f at e))))

  module _ (catalog : List Declaration) where
    -- rows under the catalog stay under it, in the same order
    order_still : (r s : RowRecord) → IsUnder catalog r → IsUnder catalog s → row_order (catalog ++ d ∷ []) r s ≡ row_order catalog r s
    order_still r s at_r at_s =
        ap (λ (k : ℕ). ordering_then (nat_cmp k (place_in (catalog ++ d ∷ []) s.relation)) (values_order r.values s.values)) (place_still catalog r.relation (length r.values) at_r)
        ∙ ap (λ (k : ℕ). ordering_then (nat_cmp (place_in catalog r.relation) k) (values_order r.values s.values)) (place_still catalog s.relation (length s.values) at_s)

    pub under_still : (rows : List RowRecord) → AllByRecursion (IsUnder catalog) rows → AllByRecursion (IsUnder (catalog ++ d ∷ [])) rows
    under_still rows under = each (IsUnder catalog) (IsUnder (catalog ++ d ∷ [])) (λ r h. arity_still catalog r.relation (length r.values) h) rows under

    pub rises_still : (rows : List RowRecord) → AllByRecursion (IsUnder catalog) rows → IsStrictlySortedBy (row_order catalog) rows → IsStrictlySortedBy (row_order (catalog ++ d ∷ [])) rows
    rises_still rows under rises = sorted_still (row_order catalog) (row_order (catalog ++ d ∷ [])) (IsUnder catalog) order_still rows under rises

-- ---- rows that are inserted in their order

module _ (catalog : List Declaration) where
  -- the next row is not refused, nor is any
  row_fits : (done : List RowRecord) (r : RowRecord) (todo : List RowRecord) → IsUnder catalog r → IsStrictlySortedBy (row_order catalog) (done ++ r ∷ todo) → insert_fault (tables_of catalog done) r ≡ None
  row_fits done r todo under sorted =
      let fits : row_fault catalog r ≡ None = fits_row (tables_of catalog done) r under in
      let new : has_row (tables_of catalog done) r ≡ false = row_new catalog done r todo sorted in
      rw (fits, insert_fault) (rw new refl)

  pub rows_put_back : (done todo : List RowRecord) → AllByRecursion (IsUnder catalog) todo → IsStrictlySortedBy (row_order catalog) (done ++ todo) → Leads row_put insert_fault (tables_of catalog done) todo (tables_of catalog (done ++ todo))
  rows_put_back done [] under sorted = subst (λ (rows : List RowRecord). Leads row_put insert_fault (tables_of catalog done) [] (tables_of catalog rows)) (sym (append-nil done)) (leads_none row_put insert_fault (tables_of catalog done))
  rows_put_back done (r ∷ todo) under sorted =
      let one : (done ++ r ∷ []) ++ todo ≡ done ++ r ∷ todo = append_assoc done (r ∷ []) todo in
      leads_step row_put insert_fault (tables_of catalog done) (tables_of catalog (done ++ r ∷ [])) (tables_of catalog (done ++ r ∷ todo)) r todo (row_fits done r todo under.0 sorted)
      (row_last catalog done r todo sorted)
      (subst (λ (rows : List RowRecord). Leads row_put insert_fault (tables_of catalog (done ++ r ∷ [])) todo (tables_of catalog rows)) one
      (rows_put_back (done ++ r ∷ []) todo under.1 (subst (IsStrictlySortedBy (row_order catalog)) (sym one) sorted)))

-- ---- all rows, one relation after another

greater : (m n : ℕ) → n < m → nat_cmp m n ≡ Greater
greater m n h = sym (nat_cmp_is m n Greater h)

one_more : (m n : ℕ) → nat_cmp (1 + m) (1 + n) ≡ nat_cmp m n
one_more m n = sym (nat_cmp_is (1 + m) (1 + n) (nat_cmp m n) (shifted (nat_cmp m n) (ranked m n (nat_cmp m n) refl)))
  where
    shifted : (o : Ordering) → MatchOrdering o (m < n) (m ≡ n) (n < m) → MatchOrdering o (1 + m < 1 + n) (1 + m ≡ 1 + n) (1 + n < 1 + m)
    shifted Less h = omega arith
    shifted Equal h = omega arith
    shifted Greater h = omega arith

-- the row is of the relation, or of another
abbrev is_of : Declaration → RowRecord → Bool
is_of d r = bytes_eq d.relation r.relation

abbrev is_other : Declaration → RowRecord → Bool
is_other d r = not (is_of d r)

-- a row of one relation is of no other
apart_rows : (d e : Declaration) (r : RowRecord) → bytes_eq d.relation e.relation ≡ false → is_of d r ≡ true → is_of e r ≡ false
apart_rows d e r apart is =
    by_bool (is_of e r) (is_of e r ≡ false)
    (λ t.
    let one : d.relation ≡ e.relation = (bytes_eq-Decides d.relation r.relation).0 is ∙ sym ((bytes_eq-Decides e.relation r.relation).0 t) in
    let never : true ≡ false = sym ((bytes_eq-Decides d.relation e.relation).1 one) ∙ apart in
    absurd cc)
    (λ f. f)

-- the rows of one relation are among those that are not of another
among_others : (d e : Declaration) → bytes_eq d.relation e.relation ≡ false → (rows : List RowRecord) → filter (is_of e) (filter (is_other d) rows) ≡ filter (is_of e) rows
among_others d e apart [] = refl
among_others d e apart (r ∷ rows) =
    by_bool (is_of d r) (filter (is_of e) (filter (is_other d) (r ∷ rows)) ≡ filter (is_of e) (r ∷ rows))
    (λ t. let other : is_of e r ≡ false = apart_rows d e r apart t in rw (t, other) (among_others d e apart rows))
    (λ f. rw f
    (by_bool (is_of e r) (filter (is_of e) (r ∷ filter (is_other d) rows) ≡ filter (is_of e) (r ∷ rows))
    (λ t. rw t (ap (λ rs. r ∷ rs) (among_others d e apart rows)))
    (λ g. rw g (among_others d e apart rows))))

module _ (d : Declaration) (ds : List Declaration) where
  -- the relation stands first, and the others one place further back
  is_first : (r : RowRecord) → is_of d r ≡ true → place_in (d ∷ ds) r.relation ≡ 0
  is_first r t = let named : declares r.relation d ≡ true = nat_list_eq_equiv.symm r.relation d.relation ∙ t in rw named refl

  is_later : (r : RowRecord) → is_of d r ≡ false → place_in (d ∷ ds) r.relation ≡ 1 + place_in ds r.relation
  is_later r f = let named : declares r.relation d ≡ false = nat_list_eq_equiv.symm r.relation d.relation ∙ f in rw named refl

  -- after a row of another relation none of the first comes
  none_back : (r s : RowRecord) → is_of d r ≡ false → row_order (d ∷ ds) r s ≡ Less → is_of d s ≡ false
  none_back r s f less =
      by_bool (is_of d s) (is_of d s ≡ false)
      (λ t.
      let places : nat_cmp (place_in (d ∷ ds) r.relation) (place_in (d ∷ ds) s.relation) ≡ Greater =
      ap (λ (k : ℕ). nat_cmp k (place_in (d ∷ ds) s.relation)) (is_later r f) ∙ ap (λ (k : ℕ). nat_cmp (1 + place_in ds r.relation) k) (is_first s t) ∙ greater (1 + place_in ds r.relation) 0 (omega arith) in
      let never : Greater ≡ Less = sym (ap (λ o. ordering_then o (values_order r.values s.values)) places) ∙ less in
      absurd cc)
      (λ g. g)

  -- the rows of the first relation come first
  in_front : (rows : List RowRecord) → IsStrictlySortedBy (row_order (d ∷ ds)) rows → filter (is_of d) rows ++ filter (is_other d) rows ≡ rows
  unfolding IsStrictlySortedBy
  in_front [] h = refl
  in_front (r ∷ rows) h =
      by_bool (is_of d r) (filter (is_of d) (r ∷ rows) ++ filter (is_other d) (r ∷ rows) ≡ r ∷ rows)
      (λ t. rw t (ap (λ rs. r ∷ rs) (in_front rows h.1)))
      (λ f.
      let later : AllByRecursion (λ (s : RowRecord). is_of d s ≡ false) rows = each (λ s. row_order (d ∷ ds) r s ≡ Less) (λ s. is_of d s ≡ false) (λ s less. none_back r s f less) rows h.0 in
      let none : filter (is_of d) rows ≡ [] = none_kept (is_of d) rows later in
      let all : filter (is_other d) rows ≡ rows = all_kept (is_other d) rows (each (λ s. is_of d s ≡ false) (λ s. is_other d s ≡ true) (λ s g. ap not g) rows later) in
      rw f (ap (λ front. front ++ r ∷ filter (is_other d) rows) none ∙ ap (λ rs. r ∷ rs) all))

  -- rows of later relations stand in the same order without the first
  later_order : (r s : RowRecord) → is_of d r ≡ false → is_of d s ≡ false → row_order ds r s ≡ row_order (d ∷ ds) r s
  later_order r s f g =
      sym
      (ap (λ (k : ℕ). ordering_then (nat_cmp k (place_in (d ∷ ds) s.relation)) (values_order r.values s.values)) (is_later r f)
      ∙ ap (λ (k : ℕ). ordering_then (nat_cmp (1 + place_in ds r.relation) k) (values_order r.values s.values)) (is_later s g)
      ∙ ap (λ o. ordering_then o (values_order r.values s.values)) (one_more (place_in ds r.relation) (place_in ds s.relation)))

  -- the other rows are under the other relations
  all_others : (rows : List RowRecord) → AllByRecursion (λ (r : RowRecord). is_of d r ≡ false) (filter (is_other d) rows)
  all_others [] = tt
  all_others (r ∷ rows) = by_bool (is_of d r) (AllByRecursion (λ (s : RowRecord). is_of d s ≡ false) (filter (is_other d) (r ∷ rows))) (λ t. rw t (all_others rows)) (λ f. rw f (f, all_others rows))

  others_under : (rows : List RowRecord) → AllByRecursion (IsUnder (d ∷ ds)) rows → AllByRecursion (IsUnder ds) (filter (is_other d) rows)
  others_under [] h = tt
  others_under (r ∷ rows) h =
      by_bool (is_of d r) (AllByRecursion (IsUnder ds) (filter (is_other d) (r ∷ rows)))
      (λ t. rw t (others_under rows h.1))
      (λ f.
      let named : declares r.relation d ≡ false = nat_list_eq_equiv.symm r.relation d.relation ∙ f in
      let under : IsUnder ds r = rw named at h.0 in
      rw f (under, others_under rows h.1))

-- without the rows of one relation, those of others are the same
same_rows : (d : Declaration) (catalog : List Declaration) (rows : List RowRecord) (es : List Declaration) → AllByRecursion (λ (n : List ℕ). bytes_eq d.relation n ≡ false) (map relation_of es)
    → rows_of_all (tables_of catalog rows) es ≡ rows_of_all (tables_of catalog (filter (is_other d) rows)) es
same_rows d catalog rows [] h = refl
same_rows d catalog rows (e ∷ es) h =
    ap (λ front. front ++ rows_of_all (tables_of catalog rows) es) (sym (among_others d e h.0 rows)) ∙ ap (λ rest. filter (is_of e) (filter (is_other d) rows) ++ rest) (same_rows d catalog rows es h.1)

-- Rows in their order are those of each relation, one relation after another.
pub by_relation : (catalog ds : List Declaration) (rows : List RowRecord) → IsDistinct bytes_eq (map relation_of ds) → AllByRecursion (IsUnder ds) rows → IsStrictlySortedBy (row_order ds) rows
    → rows_of_all (tables_of catalog rows) ds ≡ rows
unfolding IsDistinct
by_relation catalog [] [] distinct under rises = refl
by_relation catalog [] (r ∷ rows) distinct under rises = let never : None ≡ Some (length r.values) = under.0 in cc
by_relation catalog (d ∷ ds) rows distinct under rises =
    let later = filter (is_other d) rows in
    let sorted : IsStrictlySortedBy (row_order ds) later =
    sorted_still (row_order (d ∷ ds)) (row_order ds) (λ (r : RowRecord). is_of d r ≡ false) (later_order d ds) later (all_others d ds rows) (IsStrictlySortedBy-filter (row_order (d ∷ ds)) (is_other d) rows rises) in
    ap (λ rest. filter (is_of d) rows ++ rest) (same_rows d catalog rows ds distinct.0 ∙ by_relation catalog ds later distinct.1 (others_under d ds rows under) sorted) ∙ in_front d ds rows rises

-- all rows of good tables, one relation after another, make the tables again under the catalog with one relation more
pub tables_put_back : (d : Declaration) (tables : TablesRecord) → IsTables tables → Leads row_put insert_fault (tables_of (tables.catalog ++ d ∷ []) []) (rows_of_all tables tables.catalog) (declared_in d tables)
tables_put_back d tables is =
    let catalog = tables.catalog in
    let under = recursion_from_All (IsUnder catalog) tables.rows is.under in
    subst (λ (rows : List RowRecord). Leads row_put insert_fault (tables_of (catalog ++ d ∷ []) []) rows (declared_in d tables)) (sym (by_relation catalog catalog tables.rows is.catalog.distinct under is.ascending))
    (rows_put_back (catalog ++ d ∷ []) [] tables.rows (under_still d catalog tables.rows under) (rises_still d catalog tables.rows under is.ascending))
