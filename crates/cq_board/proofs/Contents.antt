-- A good pool is made again by its rows, one after another, and then by its queries.
use Rattle.std.proofs.Common.{◌≡◌, ℕ, ◌+◌, ◌≤◌, Bool, true, false, not, List, [], ◌∷◌, ◌++◌, length, map, refl, sym, ap, subst, ◌∙◌, arith, append_assoc, Ordering, Some, None, if◌then◌else◌, bytes_eq, eq-eqb, length-append}
use Rattle.std.specs.Prelude.{filter, nat_le, IsTrue}
use Rattle.std.specs.declared.cmp.Ordering.TheVariants.{Less, Equal, Greater}
use Rattle.std.specs.Ordering.{is_lt, is_eq, nat_cmp, ordering_reverse, ordering_then}
use Rattle.std.specs.List.{AllByRecursion, IsDistinct, list_any}
use Rattle.std.specs.List.Sorted.{IsStrictlySortedBy}
use Rattle.std.proofs.lemmas.Bool.{not-true, lt-leb}
use Rattle.std.proofs.lemmas.List.{append-nil}
use Rattle.std.proofs.lemmas.Cmp.{nat_cmp_total, nat_list_eq_equiv, tied_itself}
use Rattle.std.proofs.lemmas.Slice.Eq.{bytes_eq-Decides}
use Rattle.std.proofs.lemmas.List.Elements.{recursion_from_All}
use Rattle.cq_atom.specs.declared.fault.Part.{Part}
use Rattle.cq_atom.specs.declared.fault.Part.TheVariants.{Posts, Heads}
use Rattle.cq_atom.specs.declared.edit.EditKind.TheVariants.{Post, Insert}
use Rattle.cq_atom.specs.Atom.{AtomRecord, RowRecord}
use Rattle.cq_atom.specs.Query.{QueryRecord}
use Rattle.cq_rel.specs.Tables.{Declaration, arity_in, place_in, values_order, row_order, row_before, TablesRecord, IsUnder, same_row, has_row, with_row}
use Rattle.cq_board.specs.declared.edit.Why.TheVariants.{PoolFull, NameTaken, Arity, RowPresent}
use Rattle.cq_board.specs.declared.limits.Limits.{Limits}
use Rattle.cq_board.specs.Pool.{PendingQuery, PoolRecord, IsPool, FitsCatalog, opening_pool, is_declared, name_of}
use Rattle.cq_board.specs.Edits.{is_taken, first_of, answer_why, arity_why, body_why, query_why, why, edited, unless_refused, pool_after}
use Rattle.cq_board.specs.Content.{content_edits}
use Rattle.cq_board.proofs.KeptIn.{pool_of}
use Rattle.cq_board.proofs.Members.{by_bool}
use Rattle.cq_board.proofs.Rows.{row_total}
use Rattle.cq_board.proofs.Led.{Leads, leads_none, leads_step, leads_append}

-- ---- lists

module _ {X : Type 0} where
  -- what holds of each element of a list, from what holds of each
  pub each : (P Q : X → Type 0) → ((x : X) → P x → Q x) → (xs : List X) → AllByRecursion P xs → AllByRecursion Q xs
  each P Q f [] h = tt
  each P Q f (x ∷ xs) h = (f x h.0, each P Q f xs h.1)

  -- and of one element
  in_middle : (P : X → Type 0) (xs : List X) (x : X) (ys : List X) → AllByRecursion P (xs ++ x ∷ ys) → P x
  in_middle P [] x ys h = h.0
  in_middle P (z ∷ xs) x ys h = in_middle P xs x ys h.1

  -- a filter keeps all that pass, and nothing of what fails
  pub all_kept : (p : X → Bool) (xs : List X) → AllByRecursion (λ (y : X). p y ≡ true) xs → filter p xs ≡ xs
  all_kept p [] h = refl
  all_kept p (x ∷ xs) h = rw h.0 (ap (λ ys. x ∷ ys) (all_kept p xs h.1))

  pub none_kept : (p : X → Bool) (xs : List X) → AllByRecursion (λ (y : X). p y ≡ false) xs → filter p xs ≡ []
  none_kept p [] h = refl
  none_kept p (x ∷ xs) h = rw h.0 (none_kept p xs h.1)

  pub none_passes : (p : X → Bool) (xs : List X) → AllByRecursion (λ (y : X). p y ≡ false) xs → list_any p xs ≡ false
  none_passes p [] h = refl
  none_passes p (x ∷ xs) h = rw h.0 (none_passes p xs h.1)

  -- the elements before one in a list that rises are below it
  below : (order : X → X → Ordering) (xs : List X) (x : X) (ys : List X) → IsStrictlySortedBy order (xs ++ x ∷ ys) → AllByRecursion (λ (y : X). order y x ≡ Less) xs
  unfolding IsStrictlySortedBy
  below order [] x ys h = tt
  below order (z ∷ xs) x ys h = (in_middle (λ (y : X). order z y ≡ Less) xs x ys h.0, below order xs x ys h.1)

-- ---- a row that comes after those that there are

tied : (o : Ordering) → is_eq o ≡ true → o ≡ Equal
tied Less e = cc
tied Equal e = refl
tied Greater e = cc

-- tables of a catalog and rows
abbrev pub tables_of : List Declaration → List RowRecord → TablesRecord
tables_of catalog rows = record { catalog = catalog; rows = rows }

module _ (catalog : List Declaration) where
  -- a row that comes after another is another row
  above : (r x : RowRecord) → row_order catalog x r ≡ Less → row_order catalog r x ≡ Greater
  above r x e = (row_total catalog).antisymm r x ∙ ap ordering_reverse e

  another : (r x : RowRecord) → row_order catalog x r ≡ Less → same_row r x ≡ false
  another r x e =
      by_bool (bytes_eq r.relation x.relation) (same_row r x ≡ false)
      (λ named. by_bool (is_eq (values_order r.values x.values)) (same_row r x ≡ false)
      (λ equal.
      let one : r.relation ≡ x.relation = (bytes_eq-Decides r.relation x.relation).0 named in
      let places : nat_cmp (place_in catalog r.relation) (place_in catalog x.relation) ≡ Equal =
      ap (λ (n : List ℕ). nat_cmp (place_in catalog n) (place_in catalog x.relation)) one ∙ tied_itself nat_cmp_total (place_in catalog x.relation) in
      let never : Greater ≡ Equal = sym (above r x e) ∙ ap (λ o. ordering_then o (values_order r.values x.values)) places ∙ tied (values_order r.values x.values) equal in
      absurd cc)
      (λ apart. rw (named, apart) refl))
      (λ other. rw other refl)

  module _ (done : List RowRecord) (r : RowRecord) (todo : List RowRecord) (sorted : IsStrictlySortedBy (row_order catalog) (done ++ r ∷ todo)) where
    abbrev low : AllByRecursion (λ (x : RowRecord). row_order catalog x r ≡ Less) done
    low = below (row_order catalog) done r todo sorted

    -- the row comes last, and was not there
    pub row_last : with_row r (tables_of catalog done) ≡ tables_of catalog (done ++ r ∷ [])
    row_last =
        let front = all_kept (λ x. row_before catalog x r) done (each (λ x. row_order catalog x r ≡ Less) (λ x. row_before catalog x r ≡ true) (λ x e. ap is_lt e) done low) in
        let behind = none_kept (λ x. row_before catalog r x) done (each (λ x. row_order catalog x r ≡ Less) (λ x. row_before catalog r x ≡ false) (λ x e. ap is_lt (above r x e)) done low) in
        ap (λ rows. tables_of catalog (rows ++ r ∷ filter (λ x. row_before catalog r x) done)) front ∙ ap (λ rows. tables_of catalog (done ++ r ∷ rows)) behind

    pub row_new : has_row (tables_of catalog done) r ≡ false
    row_new = none_passes (same_row r) done (each (λ x. row_order catalog x r ≡ Less) (λ x. same_row r x ≡ false) (λ x e. another r x e) done low)

-- ---- rows that come in their order

as_declared : (n : ℕ) → arity_why (Some n) n 0 ≡ None
as_declared n = rw (eq-eqb n n refl) refl

module _ (limits : Limits) (catalog : List Declaration) where
  -- the pool of the rows, without queries
  abbrev pub holding : List RowRecord → PoolRecord
  holding rows = pool_of limits (tables_of catalog rows) []

  -- the next row is accepted, and so are all
  row_comes : (done : List RowRecord) (r : RowRecord) (todo : List RowRecord) → IsUnder catalog r → IsStrictlySortedBy (row_order catalog) (done ++ r ∷ todo) → why (holding done) (Insert r) ≡ None
  row_comes done r todo under sorted =
      ap (λ o. first_of (arity_why o (length r.values) 0) (if has_row (tables_of catalog done) r then Some RowPresent else None)) under
      ∙ ap (λ o. first_of o (if has_row (tables_of catalog done) r then Some RowPresent else None)) (as_declared (length r.values))
      ∙ ap (λ (b : Bool). if b then Some RowPresent else None) (row_new catalog done r todo sorted)

  rows_come : (done todo : List RowRecord) → AllByRecursion (IsUnder catalog) todo → IsStrictlySortedBy (row_order catalog) (done ++ todo) → Leads pool_after why (holding done) (map Insert todo) (holding (done ++ todo))
  rows_come done [] under sorted = subst (λ (rows : List RowRecord). Leads pool_after why (holding done) [] (holding rows)) (sym (append-nil done)) (leads_none pool_after why (holding done))
  rows_come done (r ∷ todo) under sorted =
      let free = row_comes done r todo under.0 sorted in
      let one : (done ++ r ∷ []) ++ todo ≡ done ++ r ∷ todo = append_assoc done (r ∷ []) todo in
      leads_step pool_after why (holding done) (holding (done ++ r ∷ [])) (holding (done ++ r ∷ todo)) (Insert r) (map Insert todo) free
      (ap (λ o. unless_refused o (holding done) (edited (holding done) (Insert r))) free ∙ ap (λ tables. pool_of limits tables []) (row_last catalog done r todo sorted))
      (subst (λ (rows : List RowRecord). Leads pool_after why (holding (done ++ r ∷ [])) (map Insert todo) (holding rows)) one
      (rows_come (done ++ r ∷ []) todo under.1 (subst (IsStrictlySortedBy (row_order catalog)) (sym one) sorted)))

-- ---- queries that come in their order

module _ (catalog : List Declaration) where
  -- nothing speaks against a query that fits the catalog
  answers_free : (part : Part) (place : ℕ) (atoms : List AtomRecord) → AllByRecursion (λ (a : AtomRecord). IsTrue (not (is_declared catalog a.relation))) atoms → answer_why catalog part place atoms ≡ None
  answers_free part place [] h = refl
  answers_free part place (a ∷ atoms) h = rw (not-true (is_declared catalog a.relation) h.0) (answers_free part (place + 1) atoms h.1)

  body_free : (place : ℕ) (atoms : List AtomRecord) → AllByRecursion (λ (a : AtomRecord). arity_in catalog a.relation ≡ Some (length a.terms)) atoms → body_why catalog place atoms ≡ None
  body_free place [] h = refl
  body_free place (a ∷ atoms) h =
      ap (λ o. first_of (arity_why o (length a.terms) place) (body_why catalog (place + 1) atoms)) h.0
      ∙ ap (λ (b : Bool). first_of (if b then None else Some (Arity place)) (body_why catalog (place + 1) atoms)) (eq-eqb (length a.terms) (length a.terms) refl)
      ∙ body_free (place + 1) atoms h.1

  query_free : (query : QueryRecord) → FitsCatalog catalog query → query_why catalog query ≡ None
  query_free query fits =
      ap (λ o. first_of o (first_of (answer_why catalog Heads 0 query.heads) (body_why catalog 0 query.body)))
      (answers_free Posts 0 query.posts (recursion_from_All (λ (a : AtomRecord). IsTrue (not (is_declared catalog a.relation))) query.posts fits.posts))
      ∙ ap (λ o. first_of o (body_why catalog 0 query.body))
      (answers_free Heads 0 query.heads (recursion_from_All (λ (a : AtomRecord). IsTrue (not (is_declared catalog a.relation))) query.heads fits.heads))
      ∙ body_free 0 query.body (recursion_from_All (λ (a : AtomRecord). arity_in catalog a.relation ≡ Some (length a.terms)) query.body fits.body)

-- the names before one in a list of distinct names are others
others : (name : List ℕ) (done : List PendingQuery) (p : PendingQuery) (todo : List PendingQuery) → p.name ≡ name → IsDistinct bytes_eq (map name_of (done ++ p ∷ todo)) → is_taken name done ≡ false
unfolding IsDistinct
others name [] p todo e h = refl
others name (q ∷ done) p todo e h =
    let apart : bytes_eq q.name p.name ≡ false = named_apart q.name done p todo h.0 in
    let other : bytes_eq name q.name ≡ false = ap (λ n. bytes_eq n q.name) (sym e) ∙ nat_list_eq_equiv.symm p.name q.name ∙ apart in
    rw other (others name done p todo e h.1)
  where
    named_apart : (n : List ℕ) (done : List PendingQuery) (p : PendingQuery) (todo : List PendingQuery) → AllByRecursion (λ (y : List ℕ). bytes_eq n y ≡ false) (map name_of (done ++ p ∷ todo)) → bytes_eq n p.name ≡ false
    named_apart n [] p todo h = h.0
    named_apart n (q ∷ done) p todo h = named_apart n done p todo h.1

module _ (limits : Limits) (tables : TablesRecord) where
  -- the next query is accepted, and so are all
  query_comes : (done : List PendingQuery) (p : PendingQuery) (todo : List PendingQuery) → length (done ++ p ∷ todo) ≤ limits.pool → IsDistinct bytes_eq (map name_of (done ++ p ∷ todo)) → FitsCatalog tables.catalog p.query
      → why (pool_of limits tables done) (Post p.name p.query) ≡ None
  query_comes done p todo few distinct fits =
      let room : nat_le limits.pool (length done) ≡ false = lt-leb limits.pool (length done) (let all = length-append done (p ∷ todo) in omega arith) in
      ap (λ (full : Bool). if full then Some PoolFull else (if is_taken p.name done then Some NameTaken else query_why tables.catalog p.query)) room
      ∙ ap (λ (taken : Bool). if taken then Some NameTaken else query_why tables.catalog p.query) (others p.name done p todo refl distinct)
      ∙ query_free tables.catalog p.query fits

  queries_come : (done todo : List PendingQuery) → length (done ++ todo) ≤ limits.pool → IsDistinct bytes_eq (map name_of (done ++ todo)) → AllByRecursion (λ (p : PendingQuery). FitsCatalog tables.catalog p.query) todo
      → Leads pool_after why (pool_of limits tables done) (map (λ p. Post p.name p.query) todo) (pool_of limits tables (done ++ todo))
  queries_come done [] few distinct fit = subst (λ (pending : List PendingQuery). Leads pool_after why (pool_of limits tables done) [] (pool_of limits tables pending)) (sym (append-nil done)) (leads_none pool_after why (pool_of limits tables done))
  queries_come done (p ∷ todo) few distinct fit =
      let free = query_comes done p todo few distinct fit.0 in
      let one : (done ++ p ∷ []) ++ todo ≡ done ++ p ∷ todo = append_assoc done (p ∷ []) todo in
      leads_step pool_after why (pool_of limits tables done) (pool_of limits tables (done ++ p ∷ [])) (pool_of limits tables (done ++ p ∷ todo)) (Post p.name p.query) (map (λ q. Post q.name q.query) todo) free
      (ap (λ o. unless_refused o (pool_of limits tables done) (edited (pool_of limits tables done) (Post p.name p.query))) free)
      (subst (λ (pending : List PendingQuery). Leads pool_after why (pool_of limits tables (done ++ p ∷ [])) (map (λ q. Post q.name q.query) todo) (pool_of limits tables pending)) one
      (queries_come (done ++ p ∷ []) todo (subst (λ (pending : List PendingQuery). length pending ≤ limits.pool) (sym one) few)
      (subst (λ (pending : List PendingQuery). IsDistinct bytes_eq (map name_of pending)) (sym one) distinct) fit.1))

-- ---- pools

-- A good pool results from its rows and its queries.
pub content_leads : (pool : PoolRecord) → IsPool pool → Leads pool_after why (opening_pool pool.tables.catalog pool.limits) (content_edits pool) pool
content_leads pool good =
    let catalog = pool.tables.catalog in
    leads_append pool_after why (opening_pool catalog pool.limits) (holding pool.limits catalog pool.tables.rows) pool (map Insert pool.tables.rows) (map (λ p. Post p.name p.query) pool.pending)
    (rows_come pool.limits catalog [] pool.tables.rows (recursion_from_All (IsUnder catalog) pool.tables.rows good.tables.under) good.tables.ascending)
    (queries_come pool.limits pool.tables [] pool.pending good.few good.distinct (recursion_from_All (λ (p : PendingQuery). FitsCatalog catalog p.query) pool.pending good.fit))
