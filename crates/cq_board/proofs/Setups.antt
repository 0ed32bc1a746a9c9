-- A good pool stays good, and its stores are of it, with a relation more that no pending query uses.
use Rattle.std.proofs.Common.{◌≡◌, ℕ, ◌||◌, Bool, true, false, not, List, [], ◌∷◌, ◌++◌, length, refl, sym, ap, subst, Option, Some, None}
use Rattle.std.specs.Prelude.{is_some, IsTrue}
use Rattle.std.specs.List.{All, AllByRecursion, list_any}
use Rattle.std.proofs.lemmas.List.Elements.{All-from_recursion, recursion_from_All}
use Rattle.cq_atom.specs.Atom.{AtomRecord}
use Rattle.cq_atom.specs.Query.{QueryRecord}
use Rattle.cq_rel.specs.declared.fault.CatalogFault.{CatalogFault}
use Rattle.cq_rel.specs.Tables.{Declaration, arity_in, TablesRecord, IsTables}
use Rattle.cq_roster.specs.Roster.{SeatRecord}
use Rattle.cq_grounded.specs.Grounded.{GroundedMap}
use Rattle.cq_board.specs.declared.limits.Limits.{Limits}
use Rattle.cq_board.specs.Pool.{PendingQuery, FitsCatalog, is_declared}
use Rattle.cq_board.specs.Setup.{declared_in, is_over, uses, is_used, or_in_use}
use Rattle.cq_board.specs.Steps.Residents.{queries_of}
use Rattle.cq_board.specs.Steps.Stores.{query_at, residents_at, pending_of, StoresRecord, AreStores, IsKeptIn}
use Rattle.cq_board.proofs.Members.{by_bool}
use Rattle.cq_board.proofs.KeptIn.{pool_of}
use Rattle.cq_board.proofs.Contents.{each}
use Rattle.cq_board.proofs.Declaring.{arity_still, absent_still}

undeclared : (o : Option ℕ) → IsTrue (not (is_some o)) → o ≡ None
undeclared None h = refl
undeclared (Some n) h = cc

both_false : (a b : Bool) → (a || b) ≡ false → (a ≡ false) × (b ≡ false)
both_false true b e = cc
both_false false b e = (refl, e)

module _ (catalog : List Declaration) (d : Declaration) where
  -- what a query waits for or offers stays undeclared, if it does not use the relation
  answers_still : (atoms : List AtomRecord) → AllByRecursion (λ (a : AtomRecord). IsTrue (not (is_declared catalog a.relation))) atoms → list_any (is_over d.relation) atoms ≡ false
      → AllByRecursion (λ (a : AtomRecord). IsTrue (not (is_declared (catalog ++ d ∷ []) a.relation))) atoms
  answers_still [] h free = tt
  answers_still (a ∷ atoms) h free =
      by_bool (is_over d.relation a) (AllByRecursion (λ (b : AtomRecord). IsTrue (not (is_declared (catalog ++ d ∷ []) b.relation))) (a ∷ atoms))
      (λ t. let never : true ≡ false = rw t at free in absurd cc)
      (λ f.
      let none : arity_in (catalog ++ d ∷ []) a.relation ≡ None = absent_still d catalog a.relation (undeclared (arity_in catalog a.relation) h.0) f in
      (ap (λ o. not (is_some o)) none, answers_still atoms h.1 (rw f at free)))

  fits_still : (query : QueryRecord) → FitsCatalog catalog query → uses d.relation query ≡ false → FitsCatalog (catalog ++ d ∷ []) query
  fits_still query fits free =
      let apart = both_false (list_any (is_over d.relation) query.posts) (list_any (is_over d.relation) query.heads) free in
      let undeclared_before : AtomRecord → Type 0 = λ a. IsTrue (not (is_declared catalog a.relation)) in
      let undeclared_after : AtomRecord → Type 0 = λ a. IsTrue (not (is_declared (catalog ++ d ∷ []) a.relation)) in
      let read_before : AtomRecord → Type 0 = λ a. arity_in catalog a.relation ≡ Some (length a.terms) in
      let read_after : AtomRecord → Type 0 = λ a. arity_in (catalog ++ d ∷ []) a.relation ≡ Some (length a.terms) in
      record {
        posts = All-from_recursion undeclared_after query.posts (answers_still query.posts (recursion_from_All undeclared_before query.posts fits.posts) apart.0);
        heads = All-from_recursion undeclared_after query.heads (answers_still query.heads (recursion_from_All undeclared_before query.heads fits.heads) apart.1);
        body = All-from_recursion read_after query.body
            (each read_before read_after (λ a h. arity_still d catalog a.relation (length a.terms) h) query.body (recursion_from_All read_before query.body fits.body));
      }

  pending_fit : (pending : List PendingQuery) → AllByRecursion (λ (p : PendingQuery). FitsCatalog catalog p.query) pending → is_used d.relation pending ≡ false
      → AllByRecursion (λ (p : PendingQuery). FitsCatalog (catalog ++ d ∷ []) p.query) pending
  pending_fit [] h free = tt
  pending_fit (p ∷ pending) h free =
      by_bool (uses d.relation p.query) (AllByRecursion (λ (q : PendingQuery). FitsCatalog (catalog ++ d ∷ []) q.query) (p ∷ pending))
      (λ t. let never : true ≡ false = rw t at free in absurd cc)
      (λ f. (fits_still p.query h.0 f, pending_fit pending h.1 (rw f at free)))

module _ (limits : Limits) (tables : TablesRecord) (s : StoresRecord) (kept : IsKeptIn (pool_of limits tables (pending_of s)) s) where
  pub declared_kept : (d : Declaration) (made : TablesRecord) → IsTables made → made ≡ declared_in d tables → is_used d.relation (pending_of s) ≡ false → IsKeptIn (pool_of limits made (pending_of s)) s
  declared_kept d made is same free = record {
    good = record {
      tables = is;
      few = kept.good.few;
      distinct = kept.good.distinct;
      fit = subst (λ (catalog : List Declaration). All (λ (p : PendingQuery). FitsCatalog catalog p.query) (pending_of s)) (sym (ap (λ (t : TablesRecord). t.catalog) same))
          (All-from_recursion (λ (p : PendingQuery). FitsCatalog (tables.catalog ++ d ∷ []) p.query) (pending_of s)
          (pending_fit tables.catalog d (pending_of s) (recursion_from_All (λ (p : PendingQuery). FitsCatalog tables.catalog p.query) (pending_of s) kept.good.fit) free));
    };
    stores = subst (AreStores s) (sym (ap (λ (t : TablesRecord). t.rows) same)) kept.stores;
  }

-- ---- what the calls say

-- a relation is in use if a query at the place of a seat uses it
pub used_seats : (relation : List ℕ) (grounded : GroundedMap) (seats : List SeatRecord) → list_any (λ (seat : SeatRecord). uses relation (query_at grounded seat.place)) seats ≡ is_used relation (queries_of (residents_at seats grounded))
used_seats relation grounded [] = refl
used_seats relation grounded (seat ∷ seats) = ap (λ (b : Bool). uses relation (query_at grounded seat.place) || b) (used_seats relation grounded seats)

-- a relation without a reason against it is not in use
pub free : (o : Option CatalogFault) (used : Bool) → None ≡ or_in_use o used → used ≡ false
free (Some fault) used e = cc
free None true e = cc
free None false e = refl
