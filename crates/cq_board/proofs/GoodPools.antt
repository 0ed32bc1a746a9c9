-- Good pools: what an accepted edit leaves is one.
use Rattle.std.proofs.Common.{◌≡◌, ℕ, ◌+◌, ◌≤◌, Bool, true, false, not, List, [], ◌∷◌, ◌++◌, length, map, refl, sym, ap, ◌∙◌, subst, arith, Option, Some, None, if◌then◌else◌, length-append}
use Rattle.std.specs.Prelude.{filter, nat_le, nat_eq, IsTrue}
use Rattle.std.specs.List.{All, AllByRecursion, IsDistinct, list_any}
use Rattle.std.specs.Str.{bytes_eq}
use Rattle.std.proofs.lemmas.Bool.{leb-false, eqb-true}
use Rattle.std.proofs.lemmas.Cmp.{nat_list_eq_equiv}
use Rattle.std.proofs.lemmas.List.Elements.{All-nil, All-push, All-filter, All-from_recursion}
use Rattle.std.proofs.lemmas.Map.Keys.{IsDistinct-push}
use Rattle.cq_atom.specs.declared.fault.Part.{Part}
use Rattle.cq_atom.specs.declared.fault.Part.TheVariants.{Posts, Heads}
use Rattle.cq_atom.specs.Atom.{AtomRecord}
use Rattle.cq_atom.specs.Query.{QueryRecord}
use Rattle.cq_rel.specs.Tables.{Declaration, arity_in, TablesRecord, IsTables}
use Rattle.cq_atom.specs.declared.edit.EditKind.TheVariants.{Post}
use Rattle.cq_board.specs.declared.edit.Why.{Why}
use Rattle.cq_board.specs.declared.edit.Why.TheVariants.{PoolFull, NameTaken, NotAnswer, Arity}
use Rattle.cq_board.specs.declared.limits.Limits.{Limits}
use Rattle.cq_board.specs.Pool.{PendingQuery, PoolRecord, FitsCatalog, IsPool, is_declared, name_of}
use Rattle.cq_board.specs.Edits.{is_taken, first_of, answer_why, arity_why, body_why, query_why, why, edited}
use Rattle.cq_board.proofs.Members.{by_bool}

distinct_nil : IsDistinct bytes_eq []
unfolding IsDistinct
distinct_nil = tt

abbrev Fits : List Declaration → PendingQuery → Type 0
Fits catalog p = FitsCatalog catalog p.query

-- ---- no query

pub opening_good : (limits : Limits) (tables : TablesRecord) → IsTables tables → IsPool (record { limits = limits; tables = tables; pending = [] })
opening_good limits tables is = record { tables = is; few = omega arith; distinct = distinct_nil; fit = All-nil (Fits tables.catalog) }

-- ---- other tables

pub tables_good : (pool : PoolRecord) (tables : TablesRecord) → IsPool pool → IsTables tables → tables.catalog ≡ pool.tables.catalog → IsPool (record pool { tables = tables })
tables_good pool tables good is same =
    record { tables = is; few = good.few; distinct = good.distinct; fit = subst (λ (catalog : List Declaration). All (Fits catalog) pool.pending) (sym same) good.fit }

-- ---- a query less

module _ (p : PendingQuery → Bool) where
  apart_still : (name : List ℕ) (xs : List PendingQuery) → AllByRecursion (λ y. bytes_eq name y ≡ false) (map name_of xs) → AllByRecursion (λ y. bytes_eq name y ≡ false) (map name_of (filter p xs))
  apart_still name [] h = tt
  apart_still name (x ∷ xs) h =
      by_bool (p x) (AllByRecursion (λ y. bytes_eq name y ≡ false) (map name_of (filter p (x ∷ xs))))
      (λ t. rw t (h.0, apart_still name xs h.1)) (λ f. rw f (apart_still name xs h.1))

  distinct_still : (xs : List PendingQuery) → IsDistinct bytes_eq (map name_of xs) → IsDistinct bytes_eq (map name_of (filter p xs))
  unfolding IsDistinct
  distinct_still [] h = tt
  distinct_still (x ∷ xs) h =
      by_bool (p x) (IsDistinct bytes_eq (map name_of (filter p (x ∷ xs))))
      (λ t. rw t (apart_still x.name xs h.0, distinct_still xs h.1)) (λ f. rw f (distinct_still xs h.1))

  fewer : (xs : List PendingQuery) → length (filter p xs) ≤ length xs
  fewer [] = omega arith
  fewer (x ∷ xs) = by_bool (p x) (length (filter p (x ∷ xs)) ≤ length (x ∷ xs)) (λ t. rw t (let l = fewer xs in omega arith)) (λ f. rw f (let l = fewer xs in omega arith))

  pub filtered_good : (pool : PoolRecord) → IsPool pool → IsPool (record pool { pending = filter p pool.pending })
  filtered_good pool good = record {
    tables = good.tables;
    few = (let l = fewer pool.pending in let few = good.few in omega arith);
    distinct = distinct_still pool.pending good.distinct;
    fit = All-filter p (Fits pool.tables.catalog) pool.pending good.fit;
  }

-- ---- a query more

pub first_none : (a b : Option Why) → first_of a b ≡ None → (a ≡ None) × (b ≡ None)
first_none None b e = (refl, e)
first_none (Some reason) b e = cc

module _ (catalog : List Declaration) where
  answers_fit : (part : Part) (place : ℕ) (atoms : List AtomRecord) → answer_why catalog part place atoms ≡ None → AllByRecursion (λ (a : AtomRecord). IsTrue (not (is_declared catalog a.relation))) atoms
  answers_fit part place [] e = tt
  answers_fit part place (a ∷ atoms) e =
      by_bool (is_declared catalog a.relation) (AllByRecursion (λ (b : AtomRecord). IsTrue (not (is_declared catalog b.relation))) (a ∷ atoms))
      (λ t. let never : Some (NotAnswer part place) ≡ None = rw t at e in cc)
      (λ f. (rw f refl, answers_fit part (place + 1) atoms (rw f at e)))

  pub arity_fits : (declared : Option ℕ) (arity place : ℕ) → arity_why declared arity place ≡ None → declared ≡ Some arity
  arity_fits None arity place e = cc
  arity_fits (Some n) arity place e =
      by_bool (nat_eq n arity) (Some n ≡ Some arity)
      (λ t. ap (λ m. Some m) (eqb-true n arity t))
      (λ f. let never : Some (Arity place) ≡ None = rw f at e in cc)

  body_fits : (place : ℕ) (atoms : List AtomRecord) → body_why catalog place atoms ≡ None → AllByRecursion (λ (a : AtomRecord). arity_in catalog a.relation ≡ Some (length a.terms)) atoms
  body_fits place [] e = tt
  body_fits place (a ∷ atoms) e =
      let both = first_none (arity_why (arity_in catalog a.relation) (length a.terms) place) (body_why catalog (place + 1) atoms) e in
      (arity_fits (arity_in catalog a.relation) (length a.terms) place both.0, body_fits (place + 1) atoms both.1)

  query_fits : (query : QueryRecord) → query_why catalog query ≡ None → FitsCatalog catalog query
  query_fits query e =
      let posts = first_none (answer_why catalog Posts 0 query.posts) (first_of (answer_why catalog Heads 0 query.heads) (body_why catalog 0 query.body)) e in
      let heads = first_none (answer_why catalog Heads 0 query.heads) (body_why catalog 0 query.body) posts.1 in
      record {
        posts = All-from_recursion (λ (a : AtomRecord). IsTrue (not (is_declared catalog a.relation))) query.posts (answers_fit Posts 0 query.posts posts.0);
        heads = All-from_recursion (λ (a : AtomRecord). IsTrue (not (is_declared catalog a.relation))) query.heads (answers_fit Heads 0 query.heads heads.0);
        body = All-from_recursion (λ (a : AtomRecord). arity_in catalog a.relation ≡ Some (length a.terms)) query.body (body_fits 0 query.body heads.1);
      }

free_name : (name : List ℕ) (pending : List PendingQuery) → is_taken name pending ≡ list_any (bytes_eq name) (map name_of pending)
free_name name [] = refl
free_name name (p ∷ pending) = by_bool (bytes_eq name p.name) (is_taken name (p ∷ pending) ≡ list_any (bytes_eq name) (map name_of (p ∷ pending))) (λ t. rw t refl) (λ f. rw f (free_name name pending))

map_push : (xs : List PendingQuery) (p : PendingQuery) → map name_of (xs ++ p ∷ []) ≡ map name_of xs ++ p.name ∷ []
map_push [] p = refl
map_push (x ∷ xs) p = ap (λ ys. x.name ∷ ys) (map_push xs p)

post_step : (full taken : Bool) (rest : Option Why) → (if full then Some PoolFull else (if taken then Some NameTaken else rest)) ≡ None → (full ≡ false) × (taken ≡ false) × (rest ≡ None)
post_step true taken rest e = cc
post_step false true rest e = cc
post_step false false rest e = (refl, refl, e)

pub posted_good : (pool : PoolRecord) (name : List ℕ) (query : QueryRecord) → IsPool pool → why pool (Post name query) ≡ None → IsPool (edited pool (Post name query))
posted_good pool name query good e =
    let steps = post_step (nat_le pool.limits.pool (length pool.pending)) (is_taken name pool.pending) (query_why pool.tables.catalog query) e in
    let posted : PendingQuery = record { name = name; query = query } in
    record {
      tables = good.tables;
      few = (let room = leb-false pool.limits.pool (length pool.pending) steps.0 in let more = length-append pool.pending (posted ∷ []) in omega arith);
      distinct = rw (map_push pool.pending posted) (IsDistinct-push nat_list_eq_equiv (map name_of pool.pending) name good.distinct (sym (free_name name pool.pending) ∙ steps.1));
      fit = All-push (Fits pool.tables.catalog) pool.pending posted good.fit (query_fits pool.tables.catalog query steps.2);
    }
