-- What a board shows by the names of its queries, in posting order.
use Rattle.std.proofs.Common.{◌≡◌, ℕ, zero, suc, ◌<◌, ◌≤◌, Bool, false, List, [], ◌∷◌, length, map, get_or, sym, ap, subst, refl, ◌∙◌, Some, None}
use Rattle.std.specs.Prelude.{option_map, unwrap_or}
use Rattle.std.specs.List.{slice_get}
use Rattle.std.proofs.lemmas.List.{length-map}
use Rattle.std.proofs.lemmas.Option.{same_Some, slice_get-map, slice_get_read, slice_get_past}
use Rattle.cq_atom.specs.Query.{QueryRecord}
use Rattle.cq_atom.specs.Value.{ValueContent}
use Rattle.cq_ground.specs.Grounding.{groundings_of}
use Rattle.cq_board.specs.Pool.{PendingQuery, PoolRecord, name_of, IsPool}
use Rattle.cq_board.specs.Board.{is_matched_at, name_at}
use Rattle.cq_board.specs.Named.{query_named, matched_named, groundings_named}
use Rattle.cq_board.proofs.CallerLemmas as by_name
use Rattle.cq_board.specs.Steps.Left.{query_at}

-- ---- the list of the names

module _ {R : Type 0} (read : R → List ℕ) (names : List R) (pending : List PendingQuery) (named : map read names ≡ map name_of pending) where
  at_name : (i : ℕ) → option_map read (slice_get names i) ≡ name_at pending i
  at_name i = sym (slice_get-map read names i) ∙ ap (λ (ns : List (List ℕ)). slice_get ns i) named ∙ by_name.name_at-names pending i

  pub name_read : (i : ℕ) (x : R) → i < length names → x ≡ get_or names i x → name_at pending i ≡ Some (read x)
  name_read i x h is = sym (at_name i) ∙ ap (option_map read) (slice_get_read names (length names) i x refl h is)

  pub name_past : (i : ℕ) → length names ≤ i → name_at pending i ≡ None
  name_past i h = sym (at_name i) ∙ ap (option_map read) (slice_get_past names i h)

  pub as_many : length names ≡ length pending
  as_many = sym (length-map names read) ∙ ap length named ∙ length-map pending name_of

-- ---- what is shown of one query

posted_as : (pending : List PendingQuery) (i : ℕ) (name : List ℕ) → name_at pending i ≡ Some name → (posted : PendingQuery) × (slice_get pending i ≡ Some posted) × (posted.name ≡ name)
posted_as [] i name h = cc
posted_as (p ∷ pending) zero name h = (p, refl, same_Some p.name name h)
posted_as (p ∷ pending) (suc i) name h = posted_as pending i name h

-- the name of a query that stands at a place
pub named_there : (pending : List PendingQuery) (i : ℕ) (name : List ℕ) (posted : PendingQuery) → name_at pending i ≡ Some name → slice_get pending i ≡ Some posted → posted.name ≡ name
named_there pending i name posted h here = same_Some posted.name name (sym (ap (option_map (λ (p : PendingQuery). p.name)) here) ∙ h)

-- The query of that number and name, and what is shown by its name.
pub record Known (pool : PoolRecord) (i : ℕ) (name : List ℕ) : Type 0 where
  pub posted : PendingQuery
  pub there : slice_get pool.pending i ≡ Some posted
  pub name_is : posted.name ≡ name
  pub query_is : query_named name pool.pending ≡ Some posted.query
  pub matched_is : matched_named name pool ≡ Some (is_matched_at pool i)
  pub groundings_are : groundings_named name pool ≡ Some (groundings_of posted.query.body pool.tables.rows)

pub known_at : (pool : PoolRecord) → IsPool pool → (i : ℕ) (name : List ℕ) → name_at pool.pending i ≡ Some name → Known pool i name
known_at pool good i name h =
    let found = posted_as pool.pending i name h in
    subst (Known pool i) found.2 (record {
      posted = found.0;
      there = found.1;
      name_is = refl;
      query_is = by_name.query_at pool good i found.0 found.1;
      matched_is = by_name.matched_at pool good i found.0 found.1;
      groundings_are = by_name.groundings_at pool good i found.0 found.1;
    })

module _ (pool : PoolRecord) (good : IsPool pool) (i : ℕ) (name : List ℕ) (named : name_at pool.pending i ≡ Some name) where
  pub query_never : None ≡ query_named name pool.pending → ⊥
  query_never h = let k = known_at pool good i name named in let never : None ≡ Some k.posted.query = h ∙ k.query_is in cc

  pub query_shown : (query : QueryRecord) → Some query ≡ query_named name pool.pending → query_at pool.pending i ≡ Some query
  query_shown query h = let k = known_at pool good i name named in ap (option_map (λ (p : PendingQuery). p.query)) k.there ∙ sym (h ∙ k.query_is)

  pub matched_shown : (matched : Bool) → matched ≡ unwrap_or (matched_named name pool) false → matched ≡ is_matched_at pool i
  matched_shown matched m = let k = known_at pool good i name named in m ∙ ap (λ o. unwrap_or o false) k.matched_is

  pub groundings_never : None ≡ groundings_named name pool → ⊥
  groundings_never h = let k = known_at pool good i name named in let never : None ≡ Some (groundings_of k.posted.query.body pool.tables.rows) = h ∙ k.groundings_are in cc

  pub groundings_shown : (lists : List (List ValueContent)) (posted : PendingQuery) → Some lists ≡ groundings_named name pool → slice_get pool.pending i ≡ Some posted → lists ≡ groundings_of posted.query.body pool.tables.rows
  groundings_shown lists posted h here =
      let k = known_at pool good i name named in
      let same : posted ≡ k.posted = same_Some posted k.posted (sym here ∙ k.there) in
      same_Some lists _ (h ∙ k.groundings_are) ∙ ap (λ (p : PendingQuery). groundings_of p.query.body pool.tables.rows) (sym same)
