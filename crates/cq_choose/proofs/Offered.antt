-- The offers of a pool: the groundings of its queries.
use Rattle.std.proofs.Common.{◌≡◌, ℕ, zero, suc, ◌+◌, Bool, true, false, not, ◌&&◌, List, [], ◌∷◌, ◌++◌, append-nil, length, map, refl, sym, ap, subst, ◌∙◌, arith, Option, Some, None}
use Rattle.std.specs.Prelude.{if◌then◌else◌, option_map, nat_lt}
use Rattle.std.specs.List.{Contains, enumerate_from, position_or_len, slice_get}
use Rattle.std.proofs.lemmas.Option.{same_Some}
use Rattle.std.proofs.lemmas.Slice.Eq.{bytes_eq-Decides}
use Rattle.cq_atom.specs.Value.{ValueContent}
use Rattle.cq_atom.specs.Query.{QueryRecord}
use Rattle.cq_ground.specs.Grounding.{IsGrounding, groundings_of}
use Rattle.cq_ground.proofs.CallerLemmas.{listed-groundings}
use Rattle.cq_board.specs.Pool.{PendingQuery, PoolRecord, name_of, IsPool}
use Rattle.cq_board.specs.Edits.{is_named}
use Rattle.cq_board.specs.Board.{place_of}
use Rattle.cq_board.specs.Named.{query_named, matched_named, groundings_named}
use Rattle.cq_board.specs.Choice.{ChoiceRecord, IsGrounded}
use Rattle.cq_board.proofs.CallerLemmas.{place_at, query_at, groundings_at}
use Rattle.cq_choose.specs.Steps.Reach.{is_spare, told, is_taken, IsTaken}
use Rattle.cq_choose.specs.Steps.Offers.{OfferRecord, offers_by, offers_at, offers_of, choice_of}
use Rattle.cq_choose.proofs.Lists.{by_bool, In, In-Contains, Contains-In, In-map, In-map_gives, In-flat_map, In-flat_map_gives, enumerate-has, enumerate-gives}

pub mapped-at : {X Y : Type 0} (f : X → Y) (xs : List X) (k : ℕ) (y : Y) → slice_get (map f xs) k ≡ Some y → (x : X) × (slice_get xs k ≡ Some x) × (f x ≡ y)
mapped-at f [] k y e = cc
mapped-at f (x ∷ xs) zero y e = (x, refl, same_Some (f x) y e)
mapped-at f (x ∷ xs) (suc k) y e = mapped-at f xs k y e

pub at-mapped : {X Y : Type 0} (f : X → Y) (xs : List X) (k : ℕ) (x : X) → slice_get xs k ≡ Some x → slice_get (map f xs) k ≡ Some (f x)
at-mapped f [] k x e = cc
at-mapped f (y ∷ xs) zero x e = let same : y ≡ x = cc in ap (λ z. Some (f z)) same
at-mapped f (y ∷ xs) (suc k) x e = at-mapped f xs k x e

-- the element at the first place that passes does
passes-at : {X : Type 0} (p : X → Bool) (xs : List X) (k : ℕ) (x : X) → position_or_len p xs ≡ k → slice_get xs k ≡ Some x → p x ≡ true
passes-at p [] k x at got = cc
passes-at p (y ∷ xs) k x at got =
    by_bool (p y) (p x ≡ true)
    (λ t. let first : 0 ≡ k = rw t at at in let same : y ≡ x = same_Some y x (ap (slice_get (y ∷ xs)) first ∙ got) in subst (λ z. p z ≡ true) same t)
    (λ f. let later : 1 + position_or_len p xs ≡ k = rw f at at in let one : 1 + position_or_len p xs ≡ suc (position_or_len p xs) = omega arith in passes-at p xs (position_or_len p xs) x refl (ap (slice_get (y ∷ xs)) (sym one ∙ later) ∙ got))

-- what is pending under a name
named-from : (name : List ℕ) (pending : List PendingQuery) (query : QueryRecord) (k : ℕ) → position_or_len (is_named name) pending ≡ k → (o : Option PendingQuery) → slice_get pending k ≡ o
    → option_map (λ (p : PendingQuery). p.query) o ≡ Some query → (place : ℕ) × (posted : PendingQuery) × (slice_get pending place ≡ Some posted) × (posted.name ≡ name) × (posted.query ≡ query)
named-from name pending query k at None s found = cc
named-from name pending query k at (Some posted) s found =
    (k, posted, s, sym ((bytes_eq-Decides name posted.name).0 (passes-at (is_named name) pending k posted at s)), same_Some posted.query query found)

pub named-at : (name : List ℕ) (pending : List PendingQuery) (query : QueryRecord) → query_named name pending ≡ Some query
    → (place : ℕ) × (posted : PendingQuery) × (slice_get pending place ≡ Some posted) × (posted.name ≡ name) × (posted.query ≡ query)
named-at name pending query e =
    let k = position_or_len (is_named name) pending in
    by_bool (nat_lt k (length pending)) ((place : ℕ) × (posted : PendingQuery) × (slice_get pending place ≡ Some posted) × (posted.name ≡ name) × (posted.query ≡ query))
    (λ t. named-from name pending query k refl (slice_get pending k) refl (rw t at e))
    (λ f. absurd (let never : None ≡ Some query = rw f at e in cc))

-- where the flag is set nothing is taken, and nothing offered
pub idle-not_taken : (pool : PoolRecord) (spare : List Bool) (place : ℕ) (name : List ℕ) → is_spare spare place ≡ true → is_taken pool spare place name ≡ false
idle-not_taken pool spare place name idle = by_case (told (matched_named name pool)) (is_spare spare place) idle
  where
    by_case : (a b : Bool) → b ≡ true → a && not b ≡ false
    by_case true true e = refl
    by_case true false e = let never : false ≡ true = e in cc
    by_case false b e = refl

pub idle-no_offers : (pool : PoolRecord) (spare : List Bool) (place : ℕ) (name : List ℕ) (offers : List OfferRecord) → is_spare spare place ≡ true → offers ≡ offers ++ offers_at pool spare place name
idle-no_offers pool spare place name offers idle =
    let none : offers_at pool spare place name ≡ [] =
    ap (λ (t : Bool). if t then offers_by place name (query_named name pool.pending) (groundings_named name pool) else []) (idle-not_taken pool spare place name idle) in
    sym (ap (λ (l : List OfferRecord). offers ++ l) none ∙ append-nil offers)

-- the offer is of a pending query and of a grounding of it
pub record IsOfferOf (pool : PoolRecord) (o : OfferRecord) : Type 0 where
  pub posted : PendingQuery
  pub here : slice_get pool.pending o.place ≡ Some posted
  pub name : posted.name ≡ o.name
  pub query : posted.query ≡ o.query
  pub grounding : In o.values (groundings_of o.query.body pool.tables.rows)

module _ (pool : PoolRecord) (good : IsPool pool) (spare : List Bool) where
  abbrev lists_of : QueryRecord → List (List ValueContent)
  lists_of query = groundings_of query.body pool.tables.rows

  abbrev made : ℕ → List ℕ → QueryRecord → List ValueContent → OfferRecord
  made place name query values = record { name = name; place = place; query = query; values = values }

  offers-at : (place : ℕ) (posted : PendingQuery) → slice_get pool.pending place ≡ Some posted → is_taken pool spare place posted.name ≡ true
      → offers_at pool spare place posted.name ≡ map (made place posted.name posted.query) (lists_of posted.query)
  offers-at place posted here taken =
      ap (λ (t : Bool). if t then offers_by place posted.name (query_named posted.name pool.pending) (groundings_named posted.name pool) else []) taken
      ∙ ap (λ (q : Option QueryRecord). offers_by place posted.name q (groundings_named posted.name pool)) (query_at pool good place posted here)
      ∙ ap (offers_by place posted.name (Some posted.query)) (groundings_at pool good place posted here)

  offers-made : (o : OfferRecord) (place : ℕ) (posted : PendingQuery) → slice_get pool.pending place ≡ Some posted → In o (map (made place posted.name posted.query) (lists_of posted.query)) → IsOfferOf pool o
  offers-made o place posted here h =
      let values = In-map_gives (made place posted.name posted.query) (lists_of posted.query) o h in
      subst (IsOfferOf pool) (sym values.2) (record { posted = posted; here = here; name = refl; query = refl; grounding = values.1 })

  offers-give-at : (o : OfferRecord) (place : ℕ) (posted : PendingQuery) → slice_get pool.pending place ≡ Some posted → In o (offers_at pool spare place posted.name) → IsOfferOf pool o
  offers-give-at o place posted here h =
      by_bool (is_taken pool spare place posted.name) (IsOfferOf pool o)
      (λ t. offers-made o place posted here (subst (In o) (offers-at place posted here t) h))
      (λ f. absurd (subst (λ (t : Bool). In o (if t then offers_by place posted.name (query_named posted.name pool.pending) (groundings_named posted.name pool) else [])) f h))

  offers-give-name : (o : OfferRecord) (place k : ℕ) (name : List ℕ) → place ≡ 0 + k → slice_get (map name_of pool.pending) k ≡ Some name → In o (offers_at pool spare place name) → IsOfferOf pool o
  offers-give-name o place k name from named h =
      let found = mapped-at name_of pool.pending k name named in
      let at : k ≡ place = omega (arith, from) in
      offers-give-at o place found.0 (ap (slice_get pool.pending) (sym at) ∙ found.1) (subst (λ (n : List ℕ). In o (offers_at pool spare place n)) (sym found.2) h)

  pub offers-give : (o : OfferRecord) → In o (offers_of pool spare) → IsOfferOf pool o
  offers-give o h =
      let numbered = In-flat_map_gives (λ (p : ℕ × List ℕ). offers_at pool spare p.0 p.1) (enumerate_from 0 (map name_of pool.pending)) o h in
      let from = enumerate-gives 0 (map name_of pool.pending) numbered.0 numbered.1 in
      offers-give-name o numbered.0.0 from.0 numbered.0.1 from.1 from.2 numbered.2

  made-by : (place : ℕ) (name : List ℕ) (query : Option QueryRecord) (lists : Option (List (List ValueContent))) (o : OfferRecord) → In o (offers_by place name query lists) → (o.place ≡ place) × (o.name ≡ name)
  made-by place name None lists o h = absurd h
  made-by place name (Some query) None o h = absurd h
  made-by place name (Some query) (Some lists) o h =
      let values = In-map_gives (made place name query) lists o h in (ap (λ (p : OfferRecord). p.place) values.2, ap (λ (p : OfferRecord). p.name) values.2)

  -- only those that are taken are offered
  pub offers-taken : (o : OfferRecord) → In o (offers_of pool spare) → is_taken pool spare o.place o.name ≡ true
  offers-taken o h =
      let numbered = In-flat_map_gives (λ (p : ℕ × List ℕ). offers_at pool spare p.0 p.1) (enumerate_from 0 (map name_of pool.pending)) o h in
      let place = numbered.0.0 in
      let name = numbered.0.1 in
      by_bool (is_taken pool spare place name) (is_taken pool spare o.place o.name ≡ true)
      (λ t. let own = made-by place name (query_named name pool.pending) (groundings_named name pool) o
      (subst (λ (t : Bool). In o (if t then offers_by place name (query_named name pool.pending) (groundings_named name pool) else [])) t numbered.2) in
      ap (λ (p : ℕ). is_taken pool spare p o.name) own.0 ∙ ap (λ (n : List ℕ). is_taken pool spare place n) own.1 ∙ t)
      (λ f. absurd (subst (λ (t : Bool). In o (if t then offers_by place name (query_named name pool.pending) (groundings_named name pool) else [])) f numbered.2))

  pub offers-has : (place : ℕ) (posted : PendingQuery) (values : List ValueContent) → slice_get pool.pending place ≡ Some posted → is_taken pool spare place posted.name ≡ true
      → In values (lists_of posted.query) → In (made place posted.name posted.query values) (offers_of pool spare)
  offers-has place posted values here taken listed =
      let at : 0 + place ≡ place = omega arith in
      In-flat_map (λ (p : ℕ × List ℕ). offers_at pool spare p.0 p.1) (enumerate_from 0 (map name_of pool.pending)) (place, posted.name) (made place posted.name posted.query values)
      (subst (λ (n : ℕ). In (n, posted.name) (enumerate_from 0 (map name_of pool.pending))) at (enumerate-has 0 (map name_of pool.pending) place posted.name (at-mapped name_of pool.pending place posted here)))
      (subst (In (made place posted.name posted.query values)) (sym (offers-at place posted here taken)) (In-map (made place posted.name posted.query) (lists_of posted.query) values listed))

  module _ (o : OfferRecord) (is : IsOfferOf pool o) where
    pub offer-pending : query_named o.name pool.pending ≡ Some o.query
    offer-pending = ap (λ (n : List ℕ). query_named n pool.pending) (sym is.name) ∙ query_at pool good o.place is.posted is.here ∙ ap Some is.query

    pub offer-place : place_of o.name pool.pending ≡ Some o.place
    offer-place = ap (λ (n : List ℕ). place_of n pool.pending) (sym is.name) ∙ place_at pool good o.place is.posted is.here

    pub offer-grounded : IsGrounded pool (choice_of o)
    offer-grounded = record {
      query = o.query;
      pending = offer-pending;
      grounding = ((listed-groundings o.query.body pool.tables.rows).exactly o.values).0 (Contains-In (groundings_of o.query.body pool.tables.rows) o.values is.grounding);
    }

  -- one name, one place
  pub one-place : (o p : OfferRecord) → IsOfferOf pool o → IsOfferOf pool p → o.name ≡ p.name → o.place ≡ p.place
  one-place o p io ip e = same_Some o.place p.place (sym (offer-place o io) ∙ ap (λ (n : List ℕ). place_of n pool.pending) e ∙ offer-place p ip)

  pub one-name : (o p : OfferRecord) → IsOfferOf pool o → IsOfferOf pool p → o.place ≡ p.place → o.name ≡ p.name
  one-name o p io ip e =
      let same : io.posted ≡ ip.posted = same_Some io.posted ip.posted (sym io.here ∙ ap (slice_get pool.pending) e ∙ ip.here) in
      sym io.name ∙ ap name_of same ∙ ip.name

  offered-at : (c : ChoiceRecord) (query : QueryRecord) → IsGrounding query.body pool.tables.rows c.values → IsTaken pool spare c → (place : ℕ) (posted : PendingQuery) → slice_get pool.pending place ≡ Some posted
      → posted.name ≡ c.name → posted.query ≡ query → (o : OfferRecord) × In o (offers_of pool spare) × (choice_of o ≡ c)
  offered-at c query grounding taken place posted here name is =
      let at = ap (λ (n : List ℕ). place_of n pool.pending) (sym name) ∙ place_at pool good place posted here in
      let flag = subst (λ (n : List ℕ). is_taken pool spare place n ≡ true) (sym name) (taken.taken place at) in
      let listed : Contains (lists_of posted.query) c.values =
      ((listed-groundings posted.query.body pool.tables.rows).exactly c.values).1 (subst (λ (q : QueryRecord). IsGrounding q.body pool.tables.rows c.values) (sym is) grounding) in
      (made place posted.name posted.query c.values, offers-has place posted c.values here flag (In-Contains (lists_of posted.query) c.values listed), ap (λ (n : List ℕ). record { name = n; values = c.values }) name)

  -- what is grounded and taken is offered
  pub grounded-offered : (c : ChoiceRecord) → IsGrounded pool c → IsTaken pool spare c → (o : OfferRecord) × In o (offers_of pool spare) × (choice_of o ≡ c)
  grounded-offered c is taken =
      let found = named-at c.name pool.pending is.query is.pending in
      offered-at c is.query is.grounding taken found.0 found.1 found.2 found.3 found.4
