-- The matched queries that have no flag are those that are concerned.
use Rattle.std.proofs.Common.{◌≡◌, ◌<◌, ℕ, zero, suc, inl, inr, nat_eq, Bool, true, false, ◌&&◌, ◌||◌, not, ◌↔◌, List, [], ◌∷◌, length, map, refl, sym, ap, subst, ◌∙◌, arith, Some, None}
use Rattle.std.specs.List.{All, Contains, list_any, list_all, enumerate_from, slice_get}
use Rattle.std.specs.Set.{is_member}
use Rattle.std.specs.Str.{bytes_eq}
use Rattle.std.proofs.lemmas.Bool.Decides.{Decides-eqb}
use Rattle.std.proofs.lemmas.Option.{get_or_from_slice_get, same_Some}
use Rattle.std.proofs.lemmas.Slice.Eq.{bytes_eq-Decides}
use Rattle.cq_atom.specs.declared.edge.Edge.{Edge}
use Rattle.cq_match.specs.Matched.{numbers, has_each_post, is_closed, sublists, is_matched}
use Rattle.cq_board.specs.Pool.{PendingQuery, PoolRecord, name_of, IsPool}
use Rattle.cq_board.specs.Edges.{edges_of}
use Rattle.cq_board.specs.Board.{is_able, nodes_of, is_matched_at}
use Rattle.cq_board.specs.Named.{query_named, matched_named}
use Rattle.cq_board.proofs.CallerLemmas.{query_at, matched_at, name_at-names}
use Rattle.cq_choose.specs.Disagreement.{IsConcerned}
use Rattle.cq_choose.specs.Disagreement.IsConcerned.{Asked, Serving}
use Rattle.cq_closure.specs.Closure.{is_set, IsReached}
use Rattle.cq_closure.specs.Closure.IsReached.{First, Providing}
use Rattle.cq_choose.specs.Steps.Reach.{is_spare, told, IsKnown, IfKnown, IsExact}
use Rattle.cq_choose.proofs.Lists.{by_bool, by_option, In, In-append, In-Contains, Contains-In, All-In, In-All, In-at, at-In, In-map_gives, enumerate-gives}
use Rattle.cq_choose.proofs.Reaching.{spare-low}
use Rattle.cq_choose.proofs.Offered.{at-mapped, mapped-at}

-- what a set of some of them has, they have
sublist-In : {X : Type 0} (xs set : List X) → In set (sublists xs) → (x : X) → In x set → In x xs
sublist-In [] set h x m = elim h [ inl e ↦ subst (In x) e m | inr never ↦ absurd never ]
sublist-In {X} (y ∷ xs) set h x m =
    elim (In-append set (map (λ chosen. y ∷ chosen) (sublists xs)) (sublists xs) h) as (λ _. In x (y ∷ xs)) [
      | inl k ↦ let from = In-map_gives (λ (chosen : List X). y ∷ chosen) (sublists xs) set k in elim (subst (In x) from.2 m) as (λ _. In x (y ∷ xs)) [ inl e ↦ inl e | inr n ↦ inr (sublist-In xs from.0 from.1 x n) ]
      | inr k ↦ inr (sublist-In xs set k x m)
    ]

pub any-gives : {X : Type 0} (p : X → Bool) (xs : List X) → list_any p xs ≡ true → (x : X) × In x xs × (p x ≡ true)
any-gives p [] h = cc
any-gives {X} p (y ∷ xs) h = by_bool (p y) ((x : X) × In x (y ∷ xs) × (p x ≡ true)) (λ t. (y, inl refl, t)) (λ f. let more = any-gives p xs (rw f at h) in (more.0, inr more.1, more.2))

none-mapped : {X Y : Type 0} (f : X → Y) (xs : List X) (k : ℕ) → slice_get xs k ≡ None → slice_get (map f xs) k ≡ None
none-mapped f [] k e = refl
none-mapped f (x ∷ xs) zero e = cc
none-mapped f (x ∷ xs) (suc k) e = none-mapped f xs k e

unmapped : {X Y : Type 0} (f : X → Y) (xs : List X) (k : ℕ) → slice_get (map f xs) k ≡ None → slice_get xs k ≡ None
unmapped f [] k e = refl
unmapped f (x ∷ xs) zero e = cc
unmapped f (x ∷ xs) (suc k) e = unmapped f xs k e

all-gives : {X : Type 0} (p : X → Bool) (xs : List X) → list_all p xs ≡ true → (x : X) → In x xs → p x ≡ true
all-gives p [] h x m = absurd m
all-gives p (y ∷ xs) h x m =
    by_bool (p y) (p x ≡ true)
    (λ t. elim m as (λ _. p x ≡ true) [ inl e ↦ ap p e ∙ t | inr n ↦ all-gives p xs (rw t at h) x n ])
    (λ f. let never : false ≡ true = rw f at h in cc)

pub and-left : (a b : Bool) → a && b ≡ true → a ≡ true
and-left true b h = refl
and-left false b h = h

pub and-right : (a b : Bool) → a && b ≡ true → b ≡ true
and-right true b h = h
and-right false b h = let never : false ≡ true = h in cc

-- a member of a closed set is able
kept-able : (member able has : Bool) → (not member || (able && has)) ≡ true → member ≡ true → able ≡ true
kept-able true able has h m = and-left able has h
kept-able false able has h m = let never : false ≡ true = m in cc

-- what stands at a matched place: a query with a grounding
pub record Stands (pool : PoolRecord) (place : ℕ) : Type 0 where
  pub posted : PendingQuery
  pub here : slice_get pool.pending place ≡ Some posted
  pub able : is_able pool.tables.rows posted ≡ true

module _ (pool : PoolRecord) where
  abbrev node_for : ℕ × PendingQuery → ℕ × ℕ × Bool
  node_for p = (p.0, length p.1.query.posts, is_able pool.tables.rows p.1)

  abbrev fits : List ℕ → ℕ × ℕ × Bool → Bool
  fits set node = not (is_member nat_eq set node.0) || (node.2 && has_each_post (edges_of pool.pending) set node)

  -- a node of the graph is a query at its place
  node-stands : (set : List ℕ) (place : ℕ) → is_member nat_eq set place ≡ true → list_all (fits set) (nodes_of pool) ≡ true → (node : ℕ × ℕ × Bool) → In node (nodes_of pool) → place ≡ node.0 → Stands pool place
  node-stands set place member closed node m is =
      let from = In-map_gives node_for (enumerate_from 0 pool.pending) node m in
      let numbered = enumerate-gives 0 pool.pending from.0 from.1 in
      let first : node.0 ≡ from.0.0 = ap (λ (n : ℕ × ℕ × Bool). n.0) from.2 in
      let third : node.2 ≡ is_able pool.tables.rows from.0.1 = ap (λ (n : ℕ × ℕ × Bool). n.2) from.2 in
      let behind = numbered.1 in
      let at : numbered.0 ≡ place = omega (arith, behind, first, is) in
      record {
        posted = from.0.1;
        here = ap (slice_get pool.pending) (sym at) ∙ numbered.2;
        able = sym third ∙ kept-able (is_member nat_eq set node.0) node.2 (has_each_post (edges_of pool.pending) set node) (all-gives (fits set) (nodes_of pool) closed node m) (ap (is_member nat_eq set) (sym is) ∙ member);
      }

  pub matched-stands : (place : ℕ) → is_matched_at pool place ≡ true → Stands pool place
  unfolding is_matched is_closed
  matched-stands place matched =
      let set = any-gives (λ set. is_closed (nodes_of pool) (edges_of pool.pending) set && is_member nat_eq set place) (sublists (numbers (nodes_of pool))) matched in
      let closed = and-left (is_closed (nodes_of pool) (edges_of pool.pending) set.0) (is_member nat_eq set.0 place) set.2 in
      let member = and-right (is_closed (nodes_of pool) (edges_of pool.pending) set.0) (is_member nat_eq set.0 place) set.2 in
      let own = any-gives (nat_eq place) set.0 member in
      let number = sublist-In (numbers (nodes_of pool)) set.0 set.1 own.0 own.1 in
      let node = In-map_gives (λ (node : ℕ × ℕ × Bool). node.0) (nodes_of pool) own.0 number in
      node-stands set.0 place member closed node.0 node.1 ((Decides-eqb place own.0).0 own.2 ∙ node.2)

pub concerned-matched : (pool : PoolRecord) (names : List (List ℕ)) (place : ℕ) → IsConcerned pool names place → is_matched_at pool place ≡ true
concerned-matched pool names place (Asked place' name here among matched) = matched
concerned-matched pool names place (Serving edge among concerned matched) = matched

module _ (pool : PoolRecord) (good : IsPool pool) (names : List (List ℕ)) {X : Type 0} (read : X → List ℕ) (items : List X) (named : map read items ≡ map name_of pool.pending)
    (matched : List Bool) (flags : matched ≡ map (λ x. told (matched_named (read x) pool)) items) where
  -- the item that was read for a pending query
  item-at : (place : ℕ) (posted : PendingQuery) → slice_get pool.pending place ≡ Some posted → (x : X) × (slice_get items place ≡ Some x) × (read x ≡ posted.name)
  item-at place posted here =
      mapped-at read items place posted.name (ap (λ (l : List (List ℕ)). slice_get l place) named ∙ at-mapped name_of pool.pending place posted here)

  flag-at : (place : ℕ) (posted : PendingQuery) → slice_get pool.pending place ≡ Some posted → is_spare matched place ≡ is_matched_at pool place
  flag-at place posted here =
      let x = item-at place posted here in
      ap (λ (l : List Bool). is_spare l place) flags
      ∙ get_or_from_slice_get (map (λ x. told (matched_named (read x) pool)) items) place (told (matched_named (read x.0) pool)) false (at-mapped (λ x. told (matched_named (read x) pool)) items place x.0 x.1)
      ∙ ap (λ (n : List ℕ). told (matched_named n pool)) x.2
      ∙ ap told (matched_at pool good place posted here)

  -- the flags are those of the matched queries
  flags-are : (place : ℕ) → is_matched_at pool place ≡ true → is_spare matched place ≡ true
  flags-are place m = let s = matched-stands pool place m in flag-at place s.posted s.here ∙ m

  flags-only : (place : ℕ) → is_spare matched place ≡ true → is_matched_at pool place ≡ true
  flags-only place t =
      by_option (slice_get pool.pending place) (is_matched_at pool place ≡ true)
      (λ n. absurd (beyond items place (past n) (ap (λ (l : List Bool). is_spare l place) (sym flags) ∙ t)))
      (λ posted here. sym (flag-at place posted here) ∙ t)
    where
      past : slice_get pool.pending place ≡ None → slice_get items place ≡ None
      past n = unmapped read items place (ap (λ (l : List (List ℕ)). slice_get l place) named ∙ none-mapped name_of pool.pending place n)

      beyond : (xs : List X) (k : ℕ) → slice_get xs k ≡ None → is_spare (map (λ x. told (matched_named (read x) pool)) xs) k ≡ true → ⊥
      beyond [] k n t = let never : false ≡ true = t in cc
      beyond (x ∷ xs) zero n t = cc
      beyond (x ∷ xs) (suc k) n t = beyond xs k n t

  module _ (first : List Bool) (asked : first ≡ map (λ x. list_any (bytes_eq (read x)) names) items) (edges : List Edge) (all : edges ≡ edges_of pool.pending) where
    asked-In : (xs : List (List ℕ)) (name : List ℕ) → list_any (bytes_eq name) xs ≡ true → In name xs
    asked-In [] name h = cc
    asked-In (x ∷ xs) name h = by_bool (bytes_eq name x) (In name (x ∷ xs)) (λ t. inl ((bytes_eq-Decides name x).0 t)) (λ f. inr (asked-In xs name (rw f at h)))

    In-asked : (xs : List (List ℕ)) (name : List ℕ) → In name xs → list_any (bytes_eq name) xs ≡ true
    In-asked [] name k = absurd k
    In-asked (x ∷ xs) name (inl e) = rw ((bytes_eq-Decides name x).1 e) refl
    In-asked (x ∷ xs) name (inr k) = by_bool (bytes_eq name x) (list_any (bytes_eq name) (x ∷ xs) ≡ true) (λ t. rw t refl) (λ f. rw f (In-asked xs name k))

    first-at : (place : ℕ) (posted : PendingQuery) → slice_get pool.pending place ≡ Some posted → is_set first place ≡ list_any (bytes_eq posted.name) names
    first-at place posted here =
        let x = item-at place posted here in
        ap (λ (l : List Bool). is_set l place) asked
        ∙ get_or_from_slice_get (map (λ x. list_any (bytes_eq (read x)) names) items) place (list_any (bytes_eq (read x.0)) names) false (at-mapped (λ x. list_any (bytes_eq (read x)) names) items place x.0 x.1)
        ∙ ap (λ (n : List ℕ). list_any (bytes_eq n) names) x.2

    -- who is reached is concerned
    reached-concerned : (place : ℕ) → IsReached edges matched first place → IsConcerned pool names place
    reached-concerned place (First n m f) =
        let is = flags-only n m in
        let s = matched-stands pool n is in
        Asked n s.posted.name (sym (name_at-names pool.pending n) ∙ at-mapped name_of pool.pending n s.posted s.here)
        (Contains-In names s.posted.name (asked-In names s.posted.name (sym (first-at n s.posted s.here) ∙ f))) is
    reached-concerned place (Providing edge among m behind) =
        Serving edge (subst (λ (l : List Edge). Contains l edge) all among) (reached-concerned edge.waiter behind) (flags-only edge.provider m)

    -- who is concerned is reached
    concerned-reached : (place : ℕ) → IsConcerned pool names place → IsReached edges matched first place
    concerned-reached place (Asked n name here among m) =
        let s = matched-stands pool n m in
        let own : name ≡ s.posted.name = same_Some name s.posted.name (sym here ∙ sym (name_at-names pool.pending n) ∙ at-mapped name_of pool.pending n s.posted s.here) in
        First n (flags-are n m) (first-at n s.posted s.here ∙ In-asked names s.posted.name (subst (λ (x : List ℕ). In x names) own (In-Contains names name among)))
    concerned-reached place (Serving edge among concerned m) =
        Providing edge (subst (λ (l : List Edge). Contains l edge) (sym all) among) (flags-are edge.provider m) (concerned-reached edge.waiter concerned)

    spare-not : (flags : List Bool) (place : ℕ) → place < length flags → is_spare (map not flags) place ≡ not (is_set flags place)
    spare-not [] place low = absurd (omega (arith, low))
    spare-not (flag ∷ flags) zero low = refl
    spare-not (flag ∷ flags) (suc place) low = spare-not flags place (omega (arith, low))

    pub exact-read : (reached idle : List Bool) → length reached ≡ length matched → idle ≡ map not reached → ((n : ℕ) → (is_set reached n ≡ true) ↔ IsReached edges matched first n)
        → All (λ x. IfKnown (query_named (read x) pool.pending)) items → IsExact pool names idle
    exact-read reached idle long are exact known = record {
      taken = λ p m f.
          let told : not (is_set reached p) ≡ false = sym (spare-at p (flags-are p m)) ∙ f in
          reached-concerned p ((exact p).0 (by_bool (is_set reached p) (is_set reached p ≡ true) (λ t. t) (λ n. absurd (let never : true ≡ false = rw n at told in cc))));
      concerned = λ p c.
          let is = concerned-reached p c in
          spare-at p (flags-are p (concerned-matched pool names p c)) ∙ ap not ((exact p).1 is);
      known = All-In (λ (p : PendingQuery). IsKnown p.query) pool.pending
          (λ p h. let at = at-In pool.pending p h in
          let x = item-at at.0 p at.1 in
          subst IfKnown (ap (λ (n : List ℕ). query_named n pool.pending) x.2 ∙ query_at pool good at.0 p at.1) (In-All (λ (y : X). IfKnown (query_named (read y) pool.pending)) items known x.0 (In-at items at.0 x.0 x.1)));
    }
      where
        spare-at : (p : ℕ) → is_spare matched p ≡ true → is_spare idle p ≡ not (is_set reached p)
        spare-at p flag = let low = spare-low matched p flag in ap (λ (l : List Bool). is_spare l p) are ∙ spare-not reached p (omega (arith, low, long))
