-- The edges of a graph of residents, gathered place by place from those that leave each.
use Rattle.std.proofs.Common.{◌≡◌, ℕ, inl, inr, Bool, true, false, not, List, [], ◌∷◌, ◌++◌, map, refl, sym, ap, subst, ◌∙◌}
use Rattle.std.specs.Prelude.{filter, nat_eq}
use Rattle.std.specs.List.{All, Contains, IsDistinct, flat_map, list_any}
use Rattle.std.specs.List.Sorted.{IsPermutation}
use Rattle.std.specs.Set.{is_member}
use Rattle.std.proofs.lemmas.Bool.{eqb-true, eq-eqb, not-true}
use Rattle.std.proofs.lemmas.Bool.Decides.{Decides-eqb}
use Rattle.std.proofs.lemmas.List.Sorted.{IsPermutation-refl, IsPermutation-trans, IsPermutation-map, IsPermutation-filter_both, IsPermutation-append_right}
use Rattle.cq_atom.specs.declared.edge.Edge.{Edge}
use Rattle.cq_match.specs.Matcher.{leaves}
use Rattle.cq_board.specs.Steps.Residents.{Resident, places_of, edges_among, IsGraphOf}
use Rattle.cq_board.proofs.Members.{by_bool, In, any_gives, any_has, In-map}
use Rattle.cq_board.proofs.Ends.{In-filter_among}
use Rattle.cq_board.proofs.Among.{Contains-In, In-Contains, All-In, In-All}
use Rattle.cq_board.proofs.Graphs.{any-same}
use Rattle.cq_board.proofs.Pairwise.{Pairwise, Differ, distinct-differ}
use Rattle.cq_board.proofs.Placed.{flat_map-same}
use Rattle.cq_board.proofs.Positions.{map-flat_map}
use Rattle.cq_board.proofs.Touching.{between_gives}

-- ---- place by place

filter-within : {X : Type 0} (p q : X → Bool) → ((x : X) → p x ≡ true → q x ≡ true) → (xs : List X) → filter p (filter q xs) ≡ filter p xs
filter-within p q more [] = refl
filter-within p q more (x ∷ xs) =
    let rest = filter-within p q more xs in
    by_bool (p x) (filter p (filter q (x ∷ xs)) ≡ filter p (x ∷ xs))
    (λ t. let both : q x ≡ true = more x t in rw (both, t) (ap (λ ys. x ∷ ys) rest))
    (λ f. by_bool (q x) (filter p (filter q (x ∷ xs)) ≡ filter p (x ∷ xs)) (λ t. rw (t, f) rest) (λ g. rw (g, f) rest))

gathered : (places : List ℕ) → Pairwise Differ places → (edges : List Edge) → ((e : Edge) → In e edges → In e.provider places) → IsPermutation edges (flat_map (λ p. filter (leaves p) edges) places)
gathered [] apart [] known = IsPermutation-refl []
gathered [] apart (e ∷ edges) known = absurd (known e (inl refl))
gathered (p ∷ places) apart edges known =
    let others = filter (λ e. not (leaves p e)) edges in
    let split = IsPermutation-filter_both (leaves p) (λ e. not (leaves p e)) (λ e. refl) edges in
    let rest = gathered places apart.1 others (λ e m. elsewhere e m (known e (In-filter_among (λ x. not (leaves p x)) edges e m))) in
    let same : flat_map (λ q. filter (leaves q) others) places ≡ flat_map (λ q. filter (leaves q) edges) places =
    flat_map-same (λ q. filter (leaves q) others) (λ q. filter (leaves q) edges) places (λ q m. filter-within (leaves q) (λ e. not (leaves p e)) (λ e t. other q e (apart.0 q m) t) edges) in
    subst (λ (es : List Edge). IsPermutation edges (filter (leaves p) edges ++ es)) same
    (IsPermutation-trans edges (filter (leaves p) edges ++ others) (filter (leaves p) edges ++ flat_map (λ q. filter (leaves q) others) places) split
    (IsPermutation-append_right (filter (leaves p) edges) others (flat_map (λ q. filter (leaves q) others) places) rest))
  where
    other : (q : ℕ) (e : Edge) → Differ p q → leaves q e ≡ true → not (leaves p e) ≡ true
    other q e differ t =
        by_bool (leaves p e) (not (leaves p e) ≡ true)
        (λ u. absurd (differ (sym (eqb-true e.provider p u) ∙ eqb-true e.provider q t))) (λ f. rw f refl)

    elsewhere : (e : Edge) → In e (filter (λ x. not (leaves p x)) edges) → In e.provider (p ∷ places) → In e.provider places
    elsewhere e m (inl is) =
        let stays = kept edges e m in
        absurd (let t = eq-eqb e.provider p is in let f = not-true (leaves p e) stays in let never : true ≡ false = sym t ∙ f in cc)
      where
        kept : (es : List Edge) (x : Edge) → In x (filter (λ y. not (leaves p y)) es) → not (leaves p x) ≡ true
        kept [] x h = absurd h
        kept (y ∷ es) x h =
            by_bool (not (leaves p y)) (not (leaves p x) ≡ true)
            (λ k. elim (rw k at h) as (λ _. not (leaves p x) ≡ true) [ inl s ↦ ap (λ (z : Edge). not (leaves p z)) s ∙ k | inr l ↦ kept es x l ])
            (λ k. kept es x (rw k at h))
    elsewhere e m (inr h) = h

map-itself : (xs : List ℕ) → map (λ x. x) xs ≡ xs
map-itself [] = refl
map-itself (x ∷ xs) = ap (λ ys. x ∷ ys) (map-itself xs)

module _ {Y : Type 0} (g : Edge → Y) (places : List ℕ) (distinct : IsDistinct nat_eq places) (edges : List Edge) (known : All (λ (e : Edge). Contains places e.provider) edges) where
  -- The edges are those that leave each place, one place after another.
  pub leaving-permuted : IsPermutation (map g edges) (flat_map (λ p. map g (filter (leaves p) edges)) places)
  leaving-permuted =
      let apart = distinct-differ nat_eq Decides-eqb (λ (n : ℕ). n) places (subst (IsDistinct nat_eq) (sym (map-itself places)) distinct) in
      let all = gathered places apart edges (λ e m. In-Contains places e.provider (In-All (λ (x : Edge). Contains places x.provider) edges known e m)) in
      subst (IsPermutation (map g edges)) (map-flat_map g (λ p. filter (leaves p) edges) (λ p. map g (filter (leaves p) edges)) (λ p. refl) places)
      (IsPermutation-map g edges (flat_map (λ p. filter (leaves p) edges) places) all)

-- ---- a loop that gathers lists in any order

-- ---- the ends of edges

module _ (able : Resident → Bool) (residents : List Resident) (nodes : List (ℕ × ℕ × Bool)) (edges : List Edge) (graph : IsGraphOf able residents nodes edges) where
  -- what is true of each edge among the residents is true of each edge of the graph
  each-edge : (test : Edge → Bool) → ((e : Edge) → In e (edges_among residents) → test e ≡ true) → (e : Edge) → In e edges → test e ≡ true
  each-edge test each e m =
      by_bool (test e) (test e ≡ true) (λ t. t)
      (λ f.
      let none = λ (x : Edge). not (test x) in
      let some : list_any none edges ≡ true = any_has none edges e m (ap not f) in
      let among = any_gives none (edges_among residents) (sym (any-same none edges (edges_among residents) (graph.same_edges none)) ∙ some) in
      absurd (let fails = not-true (test among.0) among.2 in let never : true ≡ false = sym (each among.0 among.1) ∙ fails in cc))

  member-In : (n : ℕ) → is_member nat_eq (places_of residents) n ≡ true → Contains (places_of residents) n
  member-In n t =
      let found = any_gives (nat_eq n) (places_of residents) t in
      Contains-In (places_of residents) n (subst (λ (m : ℕ). In m (places_of residents)) (sym (eqb-true n found.0 found.2)) found.1)

  member-has : (n : ℕ) → In n (places_of residents) → is_member nat_eq (places_of residents) n ≡ true
  member-has n m = any_has (nat_eq n) (places_of residents) n m (eq-eqb n n refl)

  -- Both ends of an edge are residents' places.
  pub graph_provider_known : All (λ (e : Edge). Contains (places_of residents) e.provider) edges
  graph_provider_known =
      All-In (λ (e : Edge). Contains (places_of residents) e.provider) edges
      (λ e m. member-In e.provider (each-edge (λ x. is_member nat_eq (places_of residents) x.provider)
      (λ x h. let found = between_gives residents residents x h in
      member-has x.provider (subst (λ (n : ℕ). In n (places_of residents)) (sym found.4.comes_from) (In-map (λ (r : Resident). r.0) residents found.0 found.2))) e m))
