-- Edges that are found by the atoms at places are those that touch a resident.
use Rattle.std.proofs.Common.{◌≡◌, ◌≢◌, ◌↔◌, ℕ, ◌+◌, ◌<◌, ◌⊎◌, inl, inr, Bool, true, false, not, ltb, List, [], ◌∷◌, ◌++◌, length, map, count_by, refl, sym, ap, subst, ◌∙◌, Option, Some, None, if◌then◌else◌}
use Rattle.std.specs.Prelude.{filter, nat_eq, option_map}
use Rattle.std.specs.List.{All, Any, AllPairs, Contains, IsDistinct, slice_get}
use Rattle.std.specs.FinMap.{FinMap, get, insert, remove, get-insert, get-remove}
use Rattle.std.specs.Map.{lookup}
use Rattle.std.specs.Option.{option_map_or}
use Rattle.std.specs.Ordering.{nat_cmp, eq_by_cmp, is_eq}
use Rattle.std.specs.Set.{is_member}
use Rattle.std.proofs.lemmas.Bool.{eqb-true, eq-eqb}
use Rattle.std.proofs.lemmas.Cmp.{nat_eq_equiv, nat_cmp_total, tied_itself}
use Rattle.std.proofs.lemmas.Map.Entries.{lookup_from_place}
use Rattle.cq_atom.specs.Atom.{AtomRecord}
use Rattle.cq_atom.specs.declared.edge.Edge.{Edge}
use Rattle.cq_match.specs.Matched.{numbers}
use Rattle.cq_match.specs.Matcher.{without, with_number, is_apart}
use Rattle.cq_board.specs.Pool.{PendingQuery}
use Rattle.cq_board.specs.Steps.Residents.{Resident, Supplies, IsLinked, places_of, all_but, heads_in, posts_in, IsGraphOf}
use Rattle.cq_board.proofs.Members.{by_bool, In, In-left, In-right, In-append, any_gives, any_has, In-map}
use Rattle.cq_board.proofs.Among.{Contains-In, In-Contains, In-slice_get}
use Rattle.cq_board.proofs.Pairwise.{Differ}
use Rattle.cq_board.proofs.Searches.{unifies_tells}
use Rattle.cq_board.proofs.Sorted.{pairwise-at}
use Rattle.cq_board.proofs.Touching.{Touches}
use Rattle.cq_board.proofs.Upkeep.{added_ends, added_touch, graph_added, graph_has, places_posted}

-- ---- what stands in a place

module _ {X : Type 0} where
  lookup-In : (es : List (ℕ × X)) (p : ℕ) (x : X) → lookup (nat_eq p) es ≡ Some x → In (p, x) es
  lookup-In [] p x e = cc
  lookup-In (y ∷ es) p x e =
      by_bool (nat_eq p y.0) (In (p, x) (y ∷ es))
      (λ t. let found : Some y.1 ≡ Some x = rw t at e in let same : x ≡ y.1 = cc in let at : p ≡ y.0 = eqb-true p y.0 t in inl (λ i. (at i, same i)))
      (λ f. inr (lookup-In es p x (rw f at e)))

  pub In-lookup : (es : List (ℕ × X)) → IsDistinct nat_eq (map (λ e. e.0) es) → (y : ℕ × X) → In y es → lookup (nat_eq y.0) es ≡ Some y.1
  In-lookup es distinct y m = let found = In-slice_get es y m in lookup_from_place nat_eq_equiv es found.0 y.0 y.1 distinct found.1

  pub lookup-free : (es : List (ℕ × X)) (p : ℕ) → is_member nat_eq (map (λ e. e.0) es) p ≡ false → lookup (nat_eq p) es ≡ None
  lookup-free [] p none = refl
  lookup-free (y ∷ es) p none =
      by_bool (nat_eq p y.0) (lookup (nat_eq p) (y ∷ es) ≡ None)
      (λ t. let never : true ≡ false = rw t at none in cc)
      (λ f. rw f (lookup-free es p (rw f at none)))

  -- one more comes at the end, in a free place
  pub lookup-posted : (es : List (ℕ × X)) (y : ℕ × X) → is_member nat_eq (map (λ e. e.0) es) y.0 ≡ false → (p : ℕ) → lookup (nat_eq p) (es ++ y ∷ []) ≡ (if nat_eq p y.0 then Some y.1 else lookup (nat_eq p) es)
  lookup-posted [] y none p = refl
  lookup-posted (z ∷ es) y none p =
      by_bool (nat_eq y.0 z.0) (lookup (nat_eq p) (z ∷ (es ++ y ∷ [])) ≡ (if nat_eq p y.0 then Some y.1 else lookup (nat_eq p) (z ∷ es)))
      (λ t. absurd (let never : true ≡ false = rw t at none in cc))
      (λ apart.
      let rest = lookup-posted es y (rw apart at none) p in
      by_bool (nat_eq p z.0) (lookup (nat_eq p) (z ∷ (es ++ y ∷ [])) ≡ (if nat_eq p y.0 then Some y.1 else lookup (nat_eq p) (z ∷ es)))
      (λ t.
      let other : nat_eq p y.0 ≡ false = by_bool (nat_eq p y.0) (nat_eq p y.0 ≡ false)
      (λ u. let same : nat_eq y.0 z.0 ≡ true = eq-eqb y.0 z.0 (sym (eqb-true p y.0 u) ∙ eqb-true p z.0 t) in let never : true ≡ false = sym same ∙ apart in cc) (λ g. g) in
      rw (t, other) refl)
      (λ f. rw f rest))

  -- one goes
  pub lookup-withdrawn : (es : List (ℕ × X)) (n p : ℕ) → lookup (nat_eq p) (filter (λ e. not (nat_eq e.0 n)) es) ≡ (if nat_eq p n then None else lookup (nat_eq p) es)
  lookup-withdrawn [] n p = by_bool (nat_eq p n) (lookup (nat_eq p) [] ≡ (if nat_eq p n then None else lookup (nat_eq p) [])) (λ t. rw t refl) (λ f. rw f refl)
  lookup-withdrawn (y ∷ es) n p =
      let rest = lookup-withdrawn es n p in
      by_bool (nat_eq y.0 n) (lookup (nat_eq p) (filter (λ e. not (nat_eq e.0 n)) (y ∷ es)) ≡ (if nat_eq p n then None else lookup (nat_eq p) (y ∷ es)))
      (λ t.
      by_bool (nat_eq p n) (lookup (nat_eq p) (filter (λ e. not (nat_eq e.0 n)) (y ∷ es)) ≡ (if nat_eq p n then None else lookup (nat_eq p) (y ∷ es)))
      (λ u. rw (t, u) (rest ∙ rw u refl))
      (λ f.
      let other : nat_eq p y.0 ≡ false = by_bool (nat_eq p y.0) (nat_eq p y.0 ≡ false)
      (λ u. let same : nat_eq p n ≡ true = eq-eqb p n (eqb-true p y.0 u ∙ eqb-true y.0 n t) in let never : true ≡ false = sym same ∙ f in cc) (λ g. g) in
      rw (t, f, other) (rest ∙ rw f refl)))
      (λ apart.
      by_bool (nat_eq p y.0) (lookup (nat_eq p) (filter (λ e. not (nat_eq e.0 n)) (y ∷ es)) ≡ (if nat_eq p n then None else lookup (nat_eq p) (y ∷ es)))
      (λ u.
      let other : nat_eq p n ≡ false = by_bool (nat_eq p n) (nat_eq p n ≡ false)
      (λ v. let same : nat_eq y.0 n ≡ true = eq-eqb y.0 n (sym (eqb-true p y.0 u) ∙ eqb-true p n v) in let never : true ≡ false = sym same ∙ apart in cc) (λ g. g) in
      rw (apart, u, other) refl)
      (λ f. rw (apart, f) rest))

-- ---- a finite map by places

pub tie-eq : (p n : ℕ) → eq_by_cmp nat_cmp p n ≡ nat_eq p n
tie-eq p n =
    by_bool (nat_eq p n) (eq_by_cmp nat_cmp p n ≡ nat_eq p n)
    (λ t. ap is_eq (ap (nat_cmp p) (sym (eqb-true p n t)) ∙ tied_itself nat_cmp_total p) ∙ sym t)
    (λ f. by_bool (ltb p n) (eq_by_cmp nat_cmp p n ≡ nat_eq p n) (λ l. rw (l, f) refl) (λ l. rw (l, f) refl))

map-choice : {X Y : Type 0} (g : X → Y) (b : Bool) (x y : Option X) → option_map g (if b then x else y) ≡ (if b then option_map g x else option_map g y)
map-choice g true x y = refl
map-choice g false x y = refl

module _ {E : Type 0} (g : PendingQuery → E) (m : FinMap nat_cmp E) (residents : List Resident) (same : (p : ℕ) → get m p ≡ option_map g (lookup (nat_eq p) residents)) where
  -- A map by places keeps what it has of each resident, where one comes or goes.
  pub map_posted : (r : Resident) → is_member nat_eq (places_of residents) r.0 ≡ false → (p : ℕ) → get (insert m r.0 (g r.1)) p ≡ option_map g (lookup (nat_eq p) (residents ++ r ∷ []))
  map_posted r none p =
      get-insert nat_cmp_total m r.0 (g r.1) p ∙ ap (λ (b : Bool). if b then Some (g r.1) else get m p) (tie-eq p r.0)
      ∙ ap (λ (o : Option E). if nat_eq p r.0 then Some (g r.1) else o) (same p)
      ∙ sym (map-choice g (nat_eq p r.0) (Some r.1) (lookup (nat_eq p) residents))
      ∙ ap (option_map g) (sym (lookup-posted residents r none p))

  pub map_withdrawn : (n p : ℕ) → get (remove m n) p ≡ option_map g (lookup (nat_eq p) (all_but n residents))
  map_withdrawn n p =
      get-remove nat_cmp_total m n p ∙ ap (λ (b : Bool). if b then None else get m p) (tie-eq p n)
      ∙ ap (λ (o : Option E). if nat_eq p n then None else o) (same p)
      ∙ sym (map-choice g (nat_eq p n) None (lookup (nat_eq p) residents))
      ∙ ap (option_map g) (sym (lookup-withdrawn residents n p))

  -- a place is free where the map has nothing
  pub map_free : (p : ℕ) → get m p ≡ None → is_member nat_eq (places_of residents) p ≡ false
  map_free p none =
      by_bool (is_member nat_eq (places_of residents) p) (is_member nat_eq (places_of residents) p ≡ false)
      (λ t.
      let found = any_gives (nat_eq p) (places_of residents) t in
      absurd (there residents (subst (λ (k : ℕ). In k (places_of residents)) (sym (eqb-true p found.0 found.2)) found.1) (sym (same p) ∙ none)))
      (λ f. f)
    where
      there : (rs : List Resident) → In p (places_of rs) → option_map g (lookup (nat_eq p) rs) ≡ None → ⊥
      there [] m e = m
      there (x ∷ rs) (inl s) e = let t : nat_eq p x.0 ≡ true = eq-eqb p x.0 s in let some : Some (g x.1) ≡ None = rw t at e in cc
      there (x ∷ rs) (inr m) e =
          by_bool (nat_eq p x.0) ⊥ (λ t. let some : Some (g x.1) ≡ None = rw t at e in cc) (λ f. there rs m (rw f at e))

-- ---- what is found by atoms

module _ (residents : List Resident) (r : Resident) (distinct : IsDistinct nat_eq (places_of residents)) (none : is_member nat_eq (places_of residents) r.0 ≡ false)
    (heads posts : ℕ → List AtomRecord) (same_heads : (p : ℕ) → heads p ≡ heads_in (residents ++ r ∷ []) p) (same_posts : (p : ℕ) → posts p ≡ posts_in (residents ++ r ∷ []) p) (e : Edge) where
  abbrev all : List Resident
  all = residents ++ r ∷ []

  all-distinct : IsDistinct nat_eq (places_of all)
  all-distinct = places_posted residents r distinct none

  free : (x : Resident) → In x residents → x.0 ≡ r.0 → ⊥
  free x m same =
      let there = any_has (nat_eq r.0) (places_of residents) x.0 (In-map (λ (y : Resident). y.0) residents x m) (eq-eqb r.0 x.0 (sym same)) in
      let never : true ≡ false = sym there ∙ none in cc

  -- a resident of which an atom was found
  by_atom : (part : PendingQuery → List AtomRecord) (p k : ℕ) (a : AtomRecord) → slice_get (option_map_or part (lookup (nat_eq p) all) []) k ≡ Some a
      → (q : PendingQuery) × In (p, q) all × (slice_get (part q) k ≡ Some a)
  by_atom part p k a at = by_option (lookup (nat_eq p) all) refl at
    where
      by_option : (o : Option PendingQuery) → lookup (nat_eq p) all ≡ o → slice_get (option_map_or part o []) k ≡ Some a → (q : PendingQuery) × In (p, q) all × (slice_get (part q) k ≡ Some a)
      by_option None found h = cc
      by_option (Some q) found h = (q, lookup-In all p q found, h)

  old-or-new : (x : Resident) → In x all → In x residents ⊎ (x ≡ r)
  old-or-new x m = elim (In-append x residents (r ∷ []) m) [ inl k ↦ inl k | inr k ↦ elim k [ inl s ↦ inr s | inr never ↦ absurd never ] ]

  pub linked-touches : IsLinked heads posts e → (e.provider ≡ r.0) ⊎ (e.waiter ≡ r.0) → Touches residents r e
  linked-touches linked touch =
      let provider = by_atom (λ q. q.query.heads) e.provider e.head linked.offered (ap (λ (atoms : List AtomRecord). slice_get atoms e.head) (sym (same_heads e.provider)) ∙ linked.head) in
      let waiter = by_atom (λ q. q.query.posts) e.waiter e.post linked.wanted (ap (λ (atoms : List AtomRecord). slice_get atoms e.post) (sym (same_posts e.waiter)) ∙ linked.post) in
      let p : Resident = (e.provider, provider.0) in
      let w : Resident = (e.waiter, waiter.0) in
      let supplies : Supplies p w e = record {
        offered = linked.offered;
        wanted = linked.wanted;
        comes_from = refl;
        leads_to = refl;
        head = provider.2;
        post = waiter.2;
        unify = (unifies_tells linked.offered linked.wanted).1 linked.unify;
      } in
      elim (old-or-new p provider.1) [
        | inl old ↦
            elim (old-or-new w waiter.1) [
              | inl also ↦ absurd (elim touch [ inl s ↦ free p old s | inr s ↦ free w also s ])
              | inr new ↦ inl (p, old, subst (λ (x : Resident). Supplies p x e) new supplies)
            ]
        | inr new ↦
            elim (old-or-new w waiter.1) [
              | inl old ↦ inr (inl (w, old, subst (λ (x : Resident). Supplies x w e) new supplies))
              | inr also ↦ inr (inr (subst (λ (x : Resident). Supplies x r e) new (subst (λ (x : Resident). Supplies p x e) also supplies)))
            ]
      ]

  linked : (p w : Resident) → In p all → In w all → Supplies p w e → IsLinked heads posts e
  linked p w m n s =
      let provider : heads e.provider ≡ p.1.query.heads =
      same_heads e.provider ∙ ap (heads_in all) s.comes_from ∙ ap (λ (o : Option PendingQuery). option_map_or (λ q. q.query.heads) o []) (In-lookup all all-distinct p m) in
      let waiter : posts e.waiter ≡ w.1.query.posts =
      same_posts e.waiter ∙ ap (posts_in all) s.leads_to ∙ ap (λ (o : Option PendingQuery). option_map_or (λ q. q.query.posts) o []) (In-lookup all all-distinct w n) in
      record {
        offered = s.offered;
        wanted = s.wanted;
        head = ap (λ (atoms : List AtomRecord). slice_get atoms e.head) provider ∙ s.head;
        post = ap (λ (atoms : List AtomRecord). slice_get atoms e.post) waiter ∙ s.post;
        unify = (unifies_tells s.offered s.wanted).0 s.unify;
      }

  new-In : In r all
  new-In = In-right r residents (r ∷ []) (inl refl)

  old-In : (x : Resident) → In x residents → In x all
  old-In x m = In-left x residents (r ∷ []) m

  pub touches-linked : Touches residents r e → IsLinked heads posts e × ((e.provider ≡ r.0) ⊎ (e.waiter ≡ r.0))
  touches-linked (inl h) = (linked h.0 r (old-In h.0 h.1) new-In h.2, inr h.2.leads_to)
  touches-linked (inr (inl h)) = (linked r h.0 new-In (old-In h.0 h.1) h.2, inl h.2.comes_from)
  touches-linked (inr (inr h)) = (linked r r new-In new-In h, inl h.comes_from)

module _ (able : Resident → Bool) (residents : List Resident) (nodes : List (ℕ × ℕ × Bool)) (edges : List Edge) (graph : IsGraphOf able residents nodes edges)
    (r : Resident) (distinct : IsDistinct nat_eq (places_of residents)) (none : is_member nat_eq (numbers nodes) r.0 ≡ false)
    (heads posts : ℕ → List AtomRecord) (same_heads : (p : ℕ) → heads p ≡ heads_in (residents ++ r ∷ []) p) (same_posts : (p : ℕ) → posts p ≡ posts_in (residents ++ r ∷ []) p)
    (added : List Edge) (exact : (e : Edge) → Contains added e ↔ (IsLinked heads posts e × ((e.provider ≡ r.0) ⊎ (e.waiter ≡ r.0)))) where
  no-resident : is_member nat_eq (places_of residents) r.0 ≡ false
  no-resident = sym (graph_has able residents nodes edges graph r.0) ∙ none

  found-touches : (e : Edge) → In e added → Touches residents r e
  found-touches e m =
      let h = (exact e).0 (Contains-In added e m) in
      linked-touches residents r distinct no-resident heads posts same_heads same_posts e h.0 h.1

  touches-found : (e : Edge) → Touches residents r e → In e added
  touches-found e t = In-Contains added e ((exact e).1 (touches-linked residents r distinct no-resident heads posts same_heads same_posts e t))

  -- The edges that were found by atoms have their ends among the nodes with the one that comes, and touch it.
  pub linked_ends : All (λ (edge : Edge). Contains (numbers ((r.0, length r.1.query.posts, able r) ∷ nodes)) edge.provider × Any (λ (node : ℕ × ℕ × Bool). (node.0 ≡ edge.waiter) × (edge.post < node.1)) ((r.0, length r.1.query.posts, able r) ∷ nodes)) added
  linked_ends = added_ends able residents nodes edges graph r added found-touches

  pub linked_touch : All (λ (edge : Edge). is_apart r.0 edge ≡ false) added
  linked_touch = added_touch residents r added found-touches

  -- With them, each once, the graph is that of the residents with the one that comes.
  pub graph_linked : AllPairs (λ a b. a ≢ b) added → (nodes' : List (ℕ × ℕ × Bool)) (edges' : List Edge) → with_number r.0 nodes' ≡ (r.0, length r.1.query.posts, able r) ∷ [] → without r.0 nodes' ≡ nodes
      → ((test : Edge → Bool) → count_by test edges' ≡ count_by test edges + count_by test added) → IsGraphOf able (residents ++ r ∷ []) nodes' edges'
  graph_linked once nodes' edges' new old more =
      graph_added able residents nodes edges graph r distinct none nodes' edges' added new old more (pairwise-at Differ added once) found-touches touches-found
