-- The graph of residents is kept: while a resident comes or goes, and while a node becomes able or ceases to be so.
use Rattle.std.proofs.Common.{◌≡◌, ◌↔◌, ℕ, ◌+◌, ◌<◌, inl, inr, Bool, true, false, not, ◌&&◌, eqb, if◌then◌else◌, List, [], ◌∷◌, ◌++◌, length, map, count_by, refl, sym, ap, subst, ◌∙◌, arith, eq-eqb}
use Rattle.std.specs.Prelude.{filter, nat_eq}
use Rattle.std.specs.List.{All, Any, AllByRecursion, Contains, IsDistinct}
use Rattle.std.specs.Set.{is_member}
use Rattle.std.proofs.lemmas.Bool.{eqb-true}
use Rattle.std.proofs.lemmas.Bool.Decides.{Decides-eqb}
use Rattle.std.proofs.lemmas.Cmp.{nat_eq_equiv}
use Rattle.std.proofs.lemmas.List.{map-append}
use Rattle.std.proofs.lemmas.Map.Keys.{IsDistinct-push}
use Rattle.std.proofs.lemmas.Option.{slice_get_within}
use Rattle.cq_atom.specs.declared.edge.Edge.{Edge}
use Rattle.cq_match.specs.Matched.{numbers}
use Rattle.cq_match.specs.Matcher.{without, with_number, is_apart}
use Rattle.cq_board.specs.Steps.Flags.{with_flags}
use Rattle.cq_board.specs.Steps.Residents.{Resident, Supplies, places_of, queries_of, all_but, edges_among, edges_touching, nodes_among, IsGraphOf}
use Rattle.cq_board.proofs.Members.{by_bool, In, In-left, In-right, In-append, any_gives, any_has, In-map, In-map_gives, In-filter, In-filter_gives}
use Rattle.cq_board.proofs.Ends.{In-filter_among}
use Rattle.cq_board.proofs.Among.{Contains-In, In-Contains, All-In, Any-In}
use Rattle.cq_board.proofs.Residents.{edges_withdrawn, edges_posted}
use Rattle.cq_board.proofs.Pairwise.{Pairwise, Differ, distinct-differ}
use Rattle.cq_board.proofs.Touching.{Touches, touching_counted}
use Rattle.cq_board.proofs.Graphs.{one_if, count-cons, numbers_among}

-- ---- lists with the same members

module _ {X : Type 0} where
  abbrev SameMembers : List X → List X → Type 0
  SameMembers xs ys = (x : X) → Contains xs x ↔ Contains ys x

  same-from_In : (xs ys : List X) → ((x : X) → In x xs → In x ys) → ((x : X) → In x ys → In x xs) → SameMembers xs ys
  same-from_In xs ys there back x = (λ h. Contains-In ys x (there x (In-Contains xs x h)), λ h. Contains-In xs x (back x (In-Contains ys x h)))

  same-In : (xs ys : List X) → SameMembers xs ys → (x : X) → In x xs → In x ys
  same-In xs ys same x h = In-Contains ys x ((same x).0 (Contains-In xs x h))

  same-In_back : (xs ys : List X) → SameMembers xs ys → (x : X) → In x ys → In x xs
  same-In_back xs ys same x h = In-Contains xs x ((same x).1 (Contains-In ys x h))

  same-filter : (p : X → Bool) (xs ys : List X) → SameMembers xs ys → SameMembers (filter p xs) (filter p ys)
  same-filter p xs ys same =
      same-from_In (filter p xs) (filter p ys)
      (λ x h. In-filter p ys x (same-In xs ys same x (In-filter_among p xs x h)) (In-filter_gives p xs x h))
      (λ x h. In-filter p xs x (same-In_back xs ys same x (In-filter_among p ys x h)) (In-filter_gives p ys x h))

same-map : {X Y : Type 0} (f : X → Y) (xs ys : List X) → SameMembers xs ys → SameMembers (map f xs) (map f ys)
same-map f xs ys same =
    same-from_In (map f xs) (map f ys)
    (λ y h. let found = In-map_gives f xs y h in subst (λ z. In z (map f ys)) (sym found.2) (In-map f ys found.0 (same-In xs ys same found.0 found.1)))
    (λ y h. let found = In-map_gives f ys y h in subst (λ z. In z (map f xs)) (sym found.2) (In-map f xs found.0 (same-In_back xs ys same found.0 found.1)))

pub filter-by_map : {X Y : Type 0} (f : X → Y) (p : X → Bool) (q : Y → Bool) (xs : List X) → ((x : X) → In x xs → p x ≡ q (f x)) → map f (filter p xs) ≡ filter q (map f xs)
filter-by_map f p q [] same = refl
filter-by_map f p q (x ∷ xs) same =
    let rest = filter-by_map f p q xs (λ y m. same y (inr m)) in
    by_bool (q (f x)) (map f (filter p (x ∷ xs)) ≡ filter q (map f (x ∷ xs)))
    (λ t. let here : p x ≡ true = same x (inl refl) ∙ t in rw (t, here) (ap (λ ys. f x ∷ ys) rest))
    (λ t. let here : p x ≡ false = same x (inl refl) ∙ t in rw (t, here) rest)

count-filter : (p test : Edge → Bool) (edges : List Edge) → count_by test (filter p edges) ≡ count_by (λ e. p e && test e) edges
count-filter p test [] = refl
count-filter p test (e ∷ edges) =
    let rest = count-filter p test edges in
    let all = count-cons (λ x. p x && test x) e edges in
    by_bool (p e) (count_by test (filter p (e ∷ edges)) ≡ count_by (λ x. p x && test x) (e ∷ edges))
    (λ t. let here : one_if (p e && test e) ≡ one_if (test e) = ap (λ (b : Bool). one_if (b && test e)) t in
    let first = count-cons test e (filter p edges) in
    let kept : count_by test (filter p (e ∷ edges)) ≡ count_by test (e ∷ filter p edges) = rw t refl in
    omega arith)
    (λ f. let here : one_if (p e && test e) ≡ 0 = ap (λ (b : Bool). one_if (b && test e)) f in
    let kept : count_by test (filter p (e ∷ edges)) ≡ count_by test (filter p edges) = rw f refl in
    omega arith)

-- ---- nodes

module _ (able : Resident → Bool) where
  abbrev node_of : Resident → ℕ × ℕ × Bool
  node_of r = (r.0, length r.1.query.posts, able r)

  nodes-without : (p : ℕ) (residents : List Resident) → nodes_among able (all_but p residents) ≡ without p (nodes_among able residents)
  nodes-without p residents = filter-by_map node_of (λ r. not (eqb r.0 p)) (λ node. not (eqb node.0 p)) residents (λ r m. refl)

  nodes-flagged : (test : ℕ → Bool) (b : Bool) (residents : List Resident) → with_flags test b (nodes_among able residents) ≡ nodes_among (λ r. if test r.0 then b else able r) residents
  nodes-flagged test b [] = refl
  nodes-flagged test b (r ∷ residents) = ap (λ (ns : List (ℕ × ℕ × Bool)). (r.0, length r.1.query.posts, if test r.0 then b else able r) ∷ ns) (nodes-flagged test b residents)

nodes-same : (able other : Resident → Bool) (residents : List Resident) → ((r : Resident) → In r residents → able r ≡ other r) → nodes_among able residents ≡ nodes_among other residents
nodes-same able other [] same = refl
nodes-same able other (r ∷ residents) same =
    ap (λ (b : Bool). (r.0, length r.1.query.posts, b) ∷ nodes_among able residents) (same r (inl refl))
    ∙ ap (λ (ns : List (ℕ × ℕ × Bool)). (r.0, length r.1.query.posts, other r) ∷ ns) (nodes-same able other residents (λ x m. same x (inr m)))

-- ---- the graph

-- No residents have no nodes and no edges.
pub graph_opening : (able : Resident → Bool) → IsGraphOf able [] [] []
graph_opening able = record { same_nodes = λ node. (λ h. h, λ h. h); same_edges = λ test. refl }

-- The nodes and edges among residents are their graph.
pub graph_itself : (able : Resident → Bool) (residents : List Resident) → IsGraphOf able residents (nodes_among able residents) (edges_among residents)
graph_itself able residents = record { same_nodes = λ node. (λ h. h, λ h. h); same_edges = λ test. refl }

-- Where the flags are the same, the graph is.
pub graph_reflagged : (able other : Resident → Bool) (residents : List Resident) (nodes : List (ℕ × ℕ × Bool)) (edges : List Edge) → ((r : Resident) → In r residents → able r ≡ other r)
    → IsGraphOf able residents nodes edges → IsGraphOf other residents nodes edges
graph_reflagged able other residents nodes edges same graph = record {
  same_nodes = subst (λ (ns : List (ℕ × ℕ × Bool)). SameMembers nodes ns) (nodes-same able other residents same) graph.same_nodes;
  same_edges = graph.same_edges;
}

module _ (able : Resident → Bool) (residents : List Resident) (nodes : List (ℕ × ℕ × Bool)) (edges : List Edge) (graph : IsGraphOf able residents nodes edges) where
  -- Nodes get a flag.
  pub graph_flagged : (test : ℕ → Bool) (b : Bool) → IsGraphOf (λ r. if test r.0 then b else able r) residents (with_flags test b nodes) edges
  graph_flagged test b = record {
    same_nodes = subst (λ (ns : List (ℕ × ℕ × Bool)). SameMembers (with_flags test b nodes) ns) (nodes-flagged able test b residents)
        (same-map (λ (node : ℕ × ℕ × Bool). (node.0, node.1, if test node.0 then b else node.2)) nodes (nodes_among able residents) graph.same_nodes);
    same_edges = graph.same_edges;
  }

  -- A resident goes.
  pub graph_withdrawn : (p : ℕ) → IsGraphOf able (all_but p residents) (without p nodes) (filter (is_apart p) edges)
  graph_withdrawn p = record {
    same_nodes = subst (λ (ns : List (ℕ × ℕ × Bool)). SameMembers (without p nodes) ns) (sym (nodes-without able p residents))
        (same-filter (λ (node : ℕ × ℕ × Bool). not (eqb node.0 p)) nodes (nodes_among able residents) graph.same_nodes);
    same_edges = λ test.
        count-filter (is_apart p) test edges ∙ graph.same_edges (λ e. is_apart p e && test e) ∙ sym (count-filter (is_apart p) test (edges_among residents))
        ∙ ap (count_by test) (edges_withdrawn p residents);
  }

  module _ (r : Resident) where
    -- A resident comes.
    pub graph_posted : (nodes' : List (ℕ × ℕ × Bool)) (edges' added : List Edge) → with_number r.0 nodes' ≡ (r.0, length r.1.query.posts, able r) ∷ [] → without r.0 nodes' ≡ nodes
        → ((test : Edge → Bool) → count_by test edges' ≡ count_by test edges + count_by test added) → ((test : Edge → Bool) → count_by test added ≡ count_by test (edges_touching residents r))
        → IsGraphOf able (residents ++ r ∷ []) nodes' edges'
    graph_posted nodes' edges' added new old more touching = record {
      same_nodes = subst (λ (ns : List (ℕ × ℕ × Bool)). SameMembers nodes' ns) (sym (map-append (node_of able) residents (r ∷ [])))
          (same-from_In nodes' (nodes_among able residents ++ node_of able r ∷ [])
          (λ node h. by_bool (eqb node.0 r.0) (In node (nodes_among able residents ++ node_of able r ∷ []))
          (λ t. In-right node (nodes_among able residents) (node_of able r ∷ []) (subst (In node) new (In-filter (λ (x : ℕ × ℕ × Bool). eqb x.0 r.0) nodes' node h t)))
          (λ f.
          let here : not (eqb node.0 r.0) ≡ true = ap not f in
          In-left node (nodes_among able residents) (node_of able r ∷ [])
          (same-In nodes (nodes_among able residents) graph.same_nodes node (subst (In node) old (In-filter (λ (x : ℕ × ℕ × Bool). not (eqb x.0 r.0)) nodes' node h here)))))
          (λ node h. elim (In-append node (nodes_among able residents) (node_of able r ∷ []) h) [
            | inl k ↦ In-filter_among (λ (x : ℕ × ℕ × Bool). not (eqb x.0 r.0)) nodes' node (subst (In node) (sym old) (same-In_back nodes (nodes_among able residents) graph.same_nodes node k))
            | inr k ↦ In-filter_among (λ (x : ℕ × ℕ × Bool). eqb x.0 r.0) nodes' node (subst (In node) (sym new) k)
          ]));
      same_edges = λ test.
          let all = more test in
          let come = touching test in
          let there = graph.same_edges test in
          let whole = edges_posted test residents r in
          omega arith;
    }

  -- A resident's node is in the graph.
  resident-node : (r : Resident) → In r residents → In (r.0, length r.1.query.posts, able r) nodes
  resident-node r m = same-In_back nodes (nodes_among able residents) graph.same_nodes (node_of able r) (In-map (node_of able) residents r m)

  -- The graph has a node exactly where a resident has that place.
  pub graph_has : (p : ℕ) → is_member nat_eq (numbers nodes) p ≡ is_member nat_eq (places_of residents) p
  graph_has p =
      let same : SameMembers (numbers nodes) (places_of residents) =
      subst (λ (ns : List ℕ). SameMembers (numbers nodes) ns) (numbers_among able residents) (same-map (λ (node : ℕ × ℕ × Bool). node.0) nodes (nodes_among able residents) graph.same_nodes) in
      by_bool (is_member nat_eq (places_of residents) p) (is_member nat_eq (numbers nodes) p ≡ is_member nat_eq (places_of residents) p)
      (λ t. any_has (nat_eq p) (numbers nodes) p (same-In_back (numbers nodes) (places_of residents) same p (member_In (places_of residents) t)) (eq-eqb p p refl) ∙ sym t)
      (λ f.
      by_bool (is_member nat_eq (numbers nodes) p) (is_member nat_eq (numbers nodes) p ≡ is_member nat_eq (places_of residents) p)
      (λ t.
      let there = any_has (nat_eq p) (places_of residents) p (same-In (numbers nodes) (places_of residents) same p (member_In (numbers nodes) t)) (eq-eqb p p refl) in
      absurd (let never : true ≡ false = sym there ∙ f in cc))
      (λ g. g ∙ sym f))
    where
      member_In : (ns : List ℕ) → is_member nat_eq ns p ≡ true → In p ns
      member_In ns t = let found = any_gives (nat_eq p) ns t in subst (λ (m : ℕ). In m ns) (sym (eqb-true p found.0 found.2)) found.1

  -- A place where the graph has no node is no resident's.
  pub graph_free : (p : ℕ) → is_member nat_eq (numbers nodes) p ≡ false → (r : Resident) → In r residents → Differ r.0 p
  graph_free p none r m e =
      let there = any_has (nat_eq p) (places_of residents) r.0 (In-map (λ (x : Resident). x.0) residents r m) (eq-eqb p r.0 (sym e)) in
      let never : true ≡ false = sym there ∙ sym (graph_has p) ∙ none in cc

  module _ (r : Resident) where
    abbrev with_node : List (ℕ × ℕ × Bool)
    with_node = (r.0, length r.1.query.posts, able r) ∷ nodes

    provider-known : (p w : Resident) (e : Edge) → In (node_of able p) with_node → Supplies p w e → Contains (numbers with_node) e.provider
    provider-known p w e m s =
        Contains-In (numbers with_node) e.provider
        (subst (λ (n : ℕ). In n (numbers with_node)) (sym s.comes_from) (In-map (λ (node : ℕ × ℕ × Bool). node.0) with_node (node_of able p) m))

    waiter-known : (p w : Resident) (e : Edge) → In (node_of able w) with_node → Supplies p w e → Any (λ (node : ℕ × ℕ × Bool). (node.0 ≡ e.waiter) × (e.post < node.1)) with_node
    waiter-known p w e m s =
        Any-In (λ (node : ℕ × ℕ × Bool). (node.0 ≡ e.waiter) × (e.post < node.1)) with_node (node_of able w) m (sym s.leads_to, slice_get_within w.1.query.posts e.post s.wanted s.post)

    abbrev Ends : Edge → Type 0
    Ends e = Contains (numbers with_node) e.provider × Any (λ (node : ℕ × ℕ × Bool). (node.0 ≡ e.waiter) × (e.post < node.1)) with_node

    ends : (p w : Resident) (e : Edge) → In (node_of able p) with_node → In (node_of able w) with_node → Supplies p w e → Ends e
    ends p w e m n s = (provider-known p w e m s, waiter-known p w e n s)

    touch_ends : (e : Edge) → Touches residents r e → Ends e
    touch_ends e (inl h) = ends h.0 r e (inr (resident-node h.0 h.1)) (inl refl) h.2
    touch_ends e (inr (inl h)) = ends r h.0 e (inl refl) (inr (resident-node h.0 h.1)) h.2
    touch_ends e (inr (inr h)) = ends r r e (inl refl) (inl refl) h

    -- The edges that touch what comes have their ends among the nodes with its own.
    pub added_ends : (added : List Edge) → ((e : Edge) → In e added → Touches residents r e)
        → All (λ (edge : Edge). Contains (numbers ((r.0, length r.1.query.posts, able r) ∷ nodes)) edge.provider × Any (λ (node : ℕ × ℕ × Bool). (node.0 ≡ edge.waiter) × (edge.post < node.1)) ((r.0, length r.1.query.posts, able r) ∷ nodes)) added
    added_ends added touches = All-In Ends added (λ e m. touch_ends e (touches e m))

    -- A resident comes in a free place, with exactly the edges that touch it, each once.
    pub graph_added : IsDistinct nat_eq (places_of residents) → is_member nat_eq (numbers nodes) r.0 ≡ false → (nodes' : List (ℕ × ℕ × Bool)) (edges' added : List Edge)
        → with_number r.0 nodes' ≡ (r.0, length r.1.query.posts, able r) ∷ [] → without r.0 nodes' ≡ nodes → ((test : Edge → Bool) → count_by test edges' ≡ count_by test edges + count_by test added)
        → Pairwise Differ added → ((e : Edge) → In e added → Touches residents r e) → ((e : Edge) → Touches residents r e → In e added)
        → IsGraphOf able (residents ++ r ∷ []) nodes' edges'
    graph_added distinct none nodes' edges' added new old more once touches all =
        graph_posted r nodes' edges' added new old more
        (touching_counted residents r (distinct-differ nat_eq Decides-eqb (λ (x : Resident). x.0) residents distinct) (graph_free r.0 none) added once touches all)

-- Edges that touch a resident are not apart from its place.
pub added_touch : (residents : List Resident) (r : Resident) (added : List Edge) → ((e : Edge) → In e added → Touches residents r e) → All (λ (edge : Edge). is_apart r.0 edge ≡ false) added
added_touch residents r added touches = All-In (λ (edge : Edge). is_apart r.0 edge ≡ false) added (λ e m. near e (touches e m))
  where
    from_it : (e : Edge) → e.provider ≡ r.0 → is_apart r.0 e ≡ false
    from_it e is = rw (eq-eqb e.provider r.0 is) refl

    to_it : (e : Edge) → e.waiter ≡ r.0 → is_apart r.0 e ≡ false
    to_it e is = by_bool (eqb e.provider r.0) (is_apart r.0 e ≡ false) (λ t. rw t refl) (λ f. rw (f, eq-eqb e.waiter r.0 is) refl)

    near : (e : Edge) → Touches residents r e → is_apart r.0 e ≡ false
    near e (inl h) = to_it e h.2.leads_to
    near e (inr (inl h)) = from_it e h.2.comes_from
    near e (inr (inr h)) = from_it e h.comes_from

-- ---- places and queries

-- Places stay distinct.
pub places_posted : (residents : List Resident) (r : Resident) → IsDistinct nat_eq (places_of residents) → is_member nat_eq (places_of residents) r.0 ≡ false → IsDistinct nat_eq (places_of (residents ++ r ∷ []))
places_posted residents r distinct none =
    subst (IsDistinct nat_eq) (sym (map-append (λ (x : Resident). x.0) residents (r ∷ []))) (IsDistinct-push nat_eq_equiv (places_of residents) r.0 distinct none)

pub places_withdrawn : (p : ℕ) (residents : List Resident) → IsDistinct nat_eq (places_of residents) → IsDistinct nat_eq (places_of (all_but p residents))
unfolding IsDistinct
places_withdrawn p [] h = tt
places_withdrawn p (r ∷ residents) h =
    by_bool (not (eqb r.0 p)) (IsDistinct nat_eq (places_of (all_but p (r ∷ residents))))
    (λ t. rw t (apart r.0 residents h.0, places_withdrawn p residents h.1))
    (λ f. rw f (places_withdrawn p residents h.1))
  where
    apart : (n : ℕ) (rs : List Resident) → AllByRecursion (λ m. nat_eq n m ≡ false) (places_of rs) → AllByRecursion (λ m. nat_eq n m ≡ false) (places_of (all_but p rs))
    apart n [] all = tt
    apart n (x ∷ rs) all =
        by_bool (not (eqb x.0 p)) (AllByRecursion (λ m. nat_eq n m ≡ false) (places_of (all_but p (x ∷ rs))))
        (λ t. rw t (all.0, apart n rs all.1)) (λ f. rw f (apart n rs all.1))

pub queries_posted : (residents : List Resident) (r : Resident) → queries_of (residents ++ r ∷ []) ≡ queries_of residents ++ r.1 ∷ []
queries_posted residents r = map-append (λ (x : Resident). x.1) residents (r ∷ [])
