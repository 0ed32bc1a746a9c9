-- The graph whose falls a board shows: its nodes as the stores have them, and the ends of its edges.
use Rattle.std.proofs.Common.{◌≡◌, ℕ, suc, ◌+◌, ◌<◌, Bool, List, [], ◌∷◌, ◌++◌, length, map, take, get_or, inl, inr, refl, sym, ap, subst, ◌∙◌, arith, nat_eq}
use Rattle.std.specs.Prelude.{nat_lt, Option, option_map}
use Rattle.std.specs.List.{All, Any, Contains, IsDistinct, enumerate_from}
use Rattle.std.specs.Option.{option_map_or}
use Rattle.std.proofs.Math.ListN.{length-map}
use Rattle.std.proofs.lemmas.List.{map-append, take_more}
use Rattle.std.proofs.lemmas.List.FromFn.{length-enumerate_from}
use Rattle.cq_atom.specs.Atom.{RowRecord}
use Rattle.cq_grounded.specs.Grounded.{GroundedRecord, GroundedMap, found}
use Rattle.cq_links.specs.Links.{LinkMap}
use Rattle.cq_match.specs.Matcher.{MatcherRecord}
use Rattle.cq_roster.specs.Roster.{SeatRecord}
use Rattle.cq_board.specs.Pool.{PendingQuery}
use Rattle.cq_board.specs.Board.{is_able}
use Rattle.cq_board.specs.Steps.Flags.{has_grounding}
use Rattle.cq_board.specs.Steps.Residents.{Resident, places_of, queries_of}
use Rattle.cq_board.specs.Steps.Stores.{query_at, residents_at, residents_of, pending_of, StoresRecord, AreStores}
use Rattle.cq_board.specs.Steps.Waiting.{node_in}
use Rattle.cq_atom.specs.declared.edge.Edge.{Edge}
use Rattle.cq_match.specs.Matched.{numbers}
use Rattle.std.specs.List.{flat_map, AllByRecursion}
use Rattle.std.proofs.lemmas.Bool.{ne_eqb}
use Rattle.std.proofs.lemmas.List.Elements.{All-from_recursion}
use Rattle.std.proofs.lemmas.Map.Keys.{IsDistinct-cons}
use Rattle.std.proofs.lemmas.Option.{slice_get_within}
use Rattle.cq_board.specs.Edges.{edge_if, edges_into, edges_of}
use Rattle.cq_board.specs.Pool.{PoolRecord}
use Rattle.cq_board.specs.Board.{nodes_of}
use Rattle.cq_board.proofs.Among.{Contains-In}
use Rattle.cq_board.proofs.Ends.{In-enumerate, In-edge_if}
use Rattle.cq_board.proofs.Members.{In, In-map, In-flat_map_gives}
use Rattle.cq_board.proofs.Linked.{In-lookup}
use Rattle.cq_board.proofs.Stored.{places-seated}

-- ---- nodes

enumerate-append : {X : Type 0} (n : ℕ) (xs : List X) (y : X) → enumerate_from n (xs ++ y ∷ []) ≡ enumerate_from n xs ++ (n + length xs, y) ∷ []
enumerate-append n [] y = let at : n ≡ n + 0 = omega arith in ap (λ (m : ℕ). (m, y) ∷ []) at
enumerate-append n (x ∷ xs) y =
    let at : n + 1 + length xs ≡ n + suc (length xs) = omega arith in
    ap (λ ps. (n, x) ∷ ps) (enumerate-append (n + 1) xs y ∙ ap (λ (m : ℕ). enumerate_from (n + 1) xs ++ (m, y) ∷ []) at)

-- one more seat, whose node is numbered with how many there are
pub node-more : {X : Type 0} (m : GroundedMap) (place : X → ℕ) (seats : List X) (i : ℕ) (x : X) (nodes : List (ℕ × ℕ × Bool)) (count : ℕ) (node : ℕ × ℕ × Bool) → i < length seats → x ≡ get_or seats i x
    → count ≡ length nodes → node ≡ node_in m count (place x) → nodes ≡ map (λ s. node_in m s.0 s.1) (enumerate_from 0 (map place (take i seats)))
    → nodes ++ node ∷ [] ≡ map (λ s. node_in m s.0 s.1) (enumerate_from 0 (map place (take (i + 1) seats)))
node-more {X} m place seats i x nodes count node low here counted is so_far =
    let node_of : ℕ × ℕ → ℕ × ℕ × Bool = λ s. node_in m s.0 s.1 in
    let before = map place (take i seats) in
    let y = get_or seats i x in
    let many : length nodes ≡ length before = ap length so_far ∙ length-map (enumerate_from 0 before) node_of ∙ length-enumerate_from 0 before in
    let number : count ≡ 0 + length before = omega arith in
    let split : map place (take (i + 1) seats) ≡ before ++ place y ∷ [] = ap (map place) (take_more seats i x low) ∙ map-append place (take i seats) (y ∷ []) in
    let one : node ≡ node_in m (0 + length before) (place y) = is ∙ ap (λ (k : ℕ). node_in m k (place x)) number ∙ ap (λ (z : X). node_in m (0 + length before) (place z)) here in
    ap (λ (ns : List (ℕ × ℕ × Bool)). ns ++ node ∷ []) so_far
    ∙ ap (λ (one_node : ℕ × ℕ × Bool). map node_of (enumerate_from 0 before) ++ one_node ∷ []) one
    ∙ sym (map-append node_of (enumerate_from 0 before) ((0 + length before, place y) ∷ []))
    ∙ ap (map node_of) (sym (enumerate-append 0 before (place y)))
    ∙ ap (λ (ps : List ℕ). map node_of (enumerate_from 0 ps)) (sym split)

module _ (content : StoresRecord) (rows : List RowRecord) (stores : AreStores content rows) where
  abbrev residents : List Resident
  residents = residents_of content

  distinct : IsDistinct nat_eq (places_of residents)
  distinct = subst (λ (places : List ℕ). IsDistinct nat_eq places) (sym (places-seated content.seats content.grounded)) stores.roster.places

  abbrev seated : SeatRecord → Resident
  seated s = (s.place, (record { name = s.name; query = query_at content.grounded s.place }))

  able-seated : (s : SeatRecord) → In s content.seats → has_grounding content.grounded s.place ≡ is_able rows (seated s).1
  able-seated s h =
      ap (λ (o : Option GroundedRecord). option_map_or (λ f. nat_lt 0 (length f.groundings)) o Bool.false)
      (stores.stand s.place ∙ ap (option_map (λ (q : PendingQuery). found rows q.query)) (In-lookup residents distinct (seated s) (In-map seated content.seats s h)))

  abbrev node_for : ℕ × PendingQuery → ℕ × ℕ × Bool
  node_for p = (p.0, length p.1.query.posts, is_able rows p.1)

  nodes-from : (some : List SeatRecord) → ((s : SeatRecord) → In s some → In s content.seats) → (n : ℕ)
      → map (λ s. node_in content.grounded s.0 s.1) (enumerate_from n (map (λ s. s.place) some)) ≡ map node_for (enumerate_from n (queries_of (residents_at some content.grounded)))
  nodes-from [] among n = refl
  nodes-from (s ∷ some) among n =
      ap (λ (b : Bool). (n, length (query_at content.grounded s.place).posts, b) ∷ map (λ s. node_in content.grounded s.0 s.1) (enumerate_from (n + 1) (map (λ s. s.place) some))) (able-seated s (among s (inl refl)))
      ∙ ap (λ ns. node_for (n, (seated s).1) ∷ ns) (nodes-from some (λ t h. among t (inr h)) (n + 1))

  -- the nodes that the stores have are those of the pending queries
  pub nodes-shown : map (λ s. node_in content.grounded s.0 s.1) (enumerate_from 0 (map (λ s. s.place) content.seats)) ≡ map node_for (enumerate_from 0 (pending_of content))
  nodes-shown = nodes-from content.seats (λ s h. h) 0

-- ---- the graph is one that has falls

later-numbers : {X : Type 0} (node : ℕ × X → ℕ × ℕ × Bool) → ((p : ℕ × X) → (node p).0 ≡ p.0) → (k n : ℕ) → k < n → (xs : List X) → AllByRecursion (λ y. nat_eq k y ≡ Bool.false) (numbers (map node (enumerate_from n xs)))
later-numbers node same k n low [] = tt
later-numbers node same k n low (x ∷ xs) =
    let apart : nat_eq k n ≡ Bool.false = ne_eqb k n (λ e. absurd (omega arith)) in
    (ap (nat_eq k) (same (n, x)) ∙ apart, later-numbers node same k (n + 1) (omega arith) xs)

numbers-distinct : {X : Type 0} (node : ℕ × X → ℕ × ℕ × Bool) → ((p : ℕ × X) → (node p).0 ≡ p.0) → (n : ℕ) (xs : List X) → IsDistinct nat_eq (numbers (map node (enumerate_from n xs)))
unfolding IsDistinct
numbers-distinct node same n [] = tt
numbers-distinct node same n (x ∷ xs) =
    let more = numbers (map node (enumerate_from (n + 1) xs)) in
    let after : AllByRecursion (λ y. nat_eq n y ≡ Bool.false) more = later-numbers node same n (n + 1) (omega arith) xs in
    subst (λ (k : ℕ). IsDistinct nat_eq (k ∷ more)) (sym (same (n, x))) (IsDistinct-cons nat_eq n more after (numbers-distinct node same (n + 1) xs))

-- no two nodes have one number
pub nodes-distinct : (pool : PoolRecord) → IsDistinct nat_eq (numbers (nodes_of pool))
nodes-distinct pool = numbers-distinct (λ (p : ℕ × PendingQuery). (p.0, length p.1.query.posts, is_able pool.tables.rows p.1)) (λ p. refl) 0 pool.pending

In-Any : {X : Type 0} (P : X → Type 0) (x : X) (xs : List X) → In x xs → P x → Any P xs
In-Any P x xs h p = let there = Contains-In xs x h in (there.0, x, there.1, there.2, p)

-- what an edge between nodes has
abbrev HasNodes : List (ℕ × ℕ × Bool) → Edge → Type 0
HasNodes nodes edge = Contains (numbers nodes) edge.provider × Any (λ node. (node.0 ≡ edge.waiter) × (edge.post < node.1)) nodes

edge-nodes : (pool : PoolRecord) (e : Edge) → In e (edges_of pool.pending) → HasNodes (nodes_of pool) e
edge-nodes pool e h =
    let pending = pool.pending in
    let node : ℕ × PendingQuery → ℕ × ℕ × Bool = λ p. (p.0, length p.1.query.posts, is_able pool.tables.rows p.1) in
    let by_waiter = In-flat_map_gives (λ w. flat_map (edges_into pending w.0) (enumerate_from 0 w.1.query.posts)) (enumerate_from 0 pending) e h in
    let w = by_waiter.0 in
    let by_post = In-flat_map_gives (edges_into pending w.0) (enumerate_from 0 w.1.query.posts) e by_waiter.2 in
    let by_provider = In-flat_map_gives (λ provider. flat_map (λ head. edge_if provider.0 head w.0 by_post.0) (enumerate_from 0 provider.1.query.heads)) (enumerate_from 0 pending) e by_post.2 in
    let p = by_provider.0 in
    let by_head = In-flat_map_gives (λ head. edge_if p.0 head w.0 by_post.0) (enumerate_from 0 p.1.query.heads) e by_provider.2 in
    let is = In-edge_if p.0 by_head.0 w.0 by_post.0 e by_head.2 in
    let low : by_post.0.0 < length w.1.query.posts = slice_get_within w.1.query.posts by_post.0.0 by_post.0.1 (In-enumerate w.1.query.posts by_post.0 by_post.1) in
    let fits : e.post < length w.1.query.posts = subst (λ (k : ℕ). k < length w.1.query.posts) (sym (ap (λ x. x.post) is)) low in
    let there : In p.0 (numbers (nodes_of pool)) = In-map (λ (x : ℕ × ℕ × Bool). x.0) (nodes_of pool) (node p) (In-map node (enumerate_from 0 pending) p by_provider.1) in (
      subst (λ (k : ℕ). Contains (numbers (nodes_of pool)) k) (sym (ap (λ x. x.provider) is)) (Contains-In (numbers (nodes_of pool)) p.0 there),
      In-Any (λ (x : ℕ × ℕ × Bool). (x.0 ≡ e.waiter) × (e.post < x.1)) (node w) (nodes_of pool) (In-map node (enumerate_from 0 pending) w by_waiter.1) (sym (ap (λ x. x.waiter) is), fits),
    )

All-In : {X : Type 0} (P : X → Type 0) (xs : List X) → ((x : X) → In x xs → P x) → AllByRecursion P xs
All-In P [] h = tt
All-In P (x ∷ xs) h = (h x (inl refl), All-In P xs (λ y m. h y (inr m)))

-- both ends of each edge are nodes, the waiter with that postcondition
pub edges-nodes : (pool : PoolRecord) → All (λ edge. Contains (numbers (nodes_of pool)) edge.provider × Any (λ node. (node.0 ≡ edge.waiter) × (edge.post < node.1)) (nodes_of pool)) (edges_of pool.pending)
edges-nodes pool = All-from_recursion (HasNodes (nodes_of pool)) (edges_of pool.pending) (All-In (HasNodes (nodes_of pool)) (edges_of pool.pending) (edge-nodes pool))
