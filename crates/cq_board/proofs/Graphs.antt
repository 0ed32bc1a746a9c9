-- The graph of residents, its nodes and edges in any order: who is matched, and how many providers there are, as at the positions of the pending queries.
use Rattle.std.proofs.Common.{◌≡◌, ℕ, zero, suc, ◌+◌, ◌<◌, inl, inr, Bool, true, false, eqb, ltb, ◌&&◌, ◌||◌, if◌then◌else◌, List, [], ◌∷◌, length, get_or, map, count_by, refl, sym, ap, subst, ◌∙◌, arith, eq-eqb}
use Rattle.std.specs.Prelude.{nat_eq}
use Rattle.std.specs.List.{All, Contains, IsDistinct, list_any, enumerate_from}
use Rattle.std.proofs.Math.ListN.{length-map}
use Rattle.std.proofs.lemmas.Bool.{eqb-true, ne_eqb, lt-ltb, cases_order}
use Rattle.std.proofs.lemmas.List.Sums.{length-filter, sum_by-cons}
use Rattle.std.proofs.lemmas.Map.Keys.{apart_from_distinct}
use Rattle.cq_atom.specs.declared.edge.Edge.{Edge}
use Rattle.cq_match.specs.Graph.{leads_to, provider_count}
use Rattle.cq_match.specs.Matched.{numbers, is_matched}
use Rattle.cq_match.proofs.CallerLemmas.{renumbered, IsWithin, matched-reordered, matched-renamed}
use Rattle.cq_board.specs.Pool.{PendingQuery, PoolRecord}
use Rattle.cq_board.specs.Edges.{edges_of}
use Rattle.cq_board.specs.Board.{is_able, is_matched_at}
use Rattle.cq_board.specs.Steps.Residents.{Resident, places_of, queries_of, place_at, edges_among, nodes_among, renamed, IsGraphOf}
use Rattle.cq_board.specs.Steps.Stores.{able_over}
use Rattle.cq_board.proofs.Members.{by_bool}
use Rattle.cq_board.proofs.Ends.{HasEnds-at}
use Rattle.cq_board.proofs.Positions.{moved, residents_moved, edges_placed}

-- ---- counts

abbrev pub one_if : Bool → ℕ
one_if b = if b then 1 else 0

module _ {X : Type 0} (test : X → Bool) where
  pub count-cons : (x : X) (xs : List X) → count_by test (x ∷ xs) ≡ one_if (test x) + count_by test xs
  count-cons x xs = sum_by-cons (λ y. one_if (test y)) x xs

  -- some element passes where the count is not zero
  any-counted : (xs : List X) → list_any test xs ≡ ltb 0 (count_by test xs)
  any-counted [] = refl
  any-counted (x ∷ xs) =
      let first = count-cons x xs in
      by_bool (test x) (list_any test (x ∷ xs) ≡ ltb 0 (count_by test (x ∷ xs)))
      (λ t.
      let one : one_if (test x) ≡ 1 = ap one_if t in
      let some : 0 < count_by test (x ∷ xs) = omega arith in
      ap (λ (b : Bool). b || list_any test xs) t ∙ sym (lt-ltb 0 (count_by test (x ∷ xs)) some))
      (λ f.
      let none : one_if (test x) ≡ 0 = ap one_if f in
      let same : count_by test xs ≡ count_by test (x ∷ xs) = omega arith in
      ap (λ (b : Bool). b || list_any test xs) f ∙ any-counted xs ∙ ap (ltb 0) same)

  pub any-same : (xs ys : List X) → count_by test xs ≡ count_by test ys → list_any test xs ≡ list_any test ys
  any-same xs ys e = any-counted xs ∙ ap (ltb 0) e ∙ sym (any-counted ys)

  pub count-map : {Y : Type 0} (g : Y → X) (ys : List Y) → count_by test (map g ys) ≡ count_by (λ y. test (g y)) ys
  count-map g [] = refl
  count-map g (y ∷ ys) =
      count-cons (g y) (map g ys) ∙ ap (λ n. one_if (test (g y)) + n) (count-map g ys) ∙ sym (sum_by-cons (λ z. one_if (test (g z))) y ys)

  pub count-same : (other : X → Bool) (xs : List X) → All (λ x. test x ≡ other x) xs → count_by test xs ≡ count_by other xs
  count-same other [] same = refl
  count-same other (x ∷ xs) same =
      let here : test x ≡ other x = same 0 x (omega arith) in
      count-cons x xs ∙ ap (λ (b : Bool). one_if b + count_by test xs) here
      ∙ ap (λ n. one_if (other x) + n) (count-same other xs (λ k d low. same (suc k) d (omega arith)))
      ∙ sym (sum_by-cons (λ y. one_if (other y)) x xs)

-- ---- nodes

module _ (able : Resident → Bool) where
  -- the nodes' numbers are the places
  pub numbers_among : (residents : List Resident) → numbers (nodes_among able residents) ≡ places_of residents
  numbers_among [] = refl
  numbers_among (r ∷ residents) = ap (λ ns. r.0 ∷ ns) (numbers_among residents)

nodes_moved : (flag : PendingQuery → Bool) (f : ℕ → ℕ) (residents : List Resident) → map (renumbered f) (nodes_among (λ r. flag r.1) residents) ≡ nodes_among (λ r. flag r.1) (moved f residents)
nodes_moved flag f [] = refl
nodes_moved flag f (r ∷ residents) = ap (λ (ns : List (ℕ × ℕ × Bool)). (f r.0, length r.1.query.posts, flag r.1) ∷ ns) (nodes_moved flag f residents)

positions-length : (n : ℕ) (pending : List PendingQuery) → length (places_of (enumerate_from n pending)) ≡ length pending
positions-length n [] = refl
positions-length n (q ∷ pending) = let rest = positions-length (n + 1) pending in omega arith

positions-at : (n : ℕ) (pending : List PendingQuery) (k d : ℕ) → k < length pending → get_or (places_of (enumerate_from n pending)) k d ≡ n + k
positions-at n [] k d low = absurd (omega arith)
positions-at n (q ∷ pending) zero d low = omega arith
positions-at n (q ∷ pending) (suc k) d low = positions-at (n + 1) pending k d (omega arith) ∙ omega arith

-- a position is below the length
position-has : (pending : List PendingQuery) (k : ℕ) → k < length pending → Contains (places_of (enumerate_from 0 pending)) k
position-has pending k low =
    let len = positions-length 0 pending in
    let at = positions-at 0 pending k k low in
    (k, omega arith, omega arith)

position-gives : (pending : List PendingQuery) (n : ℕ) → Contains (places_of (enumerate_from 0 pending)) n → n < length pending
position-gives pending n (k, low, at) =
    let len = positions-length 0 pending in
    let inside : k < length pending = omega arith in
    let is = positions-at 0 pending k n inside in
    omega arith

-- ---- places that differ

-- residents in different positions have different places
pub place-injective : (residents : List Resident) → IsDistinct nat_eq (places_of residents) → (i j : ℕ) → i < length residents → j < length residents → place_at residents i ≡ place_at residents j → i ≡ j
place-injective residents distinct i j low also same =
    let len = length-map residents (λ (r : Resident). r.0) in
    elim (cases_order i j) [
      | inl e ↦ e
      | inr apart ↦ elim apart [
        | inl less ↦
            let differ = apart_from_distinct nat_eq (places_of residents) i j 0 distinct less (omega arith) in
            absurd (let t = eq-eqb (place_at residents i) (place_at residents j) same in let never : true ≡ false = sym t ∙ differ in cc)
        | inr less ↦
            let differ = apart_from_distinct nat_eq (places_of residents) j i 0 distinct less (omega arith) in
            absurd (let t = eq-eqb (place_at residents j) (place_at residents i) (sym same) in let never : true ≡ false = sym t ∙ differ in cc)
      ]
    ]

module _ (flag : PendingQuery → Bool) (residents : List Resident) (distinct : IsDistinct nat_eq (places_of residents)) where
  abbrev pending : List PendingQuery
  pending = queries_of residents

  abbrev at_positions : List (ℕ × ℕ × Bool)
  at_positions = nodes_among (λ p. flag p.1) (enumerate_from 0 pending)

  pending-length : length pending ≡ length residents
  pending-length = length-map residents (λ (r : Resident). r.1)

  known-position : (n : ℕ) → Contains (numbers at_positions) n → n < length residents
  known-position n h =
      let low = position-gives pending n (subst (λ (ns : List ℕ). Contains ns n) (numbers_among (λ p. flag p.1) (enumerate_from 0 pending)) h) in
      let len = pending-length in
      omega arith

  position-known : (n : ℕ) → n < length residents → Contains (numbers at_positions) n
  position-known n low =
      let len = pending-length in
      subst (λ (ns : List ℕ). Contains ns n) (sym (numbers_among (λ p. flag p.1) (enumerate_from 0 pending))) (position-has pending n (omega arith))

  edges-within : All (IsWithin at_positions) (edges_of pending)
  edges-within k d low =
      let ends = HasEnds-at pending (edges_of pending) refl k d low in
      let len = pending-length in
      let provider = ends.provider in
      let waiter = ends.waiter in
      let e = get_or (edges_of pending) k d in
      (position-known e.provider (omega arith), position-known e.waiter (omega arith))

  module _ (nodes : List (ℕ × ℕ × Bool)) (edges : List Edge) (graph : IsGraphOf (λ r. flag r.1) residents nodes edges) where
    -- Edges that pass a test by their places are as many as those that pass it by their positions.
    pub graph_counted : (by_place by_position : Edge → Bool) → ((e : Edge) → e.provider < length residents → e.waiter < length residents → by_place (renamed (place_at residents) e) ≡ by_position e)
        → count_by by_place edges ≡ count_by by_position (edges_of (queries_of residents))
    graph_counted by_place by_position same =
        let f = place_at residents in
        graph.same_edges by_place ∙ ap (count_by by_place) (sym (edges_placed residents)) ∙ count-map by_place (renamed f) (edges_of pending)
        ∙ count-same (λ e. by_place (renamed f e)) by_position (edges_of pending)
        (λ k d inside.
        let ends = HasEnds-at pending (edges_of pending) refl k d inside in
        let len = pending-length in
        let provider = ends.provider in
        let waiter = ends.waiter in
        same (get_or (edges_of pending) k d) (omega arith) (omega arith))

    module _ (i : ℕ) (low : i < length residents) where
      -- The node of a query is matched as the query is at its position.
      pub graph_matched : is_matched nodes edges (place_at residents i) ≡ is_matched (nodes_among (λ p. flag p.1) (enumerate_from 0 (queries_of residents))) (edges_of (queries_of residents)) i
      graph_matched =
          let n = place_at residents i in
          matched-reordered nodes (nodes_among (λ r. flag r.1) residents) edges (edges_among residents) graph.same_nodes (λ test. any-same test edges (edges_among residents) (graph.same_edges test)) n
          ∙ ap (λ (es : List Edge). is_matched (nodes_among (λ r. flag r.1) residents) es n) (sym (edges_placed residents))
          ∙ ap (λ (ns : List (ℕ × ℕ × Bool)). is_matched ns (map (renamed (place_at residents)) (edges_of pending)) n)
          (sym (nodes_moved flag (place_at residents) (enumerate_from 0 pending) ∙ ap (nodes_among (λ r. flag r.1)) (residents_moved residents)))
          ∙ matched-renamed (place_at residents) at_positions (edges_of pending)
          (λ a b known also same. place-injective residents distinct a b (known-position a known) (known-position b also) same)
          edges-within i (position-known i low)

      -- A postcondition has as many providers.
      pub graph_providers : (post : ℕ) → provider_count (place_at residents i) post edges ≡ provider_count i post (edges_of (queries_of residents))
      graph_providers post =
          let n = place_at residents i in
          length-filter (leads_to n post) edges
          ∙ graph_counted (leads_to n post) (leads_to i post) (λ e provider waiter. ap (λ (b : Bool). b && eqb e.post post) (same-place e.waiter waiter))
          ∙ sym (length-filter (leads_to i post) (edges_of pending))
        where
          same-place : (w : ℕ) → w < length residents → eqb (place_at residents w) (place_at residents i) ≡ eqb w i
          same-place w inside =
              by_bool (eqb w i) (eqb (place_at residents w) (place_at residents i) ≡ eqb w i)
              (λ t. eq-eqb (place_at residents w) (place_at residents i) (ap (place_at residents) (eqb-true w i t)) ∙ sym t)
              (λ f. ne_eqb (place_at residents w) (place_at residents i) (λ e. let is = place-injective residents distinct w i inside low e in let t = eq-eqb w i is in cc) ∙ sym f)

-- Where those are able that are so over the rows of a pool, the node of a query is matched exactly where the query is, in the pool of these queries.
pub graph_matched_at : (pool : PoolRecord) (residents : List Resident) → IsDistinct nat_eq (places_of residents) → (nodes : List (ℕ × ℕ × Bool)) (edges : List Edge) → IsGraphOf (able_over pool.tables.rows) residents nodes edges
    → (i : ℕ) → i < length residents → is_matched nodes edges (place_at residents i) ≡ is_matched_at (record pool { pending = queries_of residents }) i
graph_matched_at pool residents distinct nodes edges graph i low = graph_matched (is_able pool.tables.rows) residents distinct nodes edges graph i low
