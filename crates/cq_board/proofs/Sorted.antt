-- The edges of pending queries rise, and a sorted list of them is theirs.
use Rattle.std.proofs.Common.{◌≡◌, ℕ, suc, ◌<◌, inl, inr, Bool, true, false, List, [], ◌∷◌, length, get_or, map, count_by, refl, sym, ap, subst, ◌∙◌, arith, eq-eqb}
use Rattle.std.specs.List.{list_any, enumerate_from, IsDistinct, position_or_len}
use Rattle.std.specs.List.Sorted.{IsPermutation, IsSorted}
use Rattle.std.specs.Cmp.{IsTotalOrder, Equal-is}
use Rattle.std.specs.declared.cmp.Ordering.{Ordering}
use Rattle.std.specs.declared.cmp.Ordering.TheVariants.{Less, Equal, Greater}
use Rattle.std.specs.Ordering.{nat_cmp, ordering_then, is_lt, is_eq}
use Rattle.std.proofs.lemmas.Cmp.{nat_cmp_total, on_total, then_total, tied_itself, ranked}
use Rattle.std.proofs.lemmas.Bool.{lt-ltb, ne_eqb}
use Rattle.std.proofs.lemmas.List.Sorted.{ranks_by, sorted_far, sum_by-IsPermutation}
use Rattle.cq_atom.specs.declared.edge.Edge.{Edge}
use Rattle.cq_board.specs.Pool.{PendingQuery}
use Rattle.cq_board.specs.Edges.{edges_of}
use Rattle.cq_board.specs.Steps.Residents.{Resident, queries_of, place_at, edges_among, renamed, edge_cmp, places_of, IsGraphOf}
use Rattle.cq_board.proofs.Members.{In, any_gives, any_has}
use Rattle.cq_board.proofs.Among.{Contains-In}
use Rattle.cq_board.proofs.Pairwise.{Pairwise, enumerate-rises}
use Rattle.cq_board.proofs.Positions.{edges_positioned}
use Rattle.cq_board.proofs.Graphs.{one_if, count-cons, any-same, count-map, place-injective}
use Rattle.cq_board.proofs.Touching.{edges_pairwise}
use Rattle.std.specs.Prelude.{nat_eq}
use Rattle.std.proofs.Math.ListN.{length-map}
use Rattle.std.proofs.lemmas.List.Sums.{position_or_len_is}

-- ---- lists by places

pub pairwise-at : {X : Type 0} (R : X → X → Type 0) (xs : List X) → ((i j : ℕ) (d : X) → i < j → j < length xs → R (get_or xs i d) (get_or xs j d)) → Pairwise R xs
pairwise-at R [] h = tt
pairwise-at {X} R (x ∷ xs) h = (
  λ y m. let found = Contains-In xs y m in let within : found.0 < length xs = found.1 in subst (R x) found.2 (h 0 (suc found.0) y (omega arith) (omega arith)),
  pairwise-at R xs (λ i j d low inside. h (suc i) (suc j) d (omega arith) (omega arith)),
)

-- ---- one sorted list of some elements

module _ {X : Type 0} (cmp : X → X → Ordering) (total : IsTotalOrder cmp) (exact : (a b : X) → cmp a b ≡ Equal → a ≡ b) where
  abbrev Below : X → X → Type 0
  Below a b = cmp a b ≡ Less

  abbrev NotAbove : X → X → Type 0
  NotAbove a b = is_lt (cmp b a) ≡ false

  sorted-pairwise : (xs : List X) → IsSorted cmp xs → Pairwise NotAbove xs
  sorted-pairwise xs sorted = pairwise-at NotAbove xs (λ i j d less low. sorted_far (λ a b. is_lt (cmp a b)) (ranks_by total (λ (a : X). a)) xs sorted i j d (omega arith) low)

  abbrev SameCounts : List X → List X → Type 0
  SameCounts xs ys = (test : X → Bool) → count_by test xs ≡ count_by test ys

  counted-in : (x : X) (xs ys : List X) → SameCounts (x ∷ xs) ys → In x ys
  counted-in x xs ys same =
      let test : X → Bool = λ y. is_eq (cmp x y) in
      let itself : test x ≡ true = ap is_eq (tied_itself total x) in
      let some : list_any test ys ≡ true = sym (any-same test (x ∷ xs) ys (same test)) ∙ any_has test (x ∷ xs) x (inl refl) itself in
      let found = any_gives test ys some in
      subst (λ (y : X). In y ys) (sym (exact x found.0 ((Equal-is (cmp x found.0)).0 found.2))) found.1

  none-counted : (y : X) (ys : List X) → SameCounts [] (y ∷ ys) → ⊥
  none-counted y ys same = let all : X → Bool = λ z. true in let e = same all in let more = count-cons all y ys in let one : one_if true ≡ 1 = refl in omega arith

  first-same : (x y : X) (xs ys : List X) → Pairwise Below (x ∷ xs) → Pairwise NotAbove (y ∷ ys) → In x (y ∷ ys) → In y (x ∷ xs) → x ≡ y
  first-same x y xs ys a b (inl e) h = e
  first-same x y xs ys a b (inr k) (inl e) = sym e
  first-same x y xs ys a b (inr k) (inr h) =
      let less : cmp x y ≡ Less = a.0 y h in
      let not : is_lt (cmp x y) ≡ false = b.0 x k in
      absurd (let never : true ≡ false = sym (ap is_lt less) ∙ not in cc)

  same-sorted : (xs ys : List X) → Pairwise Below xs → Pairwise NotAbove ys → SameCounts xs ys → ys ≡ xs
  same-sorted [] [] a b same = refl
  same-sorted [] (y ∷ ys) a b same = absurd (none-counted y ys same)
  same-sorted (x ∷ xs) [] a b same = absurd (none-counted x xs (λ test. sym (same test)))
  same-sorted (x ∷ xs) (y ∷ ys) a b same =
      let first : x ≡ y = first-same x y xs ys a b (counted-in x xs (y ∷ ys) same) (counted-in y ys (x ∷ xs) (λ test. sym (same test))) in
      let rest : ys ≡ xs =
      same-sorted xs ys a.1 b.1
      (λ test.
      let one = count-cons test x xs in
      let other = count-cons test y ys in
      let both : one_if (test x) ≡ one_if (test y) = ap (λ (z : X). one_if (test z)) first in
      let all = same test in
      omega arith) in
      ap (λ zs. y ∷ zs) rest ∙ ap (λ z. z ∷ xs) (sym first)

-- ---- the order of edges

edge_cmp-total : IsTotalOrder edge_cmp
edge_cmp-total =
    then_total (then_total (then_total (on_total (λ (e : Edge). e.waiter) nat_cmp_total) (on_total (λ (e : Edge). e.post) nat_cmp_total)) (on_total (λ (e : Edge). e.provider) nat_cmp_total)) (on_total (λ (e : Edge). e.head) nat_cmp_total)

nat-tied : (m n : ℕ) → nat_cmp m n ≡ Equal → m ≡ n
nat-tied m n e = ranked m n Equal (sym e)

nat-same : (m n : ℕ) → m ≡ n → nat_cmp m n ≡ Equal
nat-same m n e = ap (nat_cmp m) (sym e) ∙ tied_itself nat_cmp_total m

nat-less : (m n : ℕ) → m < n → nat_cmp m n ≡ Less
nat-less m n low = rw (lt-ltb m n low) refl

then-tied : (a b : Ordering) → ordering_then a b ≡ Equal → (a ≡ Equal) × (b ≡ Equal)
then-tied Less b e = cc
then-tied Equal b e = (refl, e)
then-tied Greater b e = cc

edge_cmp-exact : (a b : Edge) → edge_cmp a b ≡ Equal → a ≡ b
edge_cmp-exact a b e =
    let fourth = then-tied (ordering_then (ordering_then (nat_cmp a.waiter b.waiter) (nat_cmp a.post b.post)) (nat_cmp a.provider b.provider)) (nat_cmp a.head b.head) e in
    let third = then-tied (ordering_then (nat_cmp a.waiter b.waiter) (nat_cmp a.post b.post)) (nat_cmp a.provider b.provider) fourth.0 in
    let second = then-tied (nat_cmp a.waiter b.waiter) (nat_cmp a.post b.post) third.0 in
    let waiter = nat-tied a.waiter b.waiter second.0 in
    let post = nat-tied a.post b.post second.1 in
    let provider = nat-tied a.provider b.provider third.1 in
    let head = nat-tied a.head b.head fourth.1 in
    λ i. record { provider = provider i; head = head i; waiter = waiter i; post = post i }

-- The edges of residents whose places rise are in strict order.
pub among-rises : (residents : List Resident) → Pairwise (λ (a b : Resident). a.0 < b.0) residents → Pairwise (λ (a b : Edge). edge_cmp a b ≡ Less) (edges_among residents)
among-rises residents rising =
    edges_pairwise (λ m n. m < n) (λ a b. edge_cmp a b ≡ Less)
    (λ a b low. rw (nat-less a.waiter b.waiter low) refl)
    (λ a b w low. rw (nat-same a.waiter b.waiter w, nat-less a.post b.post low) refl)
    (λ a b w p low. rw (nat-same a.waiter b.waiter w, nat-same a.post b.post p, nat-less a.provider b.provider low) refl)
    (λ a b w p q low. rw (nat-same a.waiter b.waiter w, nat-same a.post b.post p, nat-same a.provider b.provider q) (nat-less a.head b.head low))
    residents rising residents rising

-- A sorted list with as many edges of each kind is that list.
pub sorted-among : (residents : List Resident) → Pairwise (λ (a b : Resident). a.0 < b.0) residents → (edges : List Edge) → ((test : Edge → Bool) → count_by test edges ≡ count_by test (edges_among residents))
    → IsSorted edge_cmp edges → edges ≡ edges_among residents
sorted-among residents rising edges same sorted =
    same-sorted edge_cmp edge_cmp-total edge_cmp-exact (edges_among residents) edges (among-rises residents rising)
    (sorted-pairwise edge_cmp edge_cmp-total edge_cmp-exact edges sorted) (λ test. sym (same test))

pub sorted-edges : (pending : List PendingQuery) (edges : List Edge) → ((test : Edge → Bool) → count_by test edges ≡ count_by test (edges_of pending)) → IsSorted edge_cmp edges → edges ≡ edges_of pending
sorted-edges pending edges same sorted = sorted-among (enumerate_from 0 pending) (enumerate-rises 0 pending) edges same sorted

-- Edges by places, with positions in the place of places, are those of the queries: as many of each kind, and in order where they are sorted.
module _ (g : ℕ → ℕ) (residents : List Resident) (same : (k : ℕ) → k < length residents → g (place_at residents k) ≡ k)
    (edges : List Edge) (all : (test : Edge → Bool) → count_by test edges ≡ count_by test (edges_among residents)) where
  pub positioned-counts : (test : Edge → Bool) → count_by test (map (renamed g) edges) ≡ count_by test (edges_of (queries_of residents))
  positioned-counts test =
      count-map test (renamed g) edges ∙ all (λ e. test (renamed g e)) ∙ sym (count-map test (renamed g) (edges_among residents)) ∙ ap (count_by test) (edges_positioned g residents same)

  pub positioned-edges : (shown : List Edge) → IsPermutation (map (renamed g) edges) shown → IsSorted edge_cmp shown → shown ≡ edges_of (queries_of residents)
  positioned-edges shown moved sorted =
      sorted-edges (queries_of residents) shown (λ test. sum_by-IsPermutation (λ e. one_if (test e)) (map (renamed g) edges) shown moved ∙ positioned-counts test) sorted

-- ---- positions by a search among the places

-- the place of a position is found there among the places
pub position-placed : (residents : List Resident) → IsDistinct nat_eq (places_of residents) → (k : ℕ) → k < length residents → position_or_len (nat_eq (place_at residents k)) (places_of residents) ≡ k
position-placed residents distinct k low =
    let len = length-map residents (λ (r : Resident). r.0) in
    position_or_len_is (nat_eq (place_at residents k)) (places_of residents) k 0 (omega arith)
    (λ j less. ne_eqb (place_at residents k) (place_at residents j) (λ e. let is = place-injective residents distinct k j low (omega arith) e in omega arith))
    (λ inside. eq-eqb (place_at residents k) (place_at residents k) refl)

-- The edges of a graph of residents, with the numbers of their places in the place of places, and sorted, are those of the queries.
pub numbered-edges : (able : Resident → Bool) (residents : List Resident) → IsDistinct nat_eq (places_of residents) → (nodes : List (ℕ × ℕ × Bool)) (edges : List Edge) → IsGraphOf able residents nodes edges
    → (shown : List Edge) → IsPermutation (map (renamed (λ place. position_or_len (nat_eq place) (places_of residents))) edges) shown → IsSorted edge_cmp shown → shown ≡ edges_of (queries_of residents)
numbered-edges able residents distinct nodes edges graph shown moved sorted =
    positioned-edges (λ place. position_or_len (nat_eq place) (places_of residents)) residents (position-placed residents distinct) edges graph.same_edges shown moved sorted
