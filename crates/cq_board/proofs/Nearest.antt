-- The best three of a list, kept while it is read.
use Rattle.std.proofs.Common.{◌≡◌, ℕ, zero, suc, ◌+◌, ◌<◌, ◌≤◌, ◌⊎◌, inl, inr, Bool, true, false, List, [], ◌∷◌, ◌++◌, length, map, take, drop, get_or, refl, sym, ap, subst, ◌∙◌, arith, append_assoc}
use Rattle.std.specs.Prelude.{not, nat_lt, ◌==◌}
use Rattle.std.specs.List.{All, AllPairs, insert, prefix_len, flat_map}
use Rattle.std.specs.List.Sorted.{IsSortedBy}
use Rattle.std.specs.Cmp.{IsTotalOrder, IsStrictWeakOrder}
use Rattle.std.specs.Ordering.{nat_cmp}
use Rattle.std.specs.declared.cmp.Ordering.TheVariants.{Equal, Greater}
use Rattle.std.proofs.lemmas.Bool.{ltb-true}
use Rattle.std.proofs.lemmas.Bool.Decides.{nat_tests}
use Rattle.std.proofs.lemmas.Cmp.{nat_cmp_total, on_total, then_total, tied_itself}
use Rattle.std.proofs.lemmas.Grind.{flat_map-append}
use Rattle.std.proofs.lemmas.List.{append-nil, map-append, take-append-drop}
use Rattle.std.proofs.lemmas.List.Sorted.{ranks_by, sorted_far, Contains-permutation, IsPermutation-insert, IsPermutation-push_more, IsPermutation-refl, IsPermutation-sym}
use Rattle.cq_atom.specs.Atom.{AtomRecord}
use Rattle.cq_board.specs.Near.{differences, misses, miss_cmp, AreNearest}
use Rattle.cq_board.specs.Steps.Nearest.{HeadRecord, is_nearer, IsEarlier, miss_at}
use Rattle.cq_board.proofs.Among.{Contains-In, In-Contains, In-All}
use Rattle.cq_board.proofs.Ends.{In-get_or}
use Rattle.cq_board.proofs.Members.{by_bool, In, In-right, In-map_gives, In-flat_map_gives}
use Rattle.cq_board.proofs.Pairwise.{Pairwise}
use Rattle.cq_board.proofs.Sorted.{pairwise-at}

-- ---- one more element at its place in a sorted list

module _ {X : Type 0} (lt : X → X → Bool) (order : IsStrictWeakOrder lt) where
  abbrev NotAbove : X → X → Type 0
  NotAbove x y = lt y x ≡ false

  -- how many stand before it
  abbrev place_for : X → List X → ℕ
  place_for x xs = prefix_len (λ y. not (lt x y)) xs

  abbrev put_in : X → List X → List X
  put_in x xs = insert xs (place_for x xs) x

  put-first : (x y : X) (xs : List X) → lt x y ≡ true → put_in x (y ∷ xs) ≡ x ∷ y ∷ xs
  put-first x y xs t = rw t refl

  put-later : (x y : X) (xs : List X) → lt x y ≡ false → put_in x (y ∷ xs) ≡ y ∷ put_in x xs
  put-later x y xs f =
      let next : 1 + place_for x xs ≡ suc (place_for x xs) = omega arith in
      rw f (ap (λ (n : ℕ). insert (y ∷ xs) n x) next)

  In-put : (x y : X) (xs : List X) → In y (put_in x xs) → (y ≡ x) ⊎ In y xs
  In-put x y [] h = elim h [ inl e ↦ inl e | inr never ↦ absurd never ]
  In-put x y (z ∷ xs) h =
      by_bool (lt x z) ((y ≡ x) ⊎ In y (z ∷ xs))
      (λ t. subst (λ (ys : List X). In y ys) (put-first x z xs t) h)
      (λ f. elim (subst (λ (ys : List X). In y ys) (put-later x z xs f) h) as (λ _. (y ≡ x) ⊎ In y (z ∷ xs)) [
        | inl e ↦ inr (inl e)
        | inr k ↦ elim (In-put x y xs k) [ inl e ↦ inl e | inr m ↦ inr (inr m) ]
      ])

  put-pairwise : (x : X) (xs : List X) → Pairwise NotAbove xs → Pairwise NotAbove (put_in x xs)
  put-pairwise x [] h = (λ y m. absurd m, tt)
  put-pairwise x (z ∷ xs) h =
      by_bool (lt x z) (Pairwise NotAbove (put_in x (z ∷ xs)))
      (λ t.
      let first : (y : X) → In y (z ∷ xs) → NotAbove x y =
      λ y m. elim m [
        | inl e ↦ subst (λ (w : X). lt w x ≡ false) (sym e) (order.one_way x z t)
        | inr k ↦ order.chain y z x (h.0 y k) (order.one_way x z t)
      ] in
      subst (Pairwise NotAbove) (sym (put-first x z xs t)) (first, h))
      (λ f.
      let first : (y : X) → In y (put_in x xs) → NotAbove z y =
      λ y m. elim (In-put x y xs m) [
        | inl e ↦ subst (λ (w : X). lt w z ≡ false) (sym e) f
        | inr k ↦ h.0 y k
      ] in
      subst (Pairwise NotAbove) (sym (put-later x z xs f)) (first, put-pairwise x xs h.1))

  take-take : (k : ℕ) (y : X) (xs : List X) → take k (y ∷ take k xs) ≡ take k (y ∷ xs)
  take-take zero y xs = refl
  take-take (suc k) y [] = refl
  take-take (suc k) y (z ∷ xs) = ap (λ l. y ∷ l) (take-take k z xs)

  -- the first so many after one more element are those of the first so many before
  take-put : (k : ℕ) (x : X) (xs : List X) → take k (put_in x (take k xs)) ≡ take k (put_in x xs)
  take-put zero x xs = refl
  take-put (suc k) x [] = refl
  take-put (suc k) x (z ∷ xs) =
      by_bool (lt x z) (take (suc k) (put_in x (z ∷ take k xs)) ≡ take (suc k) (put_in x (z ∷ xs)))
      (λ t. ap (take (suc k)) (put-first x z (take k xs) t) ∙ ap (λ l. x ∷ l) (take-take k z xs) ∙ sym (ap (take (suc k)) (put-first x z xs t)))
      (λ f. ap (take (suc k)) (put-later x z (take k xs) f) ∙ ap (λ l. z ∷ l) (take-put k x xs) ∙ sym (ap (take (suc k)) (put-later x z xs f)))

  -- what is below none of them goes after
  put-behind : (x : X) (xs : List X) → ((y : X) → In y xs → lt x y ≡ false) → put_in x xs ≡ xs ++ x ∷ []
  put-behind x [] h = refl
  put-behind x (z ∷ xs) h = put-later x z xs (h z (inl refl)) ∙ ap (λ l. z ∷ l) (put-behind x xs (λ y m. h y (inr m)))

  pairwise-sorted : (xs : List X) → Pairwise NotAbove xs → IsSortedBy lt xs
  pairwise-sorted [] h k d low within = absurd (let none : k + 1 < 0 = within in omega arith)
  pairwise-sorted (x ∷ xs) h zero d low within = h.0 (get_or xs 0 d) (In-get_or xs 0 d (let l : 0 + 1 < suc (length xs) = within in omega arith))
  pairwise-sorted (x ∷ xs) h (suc k) d low within =
      let next : suc k + 1 ≡ suc (k + 1) = omega arith in
      let rest : lt (get_or xs (k + 1) d) (get_or xs k d) ≡ false = pairwise-sorted xs h.1 k d (omega arith) (let l : suc k + 1 < suc (length xs) = within in omega arith) in
      subst (λ (n : ℕ). lt (get_or (x ∷ xs) n d) (get_or xs k d) ≡ false) (sym next) rest

  sorted-pairwise : (xs : List X) → IsSortedBy lt xs → Pairwise NotAbove xs
  sorted-pairwise xs sorted = pairwise-at NotAbove xs (λ i j d less within. sorted_far lt order xs sorted i j d (omega arith) within)

-- ---- misses

abbrev Miss : Type 0
Miss = ℕ × ℕ × ℕ

miss_cmp-total : IsTotalOrder miss_cmp
miss_cmp-total = then_total (then_total (on_total (λ (m : Miss). m.0) nat_cmp_total) (on_total (λ (m : Miss). m.1) nat_cmp_total)) (on_total (λ (m : Miss). m.2) nat_cmp_total)

nearer-order : IsStrictWeakOrder is_nearer
nearer-order = ranks_by miss_cmp-total (λ (m : Miss). m)

-- The list with one more miss at its place.
abbrev pub with_miss : Miss → List Miss → List Miss
with_miss miss kept = insert kept (prefix_len (λ k. not (is_nearer miss k)) kept) miss

pub nearest_none : AreNearest [] []
nearest_none = record { sorted = []; permutation = IsPermutation-refl []; ordered = λ k d low within. absurd (let none : k + 1 < 0 = within in omega arith); first = refl }

-- The nearest of a list with one more.
pub nearest_more : (all kept : List Miss) (miss : Miss) → AreNearest all kept → AreNearest (all ++ miss ∷ []) (take 3 (with_miss miss kept))
nearest_more all kept miss are =
    let more = with_miss miss are.sorted in
    record {
      sorted = more;
      permutation = IsPermutation-push_more all are.sorted more miss are.permutation (IsPermutation-insert are.sorted (prefix_len (λ k. not (is_nearer miss k)) are.sorted) miss);
      ordered = pairwise-sorted is_nearer nearer-order more (put-pairwise is_nearer nearer-order miss are.sorted (sorted-pairwise is_nearer nearer-order are.sorted are.ordered));
      first = ap (λ (ms : List Miss). take 3 (with_miss miss ms)) are.first ∙ take-put is_nearer nearer-order 3 miss are.sorted;
    }

-- Three that none of the rest is nearer than are the nearest of all.
pub nearest_stays : (all kept rest : List Miss) → AreNearest all kept → length kept ≡ 3 → ((miss k : Miss) → In miss rest → In k kept → is_nearer miss k ≡ false) → AreNearest (all ++ rest) kept
nearest_stays all kept [] are three far = subst (λ (ms : List Miss). AreNearest ms kept) (sym (append-nil all)) are
nearest_stays all kept (miss ∷ rest) are three far =
    let behind : with_miss miss kept ≡ kept ++ miss ∷ [] = put-behind is_nearer nearer-order miss kept (λ k m. far miss k (inl refl) m) in
    let same : take 3 (with_miss miss kept) ≡ kept = ap (take 3) behind ∙ front kept three in
    let next : AreNearest (all ++ miss ∷ []) kept = subst (AreNearest (all ++ miss ∷ [])) same (nearest_more all kept miss are) in
    subst (λ (ms : List Miss). AreNearest ms kept) (append_assoc all (miss ∷ []) rest) (nearest_stays (all ++ miss ∷ []) kept rest next three (λ m k h l. far m k (inr h) l))
  where
    front : (ms : List Miss) → length ms ≡ 3 → take 3 (ms ++ miss ∷ []) ≡ ms
    front [] e = absurd (let none : 0 ≡ 3 = e in omega arith)
    front (a ∷ []) e = absurd (let none : 1 ≡ 3 = e in omega arith)
    front (a ∷ b ∷ []) e = absurd (let none : 2 ≡ 3 = e in omega arith)
    front (a ∷ b ∷ c ∷ []) e = refl
    front (a ∷ b ∷ c ∷ d ∷ ms) e = absurd (let many : suc (suc (suc (suc (length ms)))) ≡ 3 = e in omega arith)

-- ---- heads that come later

abbrev Least : AtomRecord → ℕ → HeadRecord → Type 0
Least wanted least h = misses wanted h.2 ≡ true → least ≤ differences h.2.terms wanted.terms

in-take : {X : Type 0} (n : ℕ) (xs : List X) (x : X) → In x (take n xs) → In x xs
in-take zero xs x h = absurd h
in-take (suc n) [] x h = absurd h
in-take (suc n) (y ∷ xs) x (inl e) = inl e
in-take (suc n) (y ∷ xs) x (inr h) = inr (in-take n xs x h)

-- what is kept is of the list
kept-among : (all kept : List Miss) → AreNearest all kept → (k : Miss) → In k kept → In k all
kept-among all kept are k h =
    let sorted : In k are.sorted = in-take 3 are.sorted k (subst (λ ms. In k ms) are.first h) in
    In-Contains all k (Contains-permutation are.sorted all k (IsPermutation-sym all are.sorted are.permutation) (Contains-In are.sorted k sorted))

-- a miss comes from a head
miss-from : (wanted : AtomRecord) (heads : List HeadRecord) (miss : Miss) → In miss (flat_map (miss_at wanted) heads)
    → (h : HeadRecord) × In h heads × (misses wanted h.2 ≡ true) × (miss ≡ (differences h.2.terms wanted.terms, h.0, h.1))
miss-from wanted heads miss m =
    let from = In-flat_map_gives (miss_at wanted) heads miss m in
    let h = from.0 in
    by_bool (misses wanted h.2) ((h : HeadRecord) × In h heads × (misses wanted h.2 ≡ true) × (miss ≡ (differences h.2.terms wanted.terms, h.0, h.1)))
    (λ t. elim (rw t at from.2) as (λ _. (h : HeadRecord) × In h heads × (misses wanted h.2 ≡ true) × (miss ≡ (differences h.2.terms wanted.terms, h.0, h.1))) [
      | inl e ↦ (h, from.1, t, e)
      | inr never ↦ absurd never
    ])
    (λ f. absurd (rw f at from.2))

less-not : (a b : ℕ) → b < a → nat_cmp a b ≡ Greater
less-not a b low =
    let not-lt : nat_lt a b ≡ false = grind (arith, nat_tests) in
    let not-eq : (a == b) ≡ false = grind (arith, nat_tests) in
    rw (not-lt, not-eq) refl

same-is : (a b : ℕ) → a ≡ b → nat_cmp a b ≡ Equal
same-is a b e = ap (nat_cmp a) (sym e) ∙ tied_itself nat_cmp_total a

-- a miss with no fewer differences that comes later is not nearer
later-not : (m k : Miss) → k.0 ≤ m.0 → (k.1 < m.1) ⊎ ((k.1 ≡ m.1) × (k.2 < m.2)) → is_nearer m k ≡ false
later-not m k few later =
    by_bool (nat_lt k.0 m.0) (is_nearer m k ≡ false)
    (λ t. let low : k.0 < m.0 = ltb-true k.0 m.0 t in rw (less-not m.0 k.0 low) refl)
    (λ f.
    let same : m.0 ≡ k.0 = grind (arith, nat_tests) in
    let first = same-is m.0 k.0 same in
    elim later [
      | inl low ↦ rw (first, less-not m.1 k.1 low) refl
      | inr both ↦ rw (first, same-is m.1 k.1 (sym both.0), less-not m.2 k.2 both.1) refl
    ])

-- What is kept stays where no later head can be nearer.
pub nearest_settled : (wanted : AtomRecord) (before after : List HeadRecord) (least : ℕ) (kept : List Miss)
    → ((g h : HeadRecord) → In g before → In h after → IsEarlier g h) → ((h : HeadRecord) → In h after → Least wanted least h)
    → AreNearest (flat_map (miss_at wanted) before) kept → length kept ≡ 3 → All (λ m. m.0 ≤ least) kept → AreNearest (flat_map (miss_at wanted) (before ++ after)) kept
nearest_settled wanted before after least kept earlier low are three few =
    let seen = flat_map (miss_at wanted) before in
    subst (λ (ms : List Miss). AreNearest ms kept) (sym (flat_map-append (miss_at wanted) before after))
    (nearest_stays seen kept (flat_map (miss_at wanted) after) are three
    (λ miss k m n.
    let late = miss-from wanted after miss m in
    let early = miss-from wanted before k (kept-among seen kept are k n) in
    let many : least ≤ miss.0 = subst (λ (d : ℕ). least ≤ d) (sym (ap (λ x. x.0) late.3)) (low late.0 late.1 late.2) in
    let at_most : k.0 ≤ least = In-All (λ (m : Miss). m.0 ≤ least) kept few k n in
    let order : (k.1 < miss.1) ⊎ ((k.1 ≡ miss.1) × (k.2 < miss.2)) =
    subst (λ (x : Miss). (x.1 < miss.1) ⊎ ((x.1 ≡ miss.1) × (x.2 < miss.2))) (sym early.3)
    (subst (λ (x : Miss). (early.0.0 < x.1) ⊎ ((early.0.0 ≡ x.1) × (early.0.1 < x.2))) (sym late.3) (earlier early.0 late.0 early.1 late.1)) in
    later-not miss k (omega arith) order))

-- ---- heads as the code has them

pairwise-across : {X : Type 0} (R : X → X → Type 0) (xs ys : List X) → Pairwise R (xs ++ ys) → (x y : X) → In x xs → In y ys → R x y
pairwise-across R [] ys h x y m n = absurd m
pairwise-across {X} R (z ∷ xs) ys h x y (inl e) n = subst (λ (w : X). R w y) (sym e) (h.0 y (In-right y xs ys n))
pairwise-across R (z ∷ xs) ys h x y (inr m) n = pairwise-across R xs ys h.1 x y m n

module _ {X : Type 0} (read : X → HeadRecord) (wanted : AtomRecord) (heads : List X) (i : ℕ) where
  -- no head that is left can be nearer
  pub nearest_ended : (least : ℕ) (kept : List Miss) → AllPairs (λ g h. IsEarlier (read g) (read h)) heads → All (λ h. Least wanted least (read h)) heads
      → AreNearest (flat_map (miss_at wanted) (map read (take i heads))) kept → length kept ≡ 3 → All (λ m. m.0 ≤ least) kept → AreNearest (flat_map (miss_at wanted) (map read heads)) kept
  nearest_ended least kept rising low are three few =
      let before = take i heads in
      let after = drop i heads in
      let whole : before ++ after ≡ heads = take-append-drop i heads in
      let pairs : Pairwise (λ g h. IsEarlier (read g) (read h)) (before ++ after) =
      subst (λ (xs : List X). Pairwise (λ g h. IsEarlier (read g) (read h)) xs) (sym whole) (pairwise-at (λ g h. IsEarlier (read g) (read h)) heads rising) in
      let across : (g h : HeadRecord) → In g (map read before) → In h (map read after) → IsEarlier g h =
      λ g h m n.
      let one = In-map_gives read before g m in
      let other = In-map_gives read after h n in
      subst (λ (x : HeadRecord). IsEarlier x h) (sym one.2) (subst (λ (x : HeadRecord). IsEarlier (read one.0) x) (sym other.2) (pairwise-across (λ g h. IsEarlier (read g) (read h)) before after pairs one.0 other.0 one.1 other.1)) in
      let least-of : (h : HeadRecord) → In h (map read after) → Least wanted least h =
      λ h n.
      let other = In-map_gives read after h n in
      subst (Least wanted least) (sym other.2) (In-All (λ x. Least wanted least (read x)) heads low other.0 (subst (λ (xs : List X). In other.0 xs) whole (In-right other.0 before after other.1))) in
      subst (λ (xs : List HeadRecord). AreNearest (flat_map (miss_at wanted) xs) kept) (sym (map-append read before after) ∙ ap (map read) whole)
      (nearest_settled wanted (map read before) (map read after) least kept across least-of are three few)
