-- Lists each two elements of which stand in a relation, the earlier to the later.
use Rattle.std.proofs.Common.{◌≡◌, ℕ, ◌+◌, ◌<◌, ◌⊎◌, inl, inr, Bool, true, false, List, [], ◌∷◌, ◌++◌, map, count_by, if◌then◌else◌, refl, sym, ap, subst, ◌∙◌, arith}
use Rattle.std.specs.List.{AllByRecursion, IsDistinct, flat_map, enumerate_from}
use Rattle.std.specs.Bool.{Decides}
use Rattle.std.proofs.lemmas.List.Sums.{sum_by-append, sum_by-cons}
use Rattle.cq_board.proofs.Members.{In, In-left, In-right, In-append, In-flat_map_gives, by_bool}
use Rattle.cq_board.proofs.Ends.{In-enumerate_from, In-filter_among}
use Rattle.std.specs.Prelude.{filter}

abbrev pub Pairwise : {X : Type 0} → (X → X → Type 0) → List X → Type 0
Pairwise {X} R [] = Unit {0}
Pairwise {X} R (x ∷ xs) = ((y : X) → In y xs → R x y) × Pairwise R xs

abbrev pub Differ : {X : Type 0} → X → X → Type 0
Differ x y = x ≡ y → ⊥

pub Pairwise-append : {X : Type 0} (R : X → X → Type 0) (xs ys : List X) → Pairwise R xs → Pairwise R ys → ((x y : X) → In x xs → In y ys → R x y) → Pairwise R (xs ++ ys)
Pairwise-append R [] ys a b c = b
Pairwise-append R (x ∷ xs) ys a b c = (
  λ y m. elim (In-append y xs ys m) [ inl k ↦ a.0 y k | inr k ↦ c x y (inl refl) k ],
  Pairwise-append R xs ys a.1 b (λ z y m k. c z y (inr m) k),
)

pub Pairwise-flat_map : {X Y : Type 0} (S : X → X → Type 0) (R : Y → Y → Type 0) (f : X → List Y) (xs : List X) → Pairwise S xs → ((x : X) → Pairwise R (f x))
    → ((x z : X) → S x z → (y w : Y) → In y (f x) → In w (f z) → R y w) → Pairwise R (flat_map f xs)
Pairwise-flat_map S R f [] h each apart = tt
Pairwise-flat_map S R f (x ∷ xs) h each apart =
    Pairwise-append R (f x) (flat_map f xs) (each x) (Pairwise-flat_map S R f xs h.1 each apart)
    (λ y w m k. let from = In-flat_map_gives f xs w k in apart x from.0 (h.0 from.0 from.1) y w m from.2)

pub Pairwise-filter : {X : Type 0} (R : X → X → Type 0) (p : X → Bool) (xs : List X) → Pairwise R xs → Pairwise R (filter p xs)
Pairwise-filter R p [] h = tt
Pairwise-filter R p (x ∷ xs) h =
    by_bool (p x) (Pairwise R (filter p (x ∷ xs)))
    (λ t. rw t (λ y m. h.0 y (In-filter_among p xs y m), Pairwise-filter R p xs h.1))
    (λ f. rw f (Pairwise-filter R p xs h.1))

-- places rise
pub enumerate-rises : {X : Type 0} (n : ℕ) (xs : List X) → Pairwise (λ (p q : ℕ × X). p.0 < q.0) (enumerate_from n xs)
enumerate-rises n [] = tt
enumerate-rises n (x ∷ xs) = (λ q m. let found = In-enumerate_from (n + 1) xs q m in let at = found.1 in omega arith, enumerate-rises (n + 1) xs)

-- keys that a list gives its elements, and that differ
pub distinct-differ : {X K : Type 0} (same : K → K → Bool) (decides : (k l : K) → Decides (same k l) (k ≡ l)) (f : X → K) (xs : List X) → IsDistinct same (map f xs) → Pairwise (λ x y. Differ (f x) (f y)) xs
unfolding IsDistinct
distinct-differ same decides f [] h = tt
distinct-differ {X} {K} same decides f (x ∷ xs) h = (λ y m e. apart xs h.0 y m e, distinct-differ same decides f xs h.1)
  where
    apart : (ys : List X) → AllByRecursion (λ k. same (f x) k ≡ false) (map f ys) → (y : X) → In y ys → f x ≡ f y → ⊥
    apart [] all y m e = m
    apart (z ∷ ys) all y (inl s) e = let t : same (f x) (f z) ≡ true = (decides (f x) (f z)).1 (e ∙ ap f s) in let first : same (f x) (f z) ≡ false = all.0 in cc
    apart (z ∷ ys) all y (inr m) e = apart ys all.1 y m e

-- elements with the same key are one
pub same-key : {X K : Type 0} (f : X → K) (xs : List X) → Pairwise (λ x y. Differ (f x) (f y)) xs → (x y : X) → In x xs → In y xs → f x ≡ f y → x ≡ y
same-key f [] h x y m n e = absurd m
same-key f (z ∷ xs) h x y (inl p) (inl q) e = p ∙ sym q
same-key f (z ∷ xs) h x y (inl p) (inr n) e = absurd (h.0 y n (ap f (sym p) ∙ e))
same-key f (z ∷ xs) h x y (inr m) (inl q) e = absurd (h.0 x m (ap f (sym q) ∙ sym e))
same-key f (z ∷ xs) h x y (inr m) (inr n) e = same-key f xs h.1 x y m n e

-- ---- lists without doubles that have the same members

module _ {X : Type 0} where
  In-middle : (x y : X) (xs ys : List X) → In y (xs ++ ys) → In y (xs ++ x ∷ ys)
  In-middle x y xs ys h = elim (In-append y xs ys h) [ inl k ↦ In-left y xs (x ∷ ys) k | inr k ↦ In-right y xs (x ∷ ys) (inr k) ]

  In-middle_cases : (x y : X) (xs ys : List X) → In y (xs ++ x ∷ ys) → (y ≡ x) ⊎ In y (xs ++ ys)
  In-middle_cases x y xs ys h =
      elim (In-append y xs (x ∷ ys) h) [
        | inl k ↦ inr (In-left y xs ys k)
        | inr k ↦ elim k [ inl e ↦ inl e | inr l ↦ inr (In-right y xs ys l) ]
      ]

  differ-middle : (x : X) (xs ys : List X) → Pairwise Differ (xs ++ x ∷ ys) → Pairwise Differ (x ∷ (xs ++ ys))
  differ-middle x [] ys h = h
  differ-middle x (z ∷ xs) ys h =
      let rest = differ-middle x xs ys h.1 in (
        λ y m e. elim m [
          | inl s ↦ h.0 x (In-right x xs (x ∷ ys) (inl refl)) (sym s ∙ sym e)
          | inr k ↦ rest.0 y k e
        ],
        (λ y m. h.0 y (In-middle x y xs ys m), rest.1),
      )

  In-split : (x : X) (ys : List X) → In x ys → (before : List X) × (after : List X) × (ys ≡ before ++ x ∷ after)
  In-split x [] h = absurd h
  In-split x (y ∷ ys) (inl e) = ([], ys, ap (λ z. z ∷ ys) (sym e))
  In-split x (y ∷ ys) (inr h) = let found = In-split x ys h in (y ∷ found.0, found.1, ap (λ zs. y ∷ zs) found.2)

  not-first : (x y : X) (xs : List X) → Differ x y → In y (x ∷ xs) → In y xs
  not-first x y xs d (inl e) = absurd (d (sym e))
  not-first x y xs d (inr h) = h

  not-middle : (x y : X) (xs ys : List X) → Differ x y → In y (xs ++ x ∷ ys) → In y (xs ++ ys)
  not-middle x y xs ys d h = elim (In-middle_cases x y xs ys h) [ inl e ↦ absurd (d (sym e)) | inr k ↦ k ]

  pub same_counts : (test : X → Bool) (xs ys : List X) → Pairwise Differ xs → Pairwise Differ ys → ((x : X) → In x xs → In x ys) → ((x : X) → In x ys → In x xs) → count_by test xs ≡ count_by test ys
  same_counts test [] [] a b there back = refl
  same_counts test [] (y ∷ ys) a b there back = absurd (back y (inl refl))
  same_counts test (x ∷ xs) ys a b there back =
      let split = In-split x ys (there x (inl refl)) in
      let before = split.0 in
      let after = split.1 in
      let apart = differ-middle x before after (subst (Pairwise Differ) split.2 b) in
      let rest : count_by test xs ≡ count_by test (before ++ after) =
      same_counts test xs (before ++ after) a.1 apart.1
      (λ y m. not-middle x y before after (a.0 y m) (subst (In y) split.2 (there y (inr m))))
      (λ y m. not-first x y xs (apart.0 y m) (back y (subst (In y) (sym split.2) (In-middle x y before after m)))) in
      let number : X → ℕ = λ z. if test z then 1 else 0 in
      let first : count_by test (x ∷ xs) ≡ number x + count_by test xs = sum_by-cons number x xs in
      let parts : count_by test (before ++ after) ≡ count_by test before + count_by test after = sum_by-append number before after in
      let whole : count_by test (before ++ x ∷ after) ≡ count_by test before + count_by test (x ∷ after) = sum_by-append number before (x ∷ after) in
      let second : count_by test (x ∷ after) ≡ number x + count_by test after = sum_by-cons number x after in
      let same : count_by test ys ≡ count_by test (before ++ x ∷ after) = ap (count_by test) split.2 in
      omega arith
