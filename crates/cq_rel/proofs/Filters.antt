-- What a filter keeps of a list, by places.
use Rattle.std.proofs.Common.{◌≡◌, ℕ, zero, suc, ◌<◌, ◌≤◌, ◌+◌, Bool, true, false, ◌||◌, List, [], ◌∷◌, ◌++◌, length, get_or, take, drop, refl, ap, arith, Ordering}
use Rattle.std.specs.declared.cmp.Ordering.TheVariants.{Less}
use Rattle.std.specs.List.{filter, list_any, AllWithin, AllByRecursion, remove}
use Rattle.std.specs.List.Sorted.{IsStrictlySortedBy}

module _ {X : Type 0} (p : X → Bool) where
  pub all-kept : (xs : List X) → AllByRecursion (λ x. p x ≡ true) xs → filter p xs ≡ xs
  all-kept [] h = refl
  all-kept (x ∷ xs) h = rw h.0 (ap (λ (ys : List X). x ∷ ys) (all-kept xs h.1))

  pub none-kept : (xs : List X) → AllByRecursion (λ x. p x ≡ false) xs → filter p xs ≡ []
  none-kept [] h = refl
  none-kept (x ∷ xs) h = rw h.0 (none-kept xs h.1)

  pub none-any : (xs : List X) → AllByRecursion (λ x. p x ≡ false) xs → list_any p xs ≡ false
  none-any [] h = refl
  none-any (x ∷ xs) h = rw h.0 (none-any xs h.1)

  pub any-at : (xs : List X) (i : ℕ) → i < length xs → ((d : X) → p (get_or xs i d) ≡ true) → list_any p xs ≡ true
  any-at [] i low h = absurd (omega arith)
  any-at (x ∷ xs) zero low h = rw (h x) refl
  any-at (x ∷ xs) (suc i) low h = any-later (p x) (any-at xs i (omega arith) h)
    where
      any-later : (b : Bool) → list_any p xs ≡ true → (b || list_any p xs) ≡ true
      any-later true e = refl
      any-later false e = e

  pub front-kept : (xs : List X) (i : ℕ) → AllWithin (λ x. p x ≡ true) xs 0 i → AllWithin (λ x. p x ≡ false) xs i (length xs) → i ≤ length xs → filter p xs ≡ take i xs
  front-kept [] zero pass fail high = refl
  front-kept [] (suc i) pass fail high = refl
  front-kept (x ∷ xs) zero pass fail high = rw (fail 0 x (omega arith) (omega arith)) (front-kept xs zero (λ k d low up. absurd (omega arith)) (λ k d low up. fail (suc k) d (omega arith) (omega arith)) (omega arith))
  front-kept (x ∷ xs) (suc i) pass fail high = rw (pass 0 x (omega arith) (omega arith)) (ap (λ (ys : List X). x ∷ ys) (front-kept xs i (λ k d low up. pass (suc k) d (omega arith) (omega arith)) (λ k d low up. fail (suc k) d (omega arith) (omega arith)) (omega arith)))

  pub rest-kept : (xs : List X) (i : ℕ) → AllWithin (λ x. p x ≡ false) xs 0 i → AllWithin (λ x. p x ≡ true) xs i (length xs) → i ≤ length xs → filter p xs ≡ drop i xs
  rest-kept [] zero fail pass high = refl
  rest-kept [] (suc i) fail pass high = refl
  rest-kept (x ∷ xs) zero fail pass high = rw (pass 0 x (omega arith) (omega arith)) (ap (λ (ys : List X). x ∷ ys) (rest-kept xs zero (λ k d low up. absurd (omega arith)) (λ k d low up. pass (suc k) d (omega arith) (omega arith)) (omega arith)))
  rest-kept (x ∷ xs) (suc i) fail pass high = rw (fail 0 x (omega arith) (omega arith)) (rest-kept xs i (λ k d low up. fail (suc k) d (omega arith) (omega arith)) (λ k d low up. pass (suc k) d (omega arith) (omega arith)) (omega arith))

  -- all but the element at i
  pub others-kept : (xs : List X) (i : ℕ) → i < length xs → ((d : X) → p (get_or xs i d) ≡ false) → AllWithin (λ x. p x ≡ true) xs 0 i → AllWithin (λ x. p x ≡ true) xs (i + 1) (length xs) → filter p xs ≡ remove xs i
  others-kept [] i low here before after = absurd (omega arith)
  others-kept (x ∷ xs) zero low here before after = rw (here x) (rest-kept xs zero (λ k d low up. absurd (omega arith)) (λ k d low up. after (suc k) d (omega arith) (omega arith)) (omega arith))
  others-kept (x ∷ xs) (suc i) low here before after = rw (before 0 x (omega arith) (omega arith)) (ap (λ (ys : List X). x ∷ ys) (others-kept xs i (omega arith) here (λ k d low up. before (suc k) d (omega arith) (omega arith)) (λ k d low up. after (suc k) d (omega arith) (omega arith))))

module _ {X : Type 0} (c : X → X → Ordering) where
  above : X → List X → Type 0
  above x ys = AllByRecursion (λ y. c x y ≡ Less) ys

  above-append : (x : X) (xs ys : List X) → AllByRecursion (λ y. c x y ≡ Less) xs → AllByRecursion (λ y. c x y ≡ Less) ys → AllByRecursion (λ y. c x y ≡ Less) (xs ++ ys)
  above-append x [] ys p q = q
  above-append x (z ∷ xs) ys p q = (p.0, above-append x xs ys p.1 q)

  pub sorted-append : (xs ys : List X) → IsStrictlySortedBy c xs → IsStrictlySortedBy c ys → AllByRecursion (λ x. AllByRecursion (λ y. c x y ≡ Less) ys) xs → IsStrictlySortedBy c (xs ++ ys)
  unfolding IsStrictlySortedBy
  sorted-append [] ys p q between = q
  sorted-append (x ∷ xs) ys p q between = (above-append x xs ys p.0 between.0, sorted-append xs ys p.1 q between.1)

  pub sorted-cons : (x : X) (xs : List X) → AllByRecursion (λ y. c x y ≡ Less) xs → IsStrictlySortedBy c xs → IsStrictlySortedBy c (x ∷ xs)
  unfolding IsStrictlySortedBy
  sorted-cons x xs p q = (p, q)
