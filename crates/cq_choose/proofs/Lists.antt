-- Members of lists.
use Rattle.std.proofs.Common.{◌≡◌, ◌⊎◌, ℕ, zero, suc, ◌+◌, ◌<◌, inl, inr, Bool, true, false, List, [], ◌∷◌, ◌++◌, length, map, get_or, refl, sym, ap, subst, ◌∙◌, arith, Some, None, Option}
use Rattle.std.specs.Prelude.{filter}
use Rattle.std.specs.List.{All, Any, AllByRecursion, Contains, enumerate_from, filter_map, flat_map, slice_get}

pub by_bool : (b : Bool) (P : Type 0) → (b ≡ true → P) → (b ≡ false → P) → P
by_bool true P f g = f refl
by_bool false P f g = g refl

pub not_true : (b : Bool) → (b ≡ true → ⊥) → b ≡ false
not_true true n = absurd (n refl)
not_true false n = refl

-- x stands in the list
abbrev pub In : {X : Type 0} → X → List X → Type 0
In x [] = ⊥
In x (y ∷ ys) = (x ≡ y) ⊎ In x ys

module _ {X : Type 0} where
  pub In-left : (x : X) (xs ys : List X) → In x xs → In x (xs ++ ys)
  In-left x [] ys h = absurd h
  In-left x (z ∷ xs) ys (inl e) = inl e
  In-left x (z ∷ xs) ys (inr h) = inr (In-left x xs ys h)

  pub In-right : (x : X) (xs ys : List X) → In x ys → In x (xs ++ ys)
  In-right x [] ys h = h
  In-right x (z ∷ xs) ys h = inr (In-right x xs ys h)

  pub In-append : (x : X) (xs ys : List X) → In x (xs ++ ys) → In x xs ⊎ In x ys
  In-append x [] ys h = inr h
  In-append x (z ∷ xs) ys (inl e) = inl (inl e)
  In-append x (z ∷ xs) ys (inr h) = elim (In-append x xs ys h) [ inl k ↦ inl (inr k) | inr k ↦ inr k ]

  pub In-get_or : (xs : List X) (k : ℕ) (d : X) → k < length xs → In (get_or xs k d) xs
  In-get_or [] k d h = absurd (omega arith)
  In-get_or (x ∷ xs) zero d h = inl refl
  In-get_or (x ∷ xs) (suc k) d h = inr (In-get_or xs k d (omega arith))

  pub Contains-In : (xs : List X) (x : X) → In x xs → Contains xs x
  Contains-In [] x h = absurd h
  Contains-In (y ∷ xs) x (inl e) = (0, omega arith, sym e)
  Contains-In (y ∷ xs) x (inr h) = let more = Contains-In xs x h in let within : more.0 < length xs = more.1 in (suc more.0, omega arith, more.2)

  pub In-Contains : (xs : List X) (x : X) → Contains xs x → In x xs
  In-Contains xs x h = subst (λ (y : X). In y xs) h.2 (In-get_or xs h.0 x h.1)

  pub All-In : (P : X → Type 0) (xs : List X) → ((x : X) → In x xs → P x) → All P xs
  All-In P xs f = λ k d h. f (get_or xs k d) (In-get_or xs k d h)

  pub In-All : (P : X → Type 0) (xs : List X) → All P xs → (x : X) → In x xs → P x
  In-All P xs f x h = let found = Contains-In xs x h in subst P found.2 (f found.0 x found.1)

  pub Any-In : (P : X → Type 0) (xs : List X) (x : X) → In x xs → P x → Any P xs
  Any-In P xs x h p = let found = Contains-In xs x h in (found.0, x, found.1, found.2, p)

  pub In-Any : (P : X → Type 0) (xs : List X) → Any P xs → (x : X) × In x xs × P x
  In-Any P xs h = (h.1, subst (λ (y : X). In y xs) h.3 (In-get_or xs h.0 h.1 h.2), h.4)

  pub each-In : (P : X → Type 0) (xs : List X) → ((x : X) → In x xs → P x) → AllByRecursion P xs
  each-In P [] f = tt
  each-In P (x ∷ xs) f = (f x (inl refl), each-In P xs (λ y m. f y (inr m)))

  pub In-each : (P : X → Type 0) (xs : List X) → AllByRecursion P xs → (x : X) → In x xs → P x
  In-each P [] all x h = absurd h
  In-each P (y ∷ xs) all x (inl e) = subst P (sym e) all.0
  In-each P (y ∷ xs) all x (inr h) = In-each P xs all.1 x h

  pub In-filter : (p : X → Bool) (xs : List X) (x : X) → In x xs → p x ≡ true → In x (filter p xs)
  In-filter p [] x h t = absurd h
  In-filter p (y ∷ xs) x (inl e) t = let k : p y ≡ true = ap p (sym e) ∙ t in rw k (inl e)
  In-filter p (y ∷ xs) x (inr h) t = by_bool (p y) (In x (filter p (y ∷ xs))) (λ k. rw k (inr (In-filter p xs x h t))) (λ k. rw k (In-filter p xs x h t))

  pub In-filter_gives : (p : X → Bool) (xs : List X) (x : X) → In x (filter p xs) → In x xs × (p x ≡ true)
  In-filter_gives p [] x h = absurd h
  In-filter_gives p (y ∷ xs) x h =
      by_bool (p y) (In x (y ∷ xs) × (p x ≡ true))
      (λ k. elim (rw k at h) as (λ _. In x (y ∷ xs) × (p x ≡ true)) [ inl e ↦ (inl e, ap p e ∙ k) | inr m ↦ let more = In-filter_gives p xs x m in (inr more.0, more.1) ])
      (λ k. let more = In-filter_gives p xs x (rw k at h) in (inr more.0, more.1))

  pub In-at : (xs : List X) (k : ℕ) (x : X) → slice_get xs k ≡ Some x → In x xs
  In-at [] k x e = cc
  In-at (y ∷ xs) zero x e = let same : x ≡ y = cc in inl same
  In-at (y ∷ xs) (suc k) x e = inr (In-at xs k x e)

  pub at-In : (xs : List X) (x : X) → In x xs → (k : ℕ) × (slice_get xs k ≡ Some x)
  at-In [] x h = absurd h
  at-In (y ∷ xs) x (inl e) = (0, ap Some (sym e))
  at-In (y ∷ xs) x (inr h) = let more = at-In xs x h in (suc more.0, more.1)

  pub enumerate-has : (n : ℕ) (xs : List X) (k : ℕ) (x : X) → slice_get xs k ≡ Some x → In (n + k, x) (enumerate_from n xs)
  enumerate-has n [] k x e = cc
  enumerate-has n (y ∷ xs) zero x e = let same : x ≡ y = cc in let at : n + 0 ≡ n = omega arith in inl (ap (λ (m : ℕ). (m, x)) at ∙ ap (λ (z : X). (n, z)) same)
  enumerate-has n (y ∷ xs) (suc k) x e = let at : n + 1 + k ≡ n + suc k = omega arith in inr (subst (λ (m : ℕ). In (m, x) (enumerate_from (n + 1) xs)) at (enumerate-has (n + 1) xs k x e))

  pub enumerate-gives : (n : ℕ) (xs : List X) (p : ℕ × X) → In p (enumerate_from n xs) → (k : ℕ) × (p.0 ≡ n + k) × (slice_get xs k ≡ Some p.1)
  enumerate-gives n [] p h = absurd h
  enumerate-gives n (y ∷ xs) p (inl e) = (0, ap (λ (q : ℕ × X). q.0) e ∙ (let at : n ≡ n + 0 = omega arith in at), ap (λ (q : ℕ × X). Some q.1) (sym e))
  enumerate-gives n (y ∷ xs) p (inr h) = let more = enumerate-gives (n + 1) xs p h in (suc more.0, more.1 ∙ (let at : n + 1 + more.0 ≡ n + suc more.0 = omega arith in at), more.2)

pub by_option : {Y : Type 0} (o : Option Y) (P : Type 0) → (o ≡ None → P) → ((y : Y) → o ≡ Some y → P) → P
by_option None P f g = f refl
by_option (Some y) P f g = g y refl

module _ {X Y : Type 0} where
  pub In-map : (f : X → Y) (xs : List X) (x : X) → In x xs → In (f x) (map f xs)
  In-map f [] x h = absurd h
  In-map f (y ∷ xs) x (inl e) = inl (ap f e)
  In-map f (y ∷ xs) x (inr h) = inr (In-map f xs x h)

  pub In-map_gives : (f : X → Y) (xs : List X) (y : Y) → In y (map f xs) → (x : X) × In x xs × (y ≡ f x)
  In-map_gives f [] y h = absurd h
  In-map_gives f (x ∷ xs) y (inl e) = (x, inl refl, e)
  In-map_gives f (x ∷ xs) y (inr h) = let more = In-map_gives f xs y h in (more.0, inr more.1, more.2)

  pub In-flat_map : (f : X → List Y) (xs : List X) (x : X) (y : Y) → In x xs → In y (f x) → In y (flat_map f xs)
  In-flat_map f [] x y h k = absurd h
  In-flat_map f (z ∷ xs) x y (inl e) k = In-left y (f z) (flat_map f xs) (rw (← e) k)
  In-flat_map f (z ∷ xs) x y (inr h) k = In-right y (f z) (flat_map f xs) (In-flat_map f xs x y h k)

  pub In-flat_map_gives : (f : X → List Y) (xs : List X) (y : Y) → In y (flat_map f xs) → (x : X) × In x xs × In y (f x)
  In-flat_map_gives f [] y h = absurd h
  In-flat_map_gives f (x ∷ xs) y h =
      elim (In-append y (f x) (flat_map f xs) h) [
        | inl k ↦ (x, inl refl, k)
        | inr k ↦ let more = In-flat_map_gives f xs y k in (more.0, inr more.1, more.2)
      ]

  pub filter_map-some : (f : X → Option Y) (x : X) (xs : List X) (y : Y) → f x ≡ Some y → filter_map f (x ∷ xs) ≡ y ∷ filter_map f xs
  filter_map-some f x xs y e = rw e refl

  pub filter_map-none : (f : X → Option Y) (x : X) (xs : List X) → f x ≡ None → filter_map f (x ∷ xs) ≡ filter_map f xs
  filter_map-none f x xs e = rw e refl

  pub In-filter_map : (f : X → Option Y) (xs : List X) (x : X) (y : Y) → In x xs → f x ≡ Some y → In y (filter_map f xs)
  In-filter_map f [] x y h e = absurd h
  In-filter_map f (z ∷ xs) x y (inl k) e = subst (In y) (sym (filter_map-some f z xs y (ap f (sym k) ∙ e))) (inl refl)
  In-filter_map f (z ∷ xs) x y (inr h) e =
      let more = In-filter_map f xs x y h e in
      by_option (f z) (In y (filter_map f (z ∷ xs)))
      (λ n. subst (In y) (sym (filter_map-none f z xs n)) more)
      (λ w s. subst (In y) (sym (filter_map-some f z xs w s)) (inr more))

  pub In-filter_map_gives : (f : X → Option Y) (xs : List X) (y : Y) → In y (filter_map f xs) → (x : X) × In x xs × (f x ≡ Some y)
  In-filter_map_gives f [] y h = absurd h
  In-filter_map_gives f (z ∷ xs) y h =
      let later : In y (filter_map f xs) → (x : X) × In x (z ∷ xs) × (f x ≡ Some y) = λ m. let more = In-filter_map_gives f xs y m in (more.0, inr more.1, more.2) in
      by_option (f z) ((x : X) × In x (z ∷ xs) × (f x ≡ Some y))
      (λ n. later (subst (In y) (filter_map-none f z xs n) h))
      (λ w s. elim (subst (In y) (filter_map-some f z xs w s) h) as (λ _. (x : X) × In x (z ∷ xs) × (f x ≡ Some y)) [ inl e ↦ (z, inl refl, s ∙ ap Some (sym e)) | inr m ↦ later m ])
