-- Members of lists.
use Rattle.std.proofs.Common.{◌≡◌, ◌⊎◌, inl, inr, Bool, true, false, List, [], ◌∷◌, ◌++◌, map, refl, sym, ap, ◌∙◌}
use Rattle.std.specs.Prelude.{filter}
use Rattle.std.specs.List.{list_any, flat_map}

pub by_bool : (b : Bool) (P : Type 0) → (b ≡ true → P) → (b ≡ false → P) → P
by_bool true P f g = f refl
by_bool false P f g = g refl

-- x stands in the list
abbrev pub In : {X : Type 0} → X → List X → Type 0
In x [] = ⊥
In x (y ∷ ys) = (x ≡ y) ⊎ In x ys

module _ {X : Type 0} where
  pub In-left : (x : X) (xs ys : List X) → In x xs → In x (xs ++ ys)
  In-left x [] ys h = absurd h
  In-left x (z ∷ xs) ys (inl e) = inl e
  In-left x (z ∷ xs) ys (inr h) = inr (In-left x xs ys h)

  pub In-right : (x : X) (xs ys : List X) → In x ys → In x (xs ++ ys)
  In-right x [] ys h = h
  In-right x (z ∷ xs) ys h = inr (In-right x xs ys h)

  pub In-append : (x : X) (xs ys : List X) → In x (xs ++ ys) → In x xs ⊎ In x ys
  In-append x [] ys h = inr h
  In-append x (z ∷ xs) ys (inl e) = inl (inl e)
  In-append x (z ∷ xs) ys (inr h) = elim (In-append x xs ys h) [ inl k ↦ inl (inr k) | inr k ↦ inr k ]

  pub any_gives : (p : X → Bool) (xs : List X) → list_any p xs ≡ true → (x : X) × In x xs × (p x ≡ true)
  any_gives p [] h = cc
  any_gives p (x ∷ xs) h =
      by_bool (p x) ((y : X) × In y (x ∷ xs) × (p y ≡ true))
      (λ t. (x, inl refl, t))
      (λ f. let more = any_gives p xs (rw f at h) in (more.0, inr more.1, more.2))

  pub any_has : (p : X → Bool) (xs : List X) (x : X) → In x xs → p x ≡ true → list_any p xs ≡ true
  any_has p [] x h t = absurd h
  any_has p (y ∷ xs) x (inl e) t = let k : p y ≡ true = ap p (sym e) ∙ t in rw k refl
  any_has p (y ∷ xs) x (inr h) t =
      by_bool (p y) (list_any p (y ∷ xs) ≡ true) (λ k. rw k refl) (λ k. rw k (any_has p xs x h t))

  pub In-filter_gives : (p : X → Bool) (xs : List X) (x : X) → In x (filter p xs) → p x ≡ true
  In-filter_gives p [] x h = absurd h
  In-filter_gives p (y ∷ xs) x h =
      by_bool (p y) (p x ≡ true)
      (λ k. elim (rw k at h) as (λ _. p x ≡ true) [ inl e ↦ ap p e ∙ k | inr m ↦ In-filter_gives p xs x m ])
      (λ k. In-filter_gives p xs x (rw k at h))

  pub In-filter : (p : X → Bool) (xs : List X) (x : X) → In x xs → p x ≡ true → In x (filter p xs)
  In-filter p [] x h t = absurd h
  In-filter p (y ∷ xs) x (inl e) t = let k : p y ≡ true = ap p (sym e) ∙ t in rw k (inl e)
  In-filter p (y ∷ xs) x (inr h) t =
      by_bool (p y) (In x (filter p (y ∷ xs))) (λ k. rw k (inr (In-filter p xs x h t))) (λ k. rw k (In-filter p xs x h t))

module _ {X Y : Type 0} where
  pub In-map : (f : X → Y) (xs : List X) (x : X) → In x xs → In (f x) (map f xs)
  In-map f [] x h = absurd h
  In-map f (y ∷ xs) x (inl e) = inl (ap f e)
  In-map f (y ∷ xs) x (inr h) = inr (In-map f xs x h)

  pub In-map_gives : (f : X → Y) (xs : List X) (y : Y) → In y (map f xs) → (x : X) × In x xs × (y ≡ f x)
  In-map_gives f [] y h = absurd h
  In-map_gives f (x ∷ xs) y (inl e) = (x, inl refl, e)
  In-map_gives f (x ∷ xs) y (inr h) = let more = In-map_gives f xs y h in (more.0, inr more.1, more.2)

  pub In-flat_map : (f : X → List Y) (xs : List X) (x : X) (y : Y) → In x xs → In y (f x) → In y (flat_map f xs)
  In-flat_map f [] x y h k = absurd h
  In-flat_map f (z ∷ xs) x y (inl e) k = In-left y (f z) (flat_map f xs) (rw (← e) k)
  In-flat_map f (z ∷ xs) x y (inr h) k = In-right y (f z) (flat_map f xs) (In-flat_map f xs x y h k)

  pub In-flat_map_gives : (f : X → List Y) (xs : List X) (y : Y) → In y (flat_map f xs) → (x : X) × In x xs × In y (f x)
  In-flat_map_gives f [] y h = absurd h
  In-flat_map_gives f (x ∷ xs) y h =
      elim (In-append y (f x) (flat_map f xs) h) [
        | inl k ↦ (x, inl refl, k)
        | inr k ↦ let more = In-flat_map_gives f xs y k in (more.0, inr more.1, more.2)
      ]
