-- Members of lists, in the words of the library.
use Rattle.std.proofs.Common.{◌≡◌, ℕ, zero, suc, ◌+◌, ◌<◌, Bool, true, List, [], ◌∷◌, length, refl, sym, ap, subst, ◌∙◌, arith, get_or, inl, inr, Some}
use Rattle.std.specs.List.{All, Any, Contains, list_all, enumerate_from, slice_get}
use Rattle.cq_board.proofs.Members.{In}
use Rattle.cq_board.proofs.Ends.{In-get_or}

module _ {X : Type 0} where
  pub Contains-In : (xs : List X) (x : X) → In x xs → Contains xs x
  Contains-In [] x h = absurd h
  Contains-In (y ∷ xs) x (inl e) = (0, omega arith, sym e)
  Contains-In (y ∷ xs) x (inr h) = let more = Contains-In xs x h in let within : more.0 < length xs = more.1 in (suc more.0, omega arith, more.2)

  pub In-Contains : (xs : List X) (x : X) → Contains xs x → In x xs
  In-Contains xs x h = subst (λ (y : X). In y xs) h.2 (In-get_or xs h.0 x h.1)

  pub All-In : (P : X → Type 0) (xs : List X) → ((x : X) → In x xs → P x) → All P xs
  All-In P xs f = λ k d h. f (get_or xs k d) (In-get_or xs k d h)

  pub In-All : (P : X → Type 0) (xs : List X) → All P xs → (x : X) → In x xs → P x
  In-All P xs f x h = let found = Contains-In xs x h in subst P found.2 (f found.0 x found.1)

  pub Any-In : (P : X → Type 0) (xs : List X) (x : X) → In x xs → P x → Any P xs
  Any-In P xs x h p = let found = Contains-In xs x h in (found.0, x, found.1, found.2, p)

  pub In-Any : (P : X → Type 0) (xs : List X) → Any P xs → (x : X) × In x xs × P x
  In-Any P xs h = (h.1, subst (λ (y : X). In y xs) h.3 (In-get_or xs h.0 h.1 h.2), h.4)

  pub all_has : (p : X → Bool) (xs : List X) → ((x : X) → In x xs → p x ≡ true) → list_all p xs ≡ true
  all_has p [] h = refl
  all_has p (x ∷ xs) h = rw (h x (inl refl)) (all_has p xs (λ y m. h y (inr m)))

  -- an element stands in the list with its place
  pub enumerate_from-In : (n : ℕ) (xs : List X) (k : ℕ) (x : X) → slice_get xs k ≡ Some x → In (n + k, x) (enumerate_from n xs)
  enumerate_from-In n [] k x e = cc
  enumerate_from-In n (y ∷ xs) zero x e = let same : x ≡ y = cc in let at : n + 0 ≡ n = omega arith in inl (ap (λ (m : ℕ). (m, x)) at ∙ ap (λ (z : X). (n, z)) same)
  enumerate_from-In n (y ∷ xs) (suc k) x e = let at : n + 1 + k ≡ n + suc k = omega arith in inr (subst (λ (m : ℕ). In (m, x) (enumerate_from (n + 1) xs)) at (enumerate_from-In (n + 1) xs k x e))

  pub enumerate-In : (xs : List X) (k : ℕ) (x : X) → slice_get xs k ≡ Some x → In (k, x) (enumerate_from 0 xs)
  enumerate-In xs k x e = let at : 0 + k ≡ k = omega arith in subst (λ (m : ℕ). In (m, x) (enumerate_from 0 xs)) at (enumerate_from-In 0 xs k x e)

  pub In-slice_get : (xs : List X) (x : X) → In x xs → (k : ℕ) × (slice_get xs k ≡ Some x)
  In-slice_get [] x h = absurd h
  In-slice_get (y ∷ xs) x (inl e) = (0, ap Some (sym e))
  In-slice_get (y ∷ xs) x (inr h) = let more = In-slice_get xs x h in (suc more.0, more.1)
