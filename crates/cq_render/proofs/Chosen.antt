-- Elements of a list that pass a test, one after another.
use Rattle.std.proofs.Common.{◌≡◌, ◌<◌, ◌+◌, ◌++◌, ◌∷◌, [], ℕ, List, Bool, true, false, length, map, take, get_or, refl, sym, ap, ◌∙◌, append-nil}
use Rattle.std.specs.Prelude.{filter}
use Rattle.std.proofs.lemmas.List.{map-append, take_more}
use Rattle.std.proofs.lemmas.List.Elements.{filter-append}

module _ {X Y : Type 0} (p : Y → Bool) (h : X → Y) (ys : List Y) (xs : List X) (i : ℕ) (x : X) (low : i < length xs) (is : x ≡ get_or xs i x) (so_far : ys ≡ filter p (map h (take i xs))) where
  next : filter p (map h (take (i + 1) xs)) ≡ ys ++ filter p (h x ∷ [])
  next =
      ap (λ (l : List X). filter p (map h l)) (take_more xs i x low ∙ ap (λ (z : X). take i xs ++ z ∷ []) (sym is))
      ∙ ap (filter p) (map-append h (take i xs) (x ∷ []))
      ∙ filter-append p (map h (take i xs)) (h x ∷ [])
      ∙ ap (λ (l : List Y). l ++ filter p (h x ∷ [])) (sym so_far)

  -- the next one passes
  pub taken_next : p (h x) ≡ true → ys ++ h x ∷ [] ≡ filter p (map h (take (i + 1) xs))
  taken_next passes = let only : filter p (h x ∷ []) ≡ h x ∷ [] = rw passes refl in sym (next ∙ ap (λ (l : List Y). ys ++ l) only)

  -- the next one does not
  pub left_next : p (h x) ≡ false → ys ≡ filter p (map h (take (i + 1) xs))
  left_next fails = let none : filter p (h x ∷ []) ≡ [] = rw fails refl in sym (next ∙ ap (λ (l : List Y). ys ++ l) none ∙ append-nil ys)
