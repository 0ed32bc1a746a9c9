-- Lists that are gone through from the front.
use Rattle.std.proofs.Common.{◌≡◌, ℕ, zero, suc, ◌+◌, ◌<◌, ◌≤◌, inl, inr, Bool, true, List, [], ◌∷◌, ◌++◌, length, map, take, get_or, sym, ap, subst, ◌∙◌, arith}
use Rattle.std.specs.List.{All}
use Rattle.std.proofs.lemmas.List.{map-append, take_all, take_more}
use Rattle.cq_choose.specs.Steps.Reach.{is_spare}
use Rattle.cq_choose.proofs.Lists.{In-append, All-In, In-All}

module _ {X : Type 0} where
  taken : (xs : List X) (i : ℕ) (x : X) → i < length xs → x ≡ get_or xs i x → take (i + 1) xs ≡ take i xs ++ x ∷ []
  taken xs i x low is = take_more xs i x low ∙ ap (λ (z : X). take i xs ++ z ∷ []) (sym is)

  push-all : (P : X → Type 0) (xs : List X) (x : X) → All P xs → P x → All P (xs ++ x ∷ [])
  push-all P xs x all p =
      All-In P (xs ++ x ∷ [])
      (λ y m. elim (In-append y xs (x ∷ []) m) [
        | inl k ↦ In-All P xs all y k
        | inr k ↦ elim k [ inl e ↦ subst P (sym e) p | inr never ↦ absurd never ]
      ])

  -- one element more
  pub all-more : (P : X → Type 0) (xs : List X) (i : ℕ) (x : X) → i < length xs → x ≡ get_or xs i x → All P (take i xs) → P x → All P (take (i + 1) xs)
  all-more P xs i x low is all p = subst (All P) (sym (taken xs i x low is)) (push-all P (take i xs) x all p)

  pub all-end : (P : X → Type 0) (xs : List X) (i : ℕ) → length xs ≤ i → All P (take i xs) → All P xs
  all-end P xs i past all = subst (All P) (take_all i xs past) all

  pub map-more : {Y : Type 0} (f : X → Y) (ys : List Y) (y : Y) (xs : List X) (i : ℕ) (x : X) → i < length xs → x ≡ get_or xs i x → ys ≡ map f (take i xs) → y ≡ f x → ys ++ y ∷ [] ≡ map f (take (i + 1) xs)
  map-more {Y} f ys y xs i x low is so_far same =
      ap (λ (l : List Y). l ++ y ∷ []) so_far ∙ ap (λ (z : Y). map f (take i xs) ++ z ∷ []) same ∙ sym (ap (map f) (taken xs i x low is) ∙ map-append f (take i xs) (x ∷ []))

-- ---- flags

pub spare-low : (flags : List Bool) (place : ℕ) → is_spare flags place ≡ true → place < length flags
spare-low [] place h = cc
spare-low (flag ∷ flags) zero h = omega arith
spare-low (flag ∷ flags) (suc place) h = let more = spare-low flags place h in omega (arith, more)
