-- Loops that take a vector apart: what came so far, and what is still to come.
use Rattle.std.proofs.Common.{◌≡◌, ℕ, ◌+◌, List, [], ◌∷◌, ◌++◌, length, map, refl, sym, ap, ◌∙◌, append_assoc, append-nil, arith}
use mathlib.Core.List.{IsPrefix}

pub map-snoc : {X Y : Type 0} (f : X → Y) (xs : List X) (x : X) → map f (xs ++ x ∷ []) ≡ map f xs ++ f x ∷ []
map-snoc f [] x = refl
map-snoc {X} {Y} f (y ∷ xs) x = ap (λ (z : List Y). f y ∷ z) (map-snoc f xs x)

module _ {X : Type 0} where
  -- one more came
  pub turned : (yielded rest rest' all : List X) (x : X) → yielded ++ rest ≡ all → rest ≡ x ∷ rest' → (yielded ++ x ∷ []) ++ rest' ≡ all
  turned yielded rest rest' all x h e = append_assoc yielded (x ∷ []) rest' ∙ ap (λ (z : List X). yielded ++ z) (sym e) ∙ h

  -- and one less is to come
  pub shorter : (n n' : ℕ) (rest rest' : List X) (x : X) → n ≡ length rest → n' + 1 ≡ n → rest ≡ x ∷ rest' → n' ≡ length rest'
  shorter n n' rest rest' x h k e = let l : length rest ≡ length rest' + 1 = ap length e ∙ omega arith in omega (arith, h, k, l)

  nothing : (rest : List X) → length rest ≡ 0 → rest ≡ []
  nothing [] h = refl
  nothing (x ∷ rest) h = absurd (omega (arith, h))

  -- all came
  pub over : (n : ℕ) (yielded rest all : List X) → yielded ++ rest ≡ all → n ≡ length rest → n ≡ 0 → yielded ≡ all
  over n yielded rest all h k e = sym (append-nil yielded) ∙ ap (λ (z : List X). yielded ++ z) (sym (nothing rest (sym k ∙ e))) ∙ h

-- a front of all
pub front_of : {X : Type 0} (yielded rest all : List X) → yielded ++ rest ≡ all → IsPrefix yielded all
front_of yielded rest all h = (rest, h)

-- what came is mapped as it comes
pub mapped : {X Y : Type 0} (f : X → Y) (xs xs' : List X) (x : X) → xs' ≡ xs ++ x ∷ [] → map f xs' ≡ map f xs ++ f x ∷ []
mapped f xs xs' x is = ap (map f) is ∙ map-snoc f xs x

-- the same by a push to what is mapped
pub pushed : {X Y : Type 0} (f : X → Y) (ys ys' : List Y) (xs : List X) (x : X) → ys ≡ map f xs → ys' ≡ ys ++ f x ∷ [] → ys' ≡ map f (xs ++ x ∷ [])
pushed f ys ys' xs x h is = is ∙ ap (λ zs. zs ++ f x ∷ []) h ∙ sym (map-snoc f xs x)
