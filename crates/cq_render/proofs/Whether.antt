-- What holds of the elements that are read, by whether there are any.
use Rattle.std.proofs.Common.{◌≡◌, List, [], ◌∷◌, true, false, length, map, arith}
use Rattle.std.specs.Prelude.{◌==◌}
use Rattle.std.proofs.lemmas.Bool.Decides.{Decides-eqb}

module _ {X Y : Type 0} (Q : List Y → Type 0) (read : X → Y) where
  pub of_none : (xs : List X) → (length xs == 0) ≡ true → Q [] → Q (map read xs)
  of_none [] none told = told
  of_none (x ∷ xs) none told = let long = (Decides-eqb (length (x ∷ xs)) 0).0 none in absurd (omega (arith, long))

  pub of_some : (P : List Y → Type 0) → ((y : Y) (ys : List Y) → P (y ∷ ys) → Q (y ∷ ys)) → (xs : List X) → (length xs == 0) ≡ false → P (map read xs) → Q (map read xs)
  of_some P so [] many told = absurd (let never : true ≡ false = many in cc)
  of_some P so (x ∷ xs) many told = so (read x) (map read xs) told
