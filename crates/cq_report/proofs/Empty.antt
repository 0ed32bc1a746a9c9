-- Lists by whether they have elements.
use Rattle.std.proofs.Common.{◌≡◌, ◌==◌, ◌<◌, List, [], ◌∷◌, true, false, length, refl, arith}
use Rattle.std.proofs.lemmas.Bool.{eqb-true}

pub none_of : {X : Type 0} (xs : List X) → (length xs == 0) ≡ true → xs ≡ []
none_of [] e = refl
none_of (x ∷ xs) e = absurd (omega (arith, eqb-true (length (x ∷ xs)) 0 e))

-- what is not empty has some length
pub some_of : {X : Type 0} (xs : List X) → (length xs == 0) ≡ false → 0 < length xs
some_of [] e = cc
some_of (x ∷ xs) e = omega arith
