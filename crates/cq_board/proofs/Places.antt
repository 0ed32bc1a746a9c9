-- Lists that are gone through with their places.
use Rattle.std.proofs.Common.{◌≡◌, ℕ, suc, ◌+◌, ◌<◌, List, ◌∷◌, length, drop, sym, ap, ◌∙◌, get_or, add-one, drop-cons}

pub drop-at : {X : Type 0} (xs : List X) (i : ℕ) (x : X) → i < length xs → x ≡ get_or xs i x → drop i xs ≡ x ∷ drop (i + 1) xs
drop-at {X} xs i x h is = rw add-one (drop-cons xs i x h ∙ ap (λ (u : X). u ∷ drop (suc i) xs) (sym is))
