-- What is made of each element of a list, up to a place.
use Rattle.std.proofs.Common.{◌≡◌, ◌∙◌, ℕ, ◌+◌, ◌<◌, ◌≤◌, List, [], ◌∷◌, ◌++◌, ap, get_or, length, map, sym, take}
use Rattle.std.proofs.lemmas.List.{map_push, take_all, take_more}

pub made-more : {X Y : Type 0} (k : X → Y) (xs : List X) (i : ℕ) (x : X) (made now : List Y) (y : Y) → i < length xs → x ≡ get_or xs i x → made ≡ map k (take i xs) → now ≡ made ++ y ∷ [] → y ≡ k x
    → now ≡ map k (take (i + 1) xs)
made-more {X} {Y} k xs i x made now y low is so_far more same =
    more
    ∙ ap (λ (l : List Y). l ++ y ∷ []) so_far
    ∙ ap (λ (z : Y). map k (take i xs) ++ z ∷ []) (same ∙ ap k is)
    ∙ sym (ap (map k) (take_more xs i x low) ∙ map_push k (take i xs) (get_or xs i x))

pub made-all : {X Y : Type 0} (k : X → Y) (xs : List X) (i : ℕ) → length xs ≤ i → map k (take i xs) ≡ map k xs
made-all k xs i past = ap (map k) (take_all i xs past)
