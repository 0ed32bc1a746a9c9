-- What is made of each element of a list.
use Rattle.std.proofs.Common.{◌≡◌, ◌<◌, ◌+◌, ◌++◌, ◌∷◌, [], ℕ, List, length, map, take, get_or, refl, sym, ap, ◌∙◌}
use Rattle.std.proofs.lemmas.List.{map-append}
use Rattle.cq_render.proofs.Flagged.{map_more}

-- one element more that was made of what is read
pub mapped_more : {X Y Z : Type 0} (f : Y → Z) (h : X → Y) (zs : List Z) (z : Z) (xs : List X) (i : ℕ) (x : X) → i < length xs → x ≡ get_or xs i x → zs ≡ map f (map h (take i xs)) → z ≡ f (h x)
    → zs ++ z ∷ [] ≡ map f (map h (take (i + 1) xs))
mapped_more {X} {Y} {Z} f h zs z xs i x low is so_far same =
    ap (λ (l : List Z). l ++ z ∷ []) so_far ∙ ap (λ (l : Z). map f (map h (take i xs)) ++ l ∷ []) same
    ∙ sym (map-append f (map h (take i xs)) (h x ∷ [])) ∙ ap (map f) (map_more h (map h (take i xs)) (h x) xs i x low is refl refl)
