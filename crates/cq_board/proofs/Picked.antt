-- Names that are read one by one are those of the seats that are gone through.
use Rattle.std.proofs.Common.{◌≡◌, ℕ, ◌+◌, ◌<◌, Bool, true, false, List, [], ◌∷◌, ◌++◌, length, map, take, get_or, sym, ap, ◌∙◌, append-nil}
use Rattle.std.specs.Prelude.{cond, filter}
use Rattle.std.proofs.lemmas.List.{map-append, take_more}
use Rattle.std.proofs.lemmas.List.Elements.{filter-append}

module _ {X Y N : Type 0} (read : X → N) (name : Y → N) (xs new : List X) where
  read-push : (x : X) (ys : List Y) (y : Y) → new ≡ xs ++ x ∷ [] → read x ≡ name y → map read xs ≡ map name ys → map read new ≡ map name (ys ++ y ∷ [])
  read-push x ys y is same so_far = ap (map read) is ∙ map-append read xs (x ∷ []) ∙ (λ k. so_far k ++ same k ∷ []) ∙ sym (map-append name ys (y ∷ []))

  module _ (ys : List Y) (i : ℕ) (y : Y) (low : i < length ys) (at : y ≡ get_or ys i y) where
    next : take (i + 1) ys ≡ take i ys ++ y ∷ []
    next = take_more ys i y low ∙ ap (λ (z : Y). take i ys ++ z ∷ []) (sym at)

    -- one more name
    pub read-more : (x : X) → new ≡ xs ++ x ∷ [] → read x ≡ name y → map read xs ≡ map name (take i ys) → map read new ≡ map name (take (i + 1) ys)
    read-more x is same so_far = read-push x (take i ys) y is same so_far ∙ ap (map name) (sym next)

    module _ (p : Y → Bool) (so_far : map read xs ≡ map name (filter p (take i ys))) where
      picked : filter p (take (i + 1) ys) ≡ filter p (take i ys) ++ cond (p y) (y ∷ []) []
      picked = ap (filter p) next ∙ filter-append p (take i ys) (y ∷ [])

      -- one more name, where the seat is picked
      pub read-picked : (x : X) → p y ≡ true → new ≡ xs ++ x ∷ [] → read x ≡ name y → map read new ≡ map name (filter p (take (i + 1) ys))
      read-picked x t is same =
          read-push x (filter p (take i ys)) y is same so_far
          ∙ ap (map name) (sym (picked ∙ ap (λ (b : Bool). filter p (take i ys) ++ cond b (y ∷ []) []) t))

      pub read-passed : p y ≡ false → new ≡ xs → map read new ≡ map name (filter p (take (i + 1) ys))
      read-passed f is =
          ap (map read) is ∙ so_far
          ∙ ap (map name) (sym (picked ∙ ap (λ (b : Bool). filter p (take i ys) ++ cond b (y ∷ []) []) f ∙ append-nil (filter p (take i ys))))
