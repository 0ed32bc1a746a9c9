-- How many elements stand before a place.
use Rattle.std.proofs.Common.{◌≡◌, ℕ, zero, suc, ◌+◌, ◌<◌, ◌≤◌, List, [], ◌∷◌, ◌++◌, length, take, get_or, sym, ap, ◌∙◌, arith}
use Rattle.std.specs.Prelude.{Vec}
use Rattle.std.proofs.lemmas.List.{append-nil, take_more, length-append, length-map, length-take-le, get_or-take}
use Rattle.cq_blocks.specs.Blocks.{elements, lists_of}
use Rattle.cq_blocks.proofs.Lists.{elements-append}
use Rattle.cq_blocks.proofs.Vecs.{length-at}

module _ {X : Type 0} where
  -- no more elements stand before a place than there are
  pub flat-bound : (bs : List (List X)) (k i : ℕ) → k ≤ length bs → i ≤ length (get_or bs k []) → length (elements (take k bs)) + i ≤ length (elements bs)
  flat-bound [] zero i h within = omega (arith, within)
  flat-bound [] (suc k) i h within = omega (arith, within)
  flat-bound (b ∷ bs) zero i h within = omega (arith, length-append b (elements bs), within)
  flat-bound (b ∷ bs) (suc k) i h within =
      omega (arith, length-append b (elements bs), length-append b (elements (take k bs)), flat-bound bs k i (omega (arith, h)) within)

  -- one block more
  pub counted : (bs : List (List X)) (k : ℕ) → k < length bs → length (elements (take (k + 1) bs)) ≡ length (elements (take k bs)) + length (get_or bs k [])
  counted bs k h =
      ap (λ l. length (elements l)) (take_more bs k [] h)
      ∙ ap (λ l. length l) (elements-append (take k bs) (get_or bs k [] ∷ []))
      ∙ length-append (elements (take k bs)) (get_or bs k [] ++ [])
      ∙ ap (λ l. length (elements (take k bs)) + length l) (append-nil (get_or bs k []))

  module _ {Z : Type 0} (vs : List (Vec X Z)) (k : ℕ) (v : Vec X Z) where
    pub counted-next : k < length vs → v ≡ get_or vs k v → length (elements (take (k + 1) (lists_of vs))) ≡ length (elements (take k (lists_of vs))) + v.len
    counted-next h is =
        let within : k < length (lists_of vs) = omega (arith, length-map vs (λ (w : Vec X Z). w.items), h) in
        counted (lists_of vs) k within ∙ ap (λ n. length (elements (take k (lists_of vs))) + n) (sym (length-at vs k v within is))

    pub counted-within : k < length vs → v ≡ get_or vs k v → length (elements (take k (lists_of vs))) + v.len ≤ length (elements (lists_of vs))
    counted-within h is =
        let within : k < length (lists_of vs) = omega (arith, length-map vs (λ (w : Vec X Z). w.items), h) in
        flat-bound (lists_of vs) k v.len (omega (arith, within)) (omega (arith, length-at vs k v within is))

    -- a block that was read among the first n
    pub read-of-first : (n : ℕ) → k < length (take n vs) → v ≡ get_or (take n vs) k v → n ≤ length vs → v ≡ get_or vs k v
    read-of-first n h is low = is ∙ get_or-take n vs k v (omega (arith, length-take-le n vs low, h))
