-- The elements from one place up to another, by their blocks.
use Rattle.std.proofs.Common.{◌≡◌, ℕ, suc, ◌+◌, ◌-◌, ◌<◌, ◌≤◌, List, [], ◌∷◌, ◌++◌, length, take, drop, get_or, inl, inr, sym, ap, subst, ◌∙◌, arith, add-one, append_assoc}
use Rattle.std.specs.Prelude.{slice_range, Vec}
use Rattle.std.specs.List.{drop-map}
use Rattle.std.proofs.Math.Seq.{take-append-add, drop-append-add}
use Rattle.std.proofs.lemmas.Bool.{cases_lt}
use Rattle.std.proofs.lemmas.List.{append-nil, take_all, take_rest, take-map, take-append-le, drop-append-le, drop-take, take-take, get_or-take, get_or_past, length-append, length-take-le}
use Rattle.cq_blocks.specs.Blocks.{elements, lists_of, AreFilled}
use Rattle.cq_blocks.proofs.Lists.{filled-take, filled-drop, elements-append, elements-split, split-at}

module _ {X : Type 0} where
  -- from one place in a list up to another
  range-is : (xs : List X) (a b : ℕ) → a ≤ b → slice_range xs a b ≡ drop a (take b xs)
  range-is xs a b h =
      let e : a + (b - a) ≡ b = omega (arith, h) in
      sym (drop-take a (b - a) xs) ∙ ap (λ n. drop a (take n xs)) e

  pub range-none : (xs : List X) (a b : ℕ) → b ≤ a → slice_range xs a b ≡ []
  range-none xs a b h =
      let e : b - a ≡ 0 = omega (arith, h) in
      ap (λ n. take n (drop a xs)) e

  module _ (bs : List (List X)) where
    -- what stands before a place
    before : (k i : ℕ) → k ≤ length bs → i ≤ length (get_or bs k []) → take (length (elements (take k bs)) + i) (elements bs) ≡ elements (take k bs) ++ take i (get_or bs k [])
    before k i h within =
        elim (cases_lt k (length bs)) [
          | inl lt ↦
              ap (λ l. take (length (elements (take k bs)) + i) l) (elements-split bs k lt)
              ∙ take-append-add (elements (take k bs)) (get_or bs k [] ++ elements (drop (suc k) bs)) i
              ∙ ap (λ l. elements (take k bs) ++ l) (take-append-le i (get_or bs k []) (elements (drop (suc k) bs)) within)
          | inr ge ↦
              let none : get_or bs k [] ≡ [] = get_or_past bs k [] ge in
              let all : take k bs ≡ bs = take_all k bs ge in
              ap (λ l. take (length (elements l) + i) (elements bs)) all
              ∙ take_all (length (elements bs) + i) (elements bs) (omega arith)
              ∙ ap (λ l. elements l) (sym all)
              ∙ sym (append-nil (elements (take k bs)))
              ∙ ap (λ l. elements (take k bs) ++ l) (sym (take_all i [] (omega arith)))
              ∙ ap (λ l. elements (take k bs) ++ take i l) (sym none)
        ]

    -- from a place up to another one in the same block
    pub range-same : (k i j : ℕ) → k ≤ length bs → i ≤ j → j ≤ length (get_or bs k []) → slice_range (elements bs) (length (elements (take k bs)) + i) (length (elements (take k bs)) + j) ≡ drop i (take j (get_or bs k []))
    range-same k i j h order within =
        range-is (elements bs) (length (elements (take k bs)) + i) (length (elements (take k bs)) + j) (omega (arith, order))
        ∙ ap (λ l. drop (length (elements (take k bs)) + i) l) (before k j h within)
        ∙ drop-append-add (elements (take k bs)) (take j (get_or bs k [])) i

    split-up-to : (f t : ℕ) → f < t → t ≤ length bs → take t bs ≡ take f bs ++ get_or bs f [] ∷ slice_range bs (f + 1) t
    split-up-to f t less h =
        let long : length (take t bs) ≡ t = length-take-le t bs h in
        let whole : suc f + (t - (f + 1)) ≡ t = omega (arith, less) in
        split-at (take t bs) f (omega (arith, long, less))
        ∙ ap (λ l. l ++ get_or (take t bs) f [] ∷ drop (suc f) (take t bs)) (take-take f t bs (omega (arith, less)))
        ∙ ap (λ l. take f bs ++ l ∷ drop (suc f) (take t bs)) (get_or-take t bs f [] less)
        ∙ ap (λ n. take f bs ++ get_or bs f [] ∷ drop (suc f) (take n bs)) (sym whole)
        ∙ ap (λ l. take f bs ++ get_or bs f [] ∷ l) (drop-take (suc f) (t - (f + 1)) bs)
        ∙ ap (λ n. take f bs ++ get_or bs f [] ∷ take (t - (f + 1)) (drop n bs)) (sym (add-one f))

    -- what stands before a block that comes after another
    up-to : (f t : ℕ) → f < t → t ≤ length bs → elements (take t bs) ≡ elements (take f bs) ++ (get_or bs f [] ++ elements (slice_range bs (f + 1) t))
    up-to f t less h = ap (λ l. elements l) (split-up-to f t less h) ∙ elements-append (take f bs) (get_or bs f [] ∷ slice_range bs (f + 1) t)

    pub rises : (f t : ℕ) → f < t → t ≤ length bs → length (elements (take f bs)) + length (get_or bs f []) ≤ length (elements (take t bs))
    rises f t less h =
        let e = ap (λ l. length l) (up-to f t less h) in
        let a = length-append (elements (take f bs)) (get_or bs f [] ++ elements (slice_range bs (f + 1) t)) in
        let b = length-append (get_or bs f []) (elements (slice_range bs (f + 1) t)) in
        omega (arith, e, a, b)

    -- from a place up to one in a later block
    pub range-over : (f t i j : ℕ) → f < t → t ≤ length bs → i ≤ length (get_or bs f []) → j ≤ length (get_or bs t [])
        → slice_range (elements bs) (length (elements (take f bs)) + i) (length (elements (take t bs)) + j) ≡ drop i (get_or bs f []) ++ (elements (slice_range bs (f + 1) t) ++ take j (get_or bs t []))
    range-over f t i j less h low high =
        let front = elements (take f bs) in
        let block = get_or bs f [] in
        let middle = elements (slice_range bs (f + 1) t) in
        let back = take j (get_or bs t []) in
        range-is (elements bs) (length (elements (take f bs)) + i) (length (elements (take t bs)) + j) (omega (arith, rises f t less h, low))
        ∙ ap (λ l. drop (length (elements (take f bs)) + i) l) (before t j h high ∙ ap (λ l. l ++ back) (up-to f t less h) ∙ append_assoc front (block ++ middle) back ∙ ap (λ l. front ++ l) (append_assoc block middle back))
        ∙ drop-append-add front (block ++ (middle ++ back)) i
        ∙ drop-append-le i block (middle ++ back) low

-- what a range is made of, where the blocks are `Vec`s
module _ {X Z : Type 0} (ws : List (Vec X Z)) where
  part : (m n : ℕ) → lists_of (take n (drop m ws)) ≡ take n (drop m (lists_of ws))
  part m n = sym (take-map (λ (w : Vec X Z). w.items) n (drop m ws)) ∙ ap (λ l. take n l) (sym (drop-map (λ (w : Vec X Z). w.items) m ws))

  pub filled-part : (m n : ℕ) (vs : List (Vec X Z)) → ws ≡ vs → AreFilled (lists_of vs) → AreFilled (lists_of (take n (drop m ws)))
  filled-part m n vs shown filled =
      subst (λ l. AreFilled l) (sym (part m n)) (filled-take n (drop m (lists_of ws)) (filled-drop m (lists_of ws) (subst (λ l. AreFilled (lists_of l)) (sym shown) filled)))

  module _ (bs : List (List X)) (view : lists_of ws ≡ bs) (f t i j : ℕ) where
    pub ranges-over : (front back : List X) → front ≡ drop i (get_or (lists_of ws) f []) → back ≡ take j (get_or (lists_of ws) t []) → f < t → t ≤ length bs → i ≤ length (get_or bs f []) → j ≤ length (get_or bs t [])
        → front ++ (elements (lists_of (take (t - (f + 1)) (drop (f + 1) ws))) ++ back) ≡ slice_range (elements bs) (length (elements (take f bs)) + i) (length (elements (take t bs)) + j)
    ranges-over front back starts ends less within low high =
        ap (λ l. l ++ (elements (lists_of (take (t - (f + 1)) (drop (f + 1) ws))) ++ back)) (starts ∙ ap (λ l. drop i (get_or l f [])) view)
        ∙ ap (λ l. drop i (get_or bs f []) ++ (elements l ++ back)) (part (f + 1) (t - (f + 1)) ∙ ap (λ l. take (t - (f + 1)) (drop (f + 1) l)) view)
        ∙ ap (λ l. drop i (get_or bs f []) ++ (elements (slice_range bs (f + 1) t) ++ l)) (ends ∙ ap (λ l. take j (get_or l t [])) view)
        ∙ sym (range-over bs f t i j less within low high)

    pub ranges-same : (back : List X) → back ≡ take j (get_or (lists_of ws) t []) → f ≡ t → t ≤ length bs → j ≤ length (get_or bs t []) → length (elements (take f bs)) + i ≤ length (elements (take t bs)) + j
        → take (length back - i) (drop i back) ≡ slice_range (elements bs) (length (elements (take f bs)) + i) (length (elements (take t bs)) + j)
    ranges-same back ends same within high order =
        let e : length (elements (take f bs)) ≡ length (elements (take t bs)) = ap (λ n. length (elements (take n bs))) same in
        take_rest back i
        ∙ ap (λ l. drop i l) (ends ∙ ap (λ l. take j (get_or l t [])) view)
        ∙ sym (range-same bs t i j within (omega (arith, e, order)) high)
        ∙ ap (λ n. slice_range (elements bs) (length (elements (take n bs)) + i) (length (elements (take t bs)) + j)) (sym same)

  pub ranges-none : (bs : List (List X)) (f t i j : ℕ) → t < f → f ≤ length bs → j ≤ length (get_or bs t []) → [] ≡ slice_range (elements bs) (length (elements (take f bs)) + i) (length (elements (take t bs)) + j)
  ranges-none bs f t i j less within high = sym (range-none (elements bs) (length (elements (take f bs)) + i) (length (elements (take t bs)) + j) (omega (arith, rises bs t f less within, high)))
