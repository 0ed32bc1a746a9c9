-- What a loop that lets elements go has kept so far.
use Rattle.std.proofs.Common.{◌≡◌, ℕ, suc, ◌+◌, ◌<◌, ◌≤◌, Bool, true, false, cond, List, [], ◌∷◌, ◌++◌, length, take, drop, set, get_or, sym, ap, ◌∙◌, arith, add-one, append_assoc}
use Rattle.std.specs.List.{remove, filter}
use Rattle.std.specs.Prelude.{Vec}
use Rattle.std.proofs.lemmas.List.{append-nil, take_more, drop_more, take_at, drop_at, take-set, take_more_set, drop-set-lt, length-take-le, length-append, length-set, get_or-set_same}
use Rattle.std.proofs.lemmas.List.Edits.{length-remove}
use Rattle.std.proofs.lemmas.List.Elements.{filter-append}
use Rattle.cq_blocks.specs.Blocks.{elements, lists_of}
use Rattle.cq_blocks.proofs.Lists.{elements-append, elements-split, elements-set}
use Rattle.cq_blocks.proofs.Vecs.{length-at, lists-set}

module _ {X : Type 0} (p : X → Bool) (start now : List X) (at : ℕ) (x : X) (within : at < length now) (read : x ≡ get_or now at x) (so-far : filter p start ≡ take at now ++ filter p (drop at now)) where
  here : drop at now ≡ x ∷ drop (at + 1) now
  here = drop_more now at x within ∙ ap (λ y. y ∷ drop (at + 1) now) (sym read)

  pub stays : p x ≡ true → filter p start ≡ take (at + 1) now ++ filter p (drop (at + 1) now)
  stays t =
      let rest = filter p (drop (at + 1) now) in
      so-far
      ∙ ap (λ l. take at now ++ filter p l) here
      ∙ ap (λ b. take at now ++ cond b (x ∷ rest) rest) t
      ∙ sym (append_assoc (take at now) (x ∷ []) rest)
      ∙ ap (λ l. l ++ rest) (sym (take_more now at x within ∙ ap (λ y. take at now ++ y ∷ []) (sym read)))

  pub goes : (next : List X) → p x ≡ false → next ≡ remove now at → filter p start ≡ take at next ++ filter p (drop at next)
  goes next f is =
      let rest = filter p (drop (at + 1) now) in
      let long : length (take at now) ≡ at = length-take-le at now (omega (arith, within)) in
      let front : take at next ≡ take at now = ap (λ l. take at l) is ∙ take_at (take at now) (drop (suc at) now) at long in
      let back : drop at next ≡ drop (at + 1) now = ap (λ l. drop at l) is ∙ drop_at (take at now) (drop (suc at) now) at long ∙ ap (λ n. drop n now) (sym (add-one at)) in
      so-far
      ∙ ap (λ l. take at now ++ filter p l) here
      ∙ ap (λ b. take at now ++ cond b (x ∷ rest) rest) f
      ∙ ap (λ l. l ++ rest) (sym front)
      ∙ ap (λ l. take at next ++ filter p l) (sym back)

-- a block of which b was kept
module _ {X : Type 0} (bs : List (List X)) (k : ℕ) (b : List X) (within : k < length bs) where
  pub went-more : (r w t : ℕ) → r + length b ≡ length (get_or bs k []) → w + length (elements bs) ≡ t → w + r + length (elements (set bs k b)) ≡ t
  went-more r w t here all =
      let front = elements (take k bs) in
      let back = elements (drop (suc k) bs) in
      let old = ap (λ l. length l) (elements-split bs k within) ∙ length-append front (get_or bs k [] ++ back) ∙ ap (λ n. length front + n) (length-append (get_or bs k []) back) in
      let new = ap (λ l. length l) (elements-set bs k b within) ∙ length-append front (b ++ back) ∙ ap (λ n. length front + n) (length-append b back) in
      omega (arith, old, new, here, all)

  module _ (p : X → Bool) (all : List X) (so-far : all ≡ elements (take k bs) ++ filter p (elements (drop k bs))) (kept : b ≡ filter p (get_or bs k [])) where
    kept-here : all ≡ elements (take k bs) ++ (b ++ filter p (elements (drop (k + 1) bs)))
    kept-here =
        so-far
        ∙ ap (λ l. elements (take k bs) ++ filter p (elements l)) (drop_more bs k [] within)
        ∙ ap (λ l. elements (take k bs) ++ l) (filter-append p (get_or bs k []) (elements (drop (k + 1) bs)))
        ∙ ap (λ l. elements (take k bs) ++ (l ++ filter p (elements (drop (k + 1) bs)))) (sym kept)

    pub kept-more : all ≡ elements (take (k + 1) (set bs k b)) ++ filter p (elements (drop (k + 1) (set bs k b)))
    kept-more =
        let front : elements (take (k + 1) (set bs k b)) ≡ elements (take k bs) ++ b =
        ap (λ l. elements l) (take_more_set bs k b within) ∙ elements-append (take k bs) (b ∷ []) ∙ ap (λ l. elements (take k bs) ++ l) (append-nil b) in
        kept-here
        ∙ sym (append_assoc (elements (take k bs)) b (filter p (elements (drop (k + 1) bs))))
        ∙ ap (λ l. l ++ filter p (elements (drop (k + 1) bs))) (sym front)
        ∙ ap (λ l. elements (take (k + 1) (set bs k b)) ++ filter p (elements l)) (sym (drop-set-lt (k + 1) bs k b (omega arith)))

    pub kept-gone : b ≡ [] → all ≡ elements (take k (remove (set bs k b) k)) ++ filter p (elements (drop k (remove (set bs k b) k)))
    kept-gone none =
        let less = take k (set bs k b) in
        let long : length (take k (set bs k b)) ≡ k = length-take-le k (set bs k b) (omega (arith, length-set bs k b, within)) in
        let front : take k (remove (set bs k b) k) ≡ take k bs = take_at less (drop (suc k) (set bs k b)) k long ∙ take-set bs k b in
        let back : drop k (remove (set bs k b) k) ≡ drop (k + 1) bs = drop_at less (drop (suc k) (set bs k b)) k long ∙ drop-set-lt (suc k) bs k b (omega arith) ∙ ap (λ n. drop n bs) (sym (add-one k)) in
        kept-here
        ∙ ap (λ l. elements (take k bs) ++ (l ++ filter p (elements (drop (k + 1) bs)))) none
        ∙ ap (λ l. elements l ++ filter p (elements (drop (k + 1) bs))) (sym front)
        ∙ ap (λ l. elements (take k (remove (set bs k b) k)) ++ filter p (elements l)) (sym back)

  pub within-gone : k ≤ length (remove (set bs k b) k)
  within-gone = omega (arith, length-remove (set bs k b) k (omega (arith, length-set bs k b, within)), length-set bs k b, within)

-- a block that was read after its edit
pub length-read-back : {X Z : Type 0} (vs : List (Vec X Z)) (k : ℕ) (w u : Vec X Z) → k < length (lists_of vs) → u ≡ get_or (set vs k w) k u → u.len ≡ length w.items
length-read-back vs k w u within read =
    let inside : k < length (lists_of (set vs k w)) = omega (arith, ap (λ l. length l) (lists-set vs k w), length-set (lists_of vs) k w.items, within) in
    length-at (set vs k w) k u inside read ∙ ap (λ l. length (get_or l k [])) (lists-set vs k w) ∙ ap (λ l. length l) (get_or-set_same (lists_of vs) k w.items [] within)
