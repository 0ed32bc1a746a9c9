-- The lists of `Vec`s, where one of them is edited.
use Rattle.std.proofs.Common.{◌≡◌, Some, ℕ, suc, ◌+◌, ◌<◌, List, [], ◌∷◌, ◌++◌, length, take, drop, set, get_or, sym, ap, subst, ◌∙◌, arith, add-one, append_assoc}
use Rattle.std.specs.Prelude.{Vec}
use Rattle.std.specs.List.{slice_get, insert, remove}
use Rattle.std.proofs.lemmas.List.{set-get_or, length-set, get_or-set_same, nil_from_length, take_more_set, drop-set-lt, map-set, map-append, get_or-map, length-map, take-map, drop-map}
use Rattle.cq_blocks.specs.Blocks.{elements, lists_of, AreFilled, halved}
use Rattle.cq_blocks.proofs.Lists.{element-at, elements-remove, elements-without_empty, filled-set, filled-remove}

halved-is : {X : Type 0} (bs : List (List X)) (k : ℕ) (c d : List X) → k < length bs → insert (set bs k c) (k + 1) d ≡ take k bs ++ c ∷ d ∷ drop (suc k) bs
halved-is bs k c d h =
    ap (λ l. l ++ d ∷ drop (k + 1) (set bs k c)) (take_more_set bs k c h)
    ∙ append_assoc (take k bs) (c ∷ []) (d ∷ drop (k + 1) (set bs k c))
    ∙ ap (λ l. take k bs ++ c ∷ d ∷ l) (drop-set-lt (k + 1) bs k c (omega arith))
    ∙ ap (λ n. take k bs ++ c ∷ d ∷ drop n bs) (add-one k)

module _ {X Z : Type 0} where
  pub list-at : (vs : List (Vec X Z)) (k : ℕ) (v : Vec X Z) → k < length (lists_of vs) → v ≡ get_or vs k v → get_or (lists_of vs) k [] ≡ v.items
  list-at vs k v h is =
      let within : k < length vs = omega (arith, length-map vs (λ (w : Vec X Z). w.items), h) in
      get_or-map (λ (w : Vec X Z). w.items) vs k v [] within ∙ ap (λ (w : Vec X Z). w.items) (sym is)

  pub length-at : (vs : List (Vec X Z)) (k : ℕ) (v : Vec X Z) → k < length (lists_of vs) → v ≡ get_or vs k v → v.len ≡ length (get_or (lists_of vs) k [])
  length-at vs k v h is = v.ok.0 ∙ ap (λ l. length l) (sym (list-at vs k v h is))

  pub lists-set : (vs : List (Vec X Z)) (k : ℕ) (v : Vec X Z) → lists_of (set vs k v) ≡ set (lists_of vs) k v.items
  lists-set vs k v = map-set (λ (w : Vec X Z). w.items) vs k v

  pub lists-insert : (vs : List (Vec X Z)) (k : ℕ) (v : Vec X Z) → lists_of (insert vs k v) ≡ insert (lists_of vs) k v.items
  lists-insert vs k v =
      map-append (λ (w : Vec X Z). w.items) (take k vs) (v ∷ drop k vs)
      ∙ ap (λ l. l ++ v.items ∷ lists_of (drop k vs)) (sym (take-map (λ (w : Vec X Z). w.items) k vs))
      ∙ ap (λ l. take k (lists_of vs) ++ v.items ∷ l) (sym (drop-map (λ (w : Vec X Z). w.items) k vs))

  pub lists-remove : (vs : List (Vec X Z)) (k : ℕ) → lists_of (remove vs k) ≡ remove (lists_of vs) k
  lists-remove vs k =
      map-append (λ (w : Vec X Z). w.items) (take k vs) (drop (suc k) vs)
      ∙ ap (λ l. l ++ lists_of (drop (suc k) vs)) (sym (take-map (λ (w : Vec X Z). w.items) k vs))
      ∙ ap (λ l. take k (lists_of vs) ++ l) (sym (drop-map (λ (w : Vec X Z). w.items) (suc k) vs))

  pub lists-halved : (n k : ℕ) (vs us : List (Vec X Z)) (v front behind : Vec X Z) → k < length (lists_of vs) → v ≡ get_or vs k v → front.items ≡ take n v.items → behind.items ≡ drop n v.items
      → us ≡ insert (set vs k front) (k + 1) behind → lists_of us ≡ halved n k (lists_of vs)
  lists-halved n k vs us v front behind h is f b all =
      let at : v.items ≡ get_or (lists_of vs) k [] = sym (list-at vs k v h is) in
      ap (λ l. lists_of l) all
      ∙ lists-insert (set vs k front) (k + 1) behind
      ∙ ap (λ l. insert l (k + 1) behind.items) (lists-set vs k front)
      ∙ halved-is (lists_of vs) k front.items behind.items h
      ∙ ap (λ l. take k (lists_of vs) ++ l ∷ behind.items ∷ drop (suc k) (lists_of vs)) (f ∙ ap (λ l. take n l) at)
      ∙ ap (λ l. take k (lists_of vs) ++ take n (get_or (lists_of vs) k []) ∷ l ∷ drop (suc k) (lists_of vs)) (b ∙ ap (λ l. drop n l) at)

  -- ---- an edit of one of them

  pub lists-set-same : (vs : List (Vec X Z)) (k : ℕ) (v w : Vec X Z) → k < length (lists_of vs) → v ≡ get_or vs k v → w.items ≡ v.items → lists_of (set vs k w) ≡ lists_of vs
  lists-set-same vs k v w h is same = lists-set vs k w ∙ ap (λ l. set (lists_of vs) k l) (same ∙ sym (list-at vs k v h is)) ∙ set-get_or (lists_of vs) k []

  pub lists-set-to : (f : List X → List X) (vs : List (Vec X Z)) (k : ℕ) (v w : Vec X Z) → k < length (lists_of vs) → v ≡ get_or vs k v → w.items ≡ f v.items
      → lists_of (set vs k w) ≡ set (lists_of vs) k (f (get_or (lists_of vs) k []))
  lists-set-to f vs k v w h is to = lists-set vs k w ∙ ap (λ l. set (lists_of vs) k l) (to ∙ ap f (sym (list-at vs k v h is)))

  -- the k-th loses its i-th element
  module _ (vs : List (Vec X Z)) (k i : ℕ) (v w : Vec X Z) (within : k < length (lists_of vs)) (inside : i < length (get_or (lists_of vs) k [])) (is : v ≡ get_or vs k v) (to : w.items ≡ remove v.items i) where
    abbrev block : List X
    block = get_or (lists_of vs) k []

    shrunk : lists_of (set vs k w) ≡ set (lists_of vs) k (remove block i)
    shrunk = lists-set-to (λ l. remove l i) vs k v w within is to

    within-shrunk : k < length (lists_of (set vs k w))
    within-shrunk = omega (arith, ap (λ l. length l) shrunk, length-set (lists_of vs) k (remove block i), within)

    pub shrinks : elements (lists_of (set vs k w)) ≡ remove (elements (lists_of vs)) (length (elements (take k (lists_of vs))) + i)
    shrinks = ap (λ l. elements l) shrunk ∙ elements-remove (lists_of vs) k i within inside

    module _ (u : Vec X Z) (read : u ≡ get_or (set vs k w) k u) where
      length-read : u.len ≡ length (remove block i)
      length-read =
          length-at (set vs k w) k u within-shrunk read ∙ ap (λ l. length (get_or l k [])) shrunk
          ∙ ap (λ l. length l) (get_or-set_same (lists_of vs) k (remove block i) [] within)

      pub filled-shrunk : 0 < u.len → AreFilled (lists_of vs) → AreFilled (lists_of (set vs k w))
      filled-shrunk some filled = subst (λ l. AreFilled l) (sym shrunk) (filled-set k (lists_of vs) (remove block i) filled (omega (arith, length-read, some)))

      module _ (us : List (Vec X Z)) (rest : us ≡ remove (set vs k w) k) where
        gone : lists_of us ≡ remove (set (lists_of vs) k (remove block i)) k
        gone = ap (λ l. lists_of l) rest ∙ lists-remove (set vs k w) k ∙ ap (λ l. remove l k) shrunk

        pub filled-gone : AreFilled (lists_of vs) → AreFilled (lists_of us)
        filled-gone filled = subst (λ l. AreFilled l) (sym gone) (filled-remove k (lists_of vs) (remove block i) filled)

        pub goes : u.len ≡ 0 → elements (lists_of us) ≡ remove (elements (lists_of vs)) (length (elements (take k (lists_of vs))) + i)
        goes none =
            let empty : get_or (set (lists_of vs) k (remove block i)) k [] ≡ [] =
            get_or-set_same (lists_of vs) k (remove block i) [] within ∙ nil_from_length (remove block i) (omega (arith, length-read, none)) in
            ap (λ l. elements l) gone
            ∙ elements-without_empty (set (lists_of vs) k (remove block i)) k (omega (arith, length-set (lists_of vs) k (remove block i), within)) empty
            ∙ elements-remove (lists_of vs) k i within inside

  -- an element that was read through its block
  pub element-read : (vs : List (Vec X Z)) (bs : List (List X)) (k i : ℕ) (v : Vec X Z) (x : X) → lists_of vs ≡ bs → k < length bs → i < length (get_or bs k []) → v ≡ get_or vs k v → x ≡ get_or v.items i x
      → slice_get (elements bs) (length (elements (take k bs)) + i) ≡ Some x
  element-read vs bs k i v x view within inside is read =
      let at : get_or (lists_of vs) k [] ≡ v.items = list-at vs k v (subst (λ l. k < length l) (sym view) within) is in
      element-at bs k i x within inside (read ∙ ap (λ l. get_or l i x) (sym at ∙ ap (λ l. get_or l k []) view))
