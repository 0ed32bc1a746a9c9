-- Lists of lists, and what an edit of one of them makes of their elements.
use Rattle.std.proofs.Common.{◌≡◌, Some, ℕ, zero, suc, ◌+◌, ◌-◌, ◌<◌, ◌≤◌, List, [], ◌∷◌, ◌++◌, length, take, drop, set, get_or, refl, sym, ap, subst, ◌∙◌, arith, append_assoc}
use Rattle.std.specs.List.{slice_get, insert, remove}
use Rattle.std.specs.Prelude.{Result, OnOk, OnErr, Ok, Err, is_ok, true, false}
use Rattle.std.proofs.lemmas.List.{append-nil, set-get_or, set_split, take_all, take_at, get_or_at, length-take-le, length-drop, length-append, take-append-drop}
use Rattle.std.proofs.lemmas.List.Concat.{flat_map-append, get_or-flat_map}
use Rattle.std.proofs.lemmas.Option.{slice_get_read}
use Rattle.std.proofs.lemmas.List.Edits.{insert_end, insert-append_left, insert-append_right, remove-append_left, remove-append_right}
use Rattle.cq_blocks.specs.Blocks.{elements, AreFilled, Stays, halved}

pub on_ok : {T E P : Type 0} (r : Result T E) → (is_ok r ≡ true → P) → OnOk r P
on_ok (Ok x) f = f refl
on_ok (Err e) f = tt

pub on_err : {T E P : Type 0} (r : Result T E) → (is_ok r ≡ false → P) → OnErr r P
on_err (Ok x) f = tt
on_err (Err e) f = f refl

pub on_ok_more : {T E P Q : Type 0} (r : Result T E) → (P → Q) → OnOk r P → OnOk r Q
on_ok_more (Ok x) f p = f p
on_ok_more (Err e) f p = tt

pub on_either : {T E P : Type 0} (r : Result T E) → (is_ok r ≡ true → P) → (is_ok r ≡ false → P) → P
on_either (Ok x) f g = f refl
on_either (Err e) f g = g refl

module _ {X : Type 0} where
  -- ---- blocks that have elements

  pub filled-append : (cs bs : List (List X)) → AreFilled cs → AreFilled bs → AreFilled (cs ++ bs)
  filled-append [] bs f g = g
  filled-append (c ∷ cs) bs f g = (f.0, filled-append cs bs f.1 g)

  pub filled-take : (k : ℕ) (bs : List (List X)) → AreFilled bs → AreFilled (take k bs)
  filled-take zero bs f = tt
  filled-take (suc k) [] f = tt
  filled-take (suc k) (b ∷ bs) f = (f.0, filled-take k bs f.1)

  pub filled-drop : (k : ℕ) (bs : List (List X)) → AreFilled bs → AreFilled (drop k bs)
  filled-drop zero bs f = f
  filled-drop (suc k) [] f = tt
  filled-drop (suc k) (b ∷ bs) f = filled-drop k bs f.1

  pub filled-at : (k : ℕ) (bs : List (List X)) → AreFilled bs → k < length bs → 0 < length (get_or bs k [])
  filled-at k [] f h = absurd (omega arith)
  filled-at zero (b ∷ bs) f h = f.0
  filled-at (suc k) (b ∷ bs) f h = filled-at k bs f.1 (omega (arith, h))

  -- ---- the elements around a block

  pub split-at : (bs : List (List X)) (k : ℕ) → k < length bs → bs ≡ take k bs ++ get_or bs k [] ∷ drop (suc k) bs
  split-at bs k h = sym (set-get_or bs k []) ∙ set_split bs k (get_or bs k []) h

  pub elements-append : (cs bs : List (List X)) → elements (cs ++ bs) ≡ elements cs ++ elements bs
  elements-append cs bs = flat_map-append (λ b. b) cs bs

  pub elements-around : (bs : List (List X)) (k : ℕ) (b : List X) → elements (take k bs ++ b ∷ drop (suc k) bs) ≡ elements (take k bs) ++ (b ++ elements (drop (suc k) bs))
  elements-around bs k b = elements-append (take k bs) (b ∷ drop (suc k) bs)

  pub elements-split : (bs : List (List X)) (k : ℕ) → k < length bs → elements bs ≡ elements (take k bs) ++ (get_or bs k [] ++ elements (drop (suc k) bs))
  elements-split bs k h = ap (λ l. elements l) (split-at bs k h) ∙ elements-around bs k (get_or bs k [])

  pub elements-set : (bs : List (List X)) (k : ℕ) (b : List X) → k < length bs → elements (set bs k b) ≡ elements (take k bs) ++ (b ++ elements (drop (suc k) bs))
  elements-set bs k b h = ap (λ l. elements l) (set_split bs k b h) ∙ elements-around bs k b

  -- ---- an edit of one block

  pub insert-within : (front block back : List X) (i : ℕ) (x : X) → i ≤ length block → insert (front ++ (block ++ back)) (length front + i) x ≡ front ++ (insert block i x ++ back)
  insert-within front block back i x h =
      let at : length front + i - length front ≡ i = omega arith in
      insert-append_right front (block ++ back) (length front) (length front + i) x refl (omega arith)
      ∙ ap (λ n. front ++ insert (block ++ back) n x) at
      ∙ ap (λ l. front ++ l) (insert-append_left block back i x h)

  pub remove-within : (front block back : List X) (i : ℕ) → i < length block → remove (front ++ (block ++ back)) (length front + i) ≡ front ++ (remove block i ++ back)
  remove-within front block back i h =
      let at : length front + i - length front ≡ i = omega arith in
      remove-append_right front (block ++ back) (length front) (length front + i) refl (omega arith)
      ∙ ap (λ n. front ++ remove (block ++ back) n) at
      ∙ ap (λ l. front ++ l) (remove-append_left block back i h)

  pub elements-insert : (bs : List (List X)) (k i : ℕ) (x : X) → k < length bs → i ≤ length (get_or bs k [])
      → elements (set bs k (insert (get_or bs k []) i x)) ≡ insert (elements bs) (length (elements (take k bs)) + i) x
  elements-insert bs k i x h within =
      elements-set bs k (insert (get_or bs k []) i x) h
      ∙ sym (insert-within (elements (take k bs)) (get_or bs k []) (elements (drop (suc k) bs)) i x within)
      ∙ ap (λ l. insert l (length (elements (take k bs)) + i) x) (sym (elements-split bs k h))

  pub elements-remove : (bs : List (List X)) (k i : ℕ) → k < length bs → i < length (get_or bs k [])
      → elements (set bs k (remove (get_or bs k []) i)) ≡ remove (elements bs) (length (elements (take k bs)) + i)
  elements-remove bs k i h within =
      elements-set bs k (remove (get_or bs k []) i) h
      ∙ sym (remove-within (elements (take k bs)) (get_or bs k []) (elements (drop (suc k) bs)) i within)
      ∙ ap (λ l. remove l (length (elements (take k bs)) + i)) (sym (elements-split bs k h))

  -- ---- an element of one block

  pub flat-within : (bs : List (List X)) (k i : ℕ) → k < length bs → i < length (get_or bs k []) → length (elements (take k bs)) + i < length (elements bs)
  flat-within bs k i h within =
      let e = ap (λ l. length l) (elements-split bs k h) in
      let a = length-append (elements (take k bs)) (get_or bs k [] ++ elements (drop (suc k) bs)) in
      let b = length-append (get_or bs k []) (elements (drop (suc k) bs)) in
      omega (arith, e, a, b, within)

  pub element-at : (bs : List (List X)) (k i : ℕ) (x : X) → k < length bs → i < length (get_or bs k []) → x ≡ get_or (get_or bs k []) i x
      → slice_get (elements bs) (length (elements (take k bs)) + i) ≡ Some x
  element-at bs k i x h within is =
      slice_get_read (elements bs) (length (elements bs)) (length (elements (take k bs)) + i) x refl (flat-within bs k i h within)
      (is ∙ sym (get_or-flat_map (λ b. b) bs k i [] x h within))

  -- a block of one element after the others
  pub elements-push : (bs : List (List X)) (x : X) → elements (bs ++ (x ∷ []) ∷ []) ≡ insert (elements bs) (length (elements (take (length bs) bs)) + 0) x
  elements-push bs x =
      let all : take (length bs) bs ≡ bs = take_all (length bs) bs (omega arith) in
      let at : length (elements bs) ≡ length (elements (take (length bs) bs)) + 0 = ap (λ l. length (elements l)) (sym all) ∙ omega arith in
      elements-append bs ((x ∷ []) ∷ [])
      ∙ sym (insert_end (elements bs) x)
      ∙ ap (λ n. insert (elements bs) n x) at

  -- an empty block goes
  pub elements-without_empty : (bs : List (List X)) (k : ℕ) → k < length bs → get_or bs k [] ≡ [] → elements (remove bs k) ≡ elements bs
  elements-without_empty bs k h none =
      elements-append (take k bs) (drop (suc k) bs)
      ∙ ap (λ b. elements (take k bs) ++ (b ++ elements (drop (suc k) bs))) (sym none)
      ∙ sym (elements-split bs k h)

  pub filled-set : (k : ℕ) (bs : List (List X)) (b : List X) → AreFilled bs → 0 < length b → AreFilled (set bs k b)
  filled-set k [] b f h = tt
  filled-set zero (c ∷ bs) b f h = (h, f.1)
  filled-set (suc k) (c ∷ bs) b f h = (f.0, filled-set k bs b f.1 h)

  pub filled-remove : (k : ℕ) (bs : List (List X)) (b : List X) → AreFilled bs → AreFilled (remove (set bs k b) k)
  filled-remove zero [] b f = tt
  filled-remove (suc k) [] b f = tt
  filled-remove zero (c ∷ bs) b f = f.1
  filled-remove (suc k) (c ∷ bs) b f = (f.0, filled-remove k bs b f.1)

  -- ---- a block that is cut in two

  module _ (n k : ℕ) (bs : List (List X)) (within : k < length bs) where
    front : length (take k bs) ≡ k
    front = length-take-le k bs (omega (arith, within))

    pub elements-halved : elements (halved n k bs) ≡ elements bs
    elements-halved =
        let b = get_or bs k [] in
        elements-append (take k bs) (take n b ∷ drop n b ∷ drop (suc k) bs)
        ∙ ap (λ l. elements (take k bs) ++ l) (sym (append_assoc (take n b) (drop n b) (elements (drop (suc k) bs))))
        ∙ ap (λ l. elements (take k bs) ++ (l ++ elements (drop (suc k) bs))) (take-append-drop n b)
        ∙ sym (elements-split bs k within)

    pub filled-halved : 0 < n → n < length (get_or bs k []) → AreFilled bs → AreFilled (halved n k bs)
    filled-halved some long f =
        let b = get_or bs k [] in
        filled-append (take k bs) (take n b ∷ drop n b ∷ drop (suc k) bs) (filled-take k bs f)
        (omega (arith, length-take-le n b (omega (arith, long)), some), (omega (arith, length-drop n b, long), filled-drop (suc k) bs f))

    length-halved : length (halved n k bs) ≡ k + suc (suc (length (drop (suc k) bs)))
    length-halved = length-append (take k bs) (take n (get_or bs k []) ∷ drop n (get_or bs k []) ∷ drop (suc k) bs) ∙ ap (λ m. m + suc (suc (length (drop (suc k) bs)))) front

    pub stays-front : (i : ℕ) → i ≤ n → n ≤ length (get_or bs k []) → Stays bs (record { block = k; index = i }) (halved n k bs) (record { block = k; index = i })
    stays-front i low long =
        let b = get_or bs k [] in
        let rest = take n b ∷ drop n b ∷ drop (suc k) bs in (
          omega (arith, length-halved),
          subst (λ l. i ≤ length l) (sym (get_or_at (take k bs) (take n b) (drop n b ∷ drop (suc k) bs) [] k front)) (omega (arith, length-take-le n b long, low)),
          ap (λ l. length (elements l) + i) (take_at (take k bs) rest k front),
        )

    pub stays-behind : (i : ℕ) → n ≤ i → i ≤ length (get_or bs k []) → Stays bs (record { block = k; index = i }) (halved n k bs) (record { block = k + 1; index = i - n })
    stays-behind i low high =
        let b = get_or bs k [] in
        let before = take k bs ++ take n b ∷ [] in
        let is : halved n k bs ≡ before ++ drop n b ∷ drop (suc k) bs = sym (append_assoc (take k bs) (take n b ∷ []) (drop n b ∷ drop (suc k) bs)) in
        let long : length before ≡ k + 1 = length-append (take k bs) (take n b ∷ []) ∙ ap (λ m. m + 1) front in
        let at : get_or (halved n k bs) (k + 1) [] ≡ drop n b = ap (λ l. get_or l (k + 1) []) is ∙ get_or_at before (drop n b) (drop (suc k) bs) [] (k + 1) long in
        let taken : take (k + 1) (halved n k bs) ≡ before = ap (λ l. take (k + 1) l) is ∙ take_at before (drop n b ∷ drop (suc k) bs) (k + 1) long in
        let flat_is : elements before ≡ elements (take k bs) ++ take n b = elements-append (take k bs) (take n b ∷ []) ∙ ap (λ l. elements (take k bs) ++ l) (append-nil (take n b)) in
        let many : length (elements before) ≡ length (elements (take k bs)) + n = ap (λ l. length l) flat_is ∙ length-append (elements (take k bs)) (take n b) ∙ ap (λ m. length (elements (take k bs)) + m) (length-take-le n b (omega (arith, low, high))) in (
          omega (arith, length-halved),
          subst (λ l. i - n ≤ length l) (sym at) (omega (arith, length-drop n b, low, high)),
          ap (λ l. length (elements l) + (i - n)) taken ∙ omega (arith, many, low),
        )
