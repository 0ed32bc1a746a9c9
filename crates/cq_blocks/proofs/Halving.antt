-- What a search by halving has found of the blocks.
use Rattle.std.proofs.Common.{◌≡◌, ℕ, suc, ◌+◌, ◌-◌, ◌<◌, ◌≤◌, Bool, true, false, true≢false, List, [], ◌∷◌, ◌++◌, length, take, drop, get_or, inl, inr, refl, sym, ap, subst, ◌∙◌, arith}
use Rattle.std.specs.Prelude.{◌⊎◌, Vec, not}
use Rattle.std.specs.Fn.{Called, ComputesKey, Mut}
use Rattle.std.specs.List.{HoldsAt}
use Rattle.std.specs.List.Sorted.{IsPartitionedBy, IsPartitionPoint, IsNonDecreasingBy}
use Rattle.std.specs.declared.cmp.Ordering.{Ordering}
use Rattle.std.specs.declared.cmp.Ordering.TheVariants.{Less, Equal, Greater}
use Rattle.std.specs.Ordering.{is_lt, is_gt, ordering_index}
use Rattle.std.proofs.lemmas.Bool.{cases_lt}
use Rattle.std.proofs.lemmas.List.{append-nil, take_more, take_all, length-append, get_or_read}
use Rattle.std.proofs.lemmas.List.Concat.{get_or-flat_map}
use Rattle.cq_blocks.specs.Blocks.{elements, lists_of, AreFilled}
use Rattle.cq_blocks.proofs.Lists.{elements-append, elements-split, flat-within, filled-at}
use Rattle.cq_blocks.proofs.Vecs.{list-at}
use denote.Ref.{Bor}

-- what a call of the test gives, and that it goes on testing h
pub computes-next : {F A R : Type 0} {g : Mut F (Bor A × Unit {0}) R} {f f' : F} (h : A → R) {x : Bor A} {r : R} → ComputesKey g h f → Called g f (x, tt) r f' → ComputesKey g h f' × (r ≡ h x.now)
computes-next {g = g} {f} {f'} h {x} {r} k e = (record { at = λ xs. (k.at ((x, tt) ∷ xs) r f' e).1 }, (k.at ((x, tt) ∷ []) r f' e).0)

pub by_bool : (b : Bool) (P : Type 0) → (b ≡ true → P) → (b ≡ false → P) → P
by_bool true P f g = f refl
by_bool false P f g = g refl

module _ {X : Type 0} (p : X → Bool) (bs : List (List X)) where
  -- the first element of the block answers so
  abbrev Begins : Bool → ℕ → Type 0
  Begins b k = HoldsAt (λ y. p y ≡ b) (get_or bs k []) 0

  -- low is the first block or begins with an element that passes, and high is after the last block or begins with one that fails
  pub record Halved (low high : ℕ) : Type 0 where
    pub before : (low ≡ 0) ⊎ Begins true low
    pub behind : (high ≡ length bs) ⊎ Begins false high

  pub unhalved : Halved 0 (length bs)
  unhalved = record { before = inl refl; behind = inl refl }

  pub raised : (low middle high : ℕ) → Begins true middle → Halved low high → Halved middle high
  raised low middle high b h = record { before = inr b; behind = h.behind }

  pub lowered : (low middle high : ℕ) → Begins false middle → Halved low high → Halved low middle
  lowered low middle high b h = record { before = h.before; behind = inr b }

  -- the first element of a block, as it was read
  pub begins : {Z : Type 0} (vs : List (Vec X Z)) (k : ℕ) (v : Vec X Z) (x : X) (b : Bool) → lists_of vs ≡ bs → AreFilled bs → k < length bs → v ≡ get_or vs k v → x ≡ get_or v.items 0 x → b ≡ p x → Begins b k
  begins vs k v x b view filled within is read says d =
      let at : get_or bs k [] ≡ v.items = sym (ap (λ l. get_or l k []) view) ∙ list-at vs k v (subst (λ l. k < length l) (sym view) within) is in
      let some : 0 < length (get_or bs k []) = filled-at k bs filled within in
      let first : x ≡ get_or (get_or bs k []) 0 d = get_or_read (get_or bs k []) 0 x some (read ∙ ap (λ l. get_or l 0 x) (sym at)) d in
      ap p (sym first) ∙ sym says

  -- ---- where blocks begin in the list of all elements

  pub next-begin : (k : ℕ) → k < length bs → length (elements (take (k + 1) bs)) ≡ length (elements (take k bs)) + length (get_or bs k [])
  next-begin k h =
      ap (λ l. length (elements l)) (take_more bs k [] h)
      ∙ ap (λ l. length l) (elements-append (take k bs) (get_or bs k [] ∷ []))
      ∙ length-append (elements (take k bs)) (get_or bs k [] ++ [])
      ∙ ap (λ l. length (elements (take k bs)) + length l) (append-nil (get_or bs k []))

  at-block : (k j : ℕ) (d : X) → k < length bs → j < length (get_or bs k []) → get_or (elements bs) (length (elements (take k bs)) + j) d ≡ get_or (get_or bs k []) j d
  at-block k j d h within = get_or-flat_map (λ b. b) bs k j [] d h within

  -- ---- the place within one block

  module _ (low i : ℕ) (filled : AreFilled bs) (there : low < length bs) (inside : i ≤ length (get_or bs low [])) (parted : IsPartitionedBy p (elements bs)) where
    pub parted-block : IsPartitionedBy p (get_or bs low [])
    parted-block m n d le lt t =
        ap p (sym (at-block low m d there (omega (arith, le, lt))))
        ∙ parted (length (elements (take low bs)) + m) (length (elements (take low bs)) + n) d (omega (arith, le)) (flat-within bs low n there lt) (ap p (at-block low n d there lt) ∙ t)

    module _ (halved : Halved low (low + 1)) (point : IsPartitionPoint (λ y. p y ≡ true) (λ y. p y ≡ false) (get_or bs low []) i) where
      in-block : (k : ℕ) (d : X) → length (elements (take low bs)) ≤ k → k < length (elements (take low bs)) + length (get_or bs low []) → get_or (elements bs) k d ≡ get_or (get_or bs low []) (k - length (elements (take low bs))) d
      in-block k d le lt =
          let is : k ≡ length (elements (take low bs)) + (k - length (elements (take low bs))) = omega (arith, le) in
          ap (λ n. get_or (elements bs) n d) is ∙ at-block low (k - length (elements (take low bs))) d there (omega (arith, le, lt))

      before-place : (k : ℕ) (d : X) → k < length (elements (take low bs)) + i → p (get_or (elements bs) k d) ≡ true
      before-place k d lt =
          elim (cases_lt k (length (elements (take low bs)))) [
            | inr le ↦ ap p (in-block k d le (omega (arith, lt, inside))) ∙ point.0 (k - length (elements (take low bs))) d (omega arith) (omega (arith, le, lt))
            | inl less ↦
                elim halved.before [
                  | inl none ↦ absurd (let e : length (elements (take low bs)) ≡ 0 = ap (λ n. length (elements (take n bs))) none in omega (arith, e, less))
                  | inr begins ↦
                      let some : 0 < length (get_or bs low []) = filled-at low bs filled there in
                      parted k (length (elements (take low bs)) + 0) d (omega (arith, less)) (flat-within bs low 0 there some) (ap p (at-block low 0 d there some) ∙ begins d)
                ]
          ]

      all-here : length bs ≤ low + 1 → length (elements bs) ≡ length (elements (take low bs)) + length (get_or bs low [])
      all-here h = ap (λ l. length (elements l)) (sym (take_all (low + 1) bs h)) ∙ next-begin low there

      behind-place : (k : ℕ) (d : X) → length (elements (take low bs)) + i ≤ k → k < length (elements bs) → p (get_or (elements bs) k d) ≡ false
      behind-place k d le lt =
          elim (cases_lt k (length (elements (take low bs)) + length (get_or bs low []))) [
            | inl less ↦ ap p (in-block k d (omega (arith, le)) less) ∙ point.1 (k - length (elements (take low bs))) d (omega (arith, le)) (omega (arith, le, less))
            | inr far ↦
                elim (cases_lt (low + 1) (length bs)) [
                  | inr last ↦ absurd (omega (arith, all-here last, far, lt))
                  | inl more ↦
                      elim halved.behind [
                        | inl end ↦ absurd (omega (arith, end, more))
                        | inr begins ↦
                            let some : 0 < length (get_or bs (low + 1) []) = filled-at (low + 1) bs filled more in
                            by_bool (p (get_or (elements bs) k d)) (p (get_or (elements bs) k d) ≡ false)
                            (λ t. absurd (true≢false (
                            sym (parted (length (elements (take (low + 1) bs)) + 0) k d (omega (arith, next-begin low there, far)) lt t)
                            ∙ ap p (at-block (low + 1) 0 d more some) ∙ begins d)))
                            (λ f. f)
                      ]
                ]
          ]

      pub point-of-all : IsPartitionPoint (λ y. p y ≡ true) (λ y. p y ≡ false) (elements bs) (length (elements (take low bs)) + i)
      point-of-all = ((λ k d least lt. before-place k d lt), (λ k d le lt. behind-place k d le lt))

-- the place in the list of all elements, from that in the block that is left
module _ {X Z : Type 0} (vs : List (Vec X Z)) (bs : List (List X)) (v : Vec X Z) (items : List X) (low high i : ℕ) (view : lists_of vs ≡ bs) (filled : AreFilled (lists_of vs)) (order : low < high) (left : high - low ≤ 1)
    (within : high ≤ length (lists_of vs)) (is : v ≡ get_or vs low v) (shown : items ≡ v.items) (inside : i ≤ length items) where
  block-is : items ≡ get_or bs low []
  block-is = shown ∙ sym (list-at vs low v (omega (arith, order, within)) is) ∙ ap (λ l. get_or l low []) view

  there : low < length bs
  there = subst (λ l. low < length l) view (omega (arith, order, within))

  inside-block : i ≤ length (get_or bs low [])
  inside-block = subst (λ l. i ≤ length l) block-is inside

  pub found-bound : length (elements (take low bs)) + i ≤ length (elements bs)
  found-bound =
      let e = ap (λ l. length l) (elements-split bs low there) in
      let a = length-append (elements (take low bs)) (get_or bs low [] ++ elements (drop (suc low) bs)) in
      let b = length-append (get_or bs low []) (elements (drop (suc low) bs)) in
      omega (arith, e, a, b, inside-block)

  pub found-point : (p : X → Bool) → Halved p (lists_of vs) low high → IsPartitionedBy p (elements bs) → (IsPartitionedBy p items → IsPartitionPoint (λ y. p y ≡ true) (λ y. p y ≡ false) items i)
      → IsPartitionPoint (λ y. p y ≡ true) (λ y. p y ≡ false) (elements bs) (length (elements (take low bs)) + i)
  found-point p halved parted point =
      let next : high ≡ low + 1 = omega (arith, order, left) in
      let full : AreFilled bs = subst (λ l. AreFilled l) view filled in
      point-of-all p bs low i full there inside-block parted (subst (λ n. Halved p bs low n) next (subst (λ l. Halved p l low high) view halved))
      (subst (λ l. IsPartitionPoint (λ y. p y ≡ true) (λ y. p y ≡ false) l i) block-is (point (subst (λ l. IsPartitionedBy p l) (sym block-is) (parted-block p bs low i full there inside-block parted))))

-- ---- what a test that orders says

less-is : (o : Ordering) → is_lt o ≡ true → o ≡ Less
less-is Less t = refl
less-is Equal t = absurd (true≢false (sym t))
less-is Greater t = absurd (true≢false (sym t))

greater-is : (o : Ordering) → not (is_gt o) ≡ false → o ≡ Greater
greater-is Less f = absurd (true≢false f)
greater-is Equal f = absurd (true≢false f)
greater-is Greater f = refl

not-less : (o : Ordering) → not (is_gt o) ≡ false → is_lt o ≡ false
not-less Less f = absurd (true≢false f)
not-less Equal f = refl
not-less Greater f = refl

less-falls : (o r : Ordering) → ordering_index o ≤ ordering_index r → is_lt r ≡ true → is_lt o ≡ true
less-falls Less r h t = refl
less-falls Equal Less h t = absurd (omega arith)
less-falls Equal Equal h t = t
less-falls Equal Greater h t = t
less-falls Greater Less h t = absurd (omega arith)
less-falls Greater Equal h t = t
less-falls Greater Greater h t = t

upto-falls : (o r : Ordering) → ordering_index o ≤ ordering_index r → not (is_gt r) ≡ true → not (is_gt o) ≡ true
upto-falls Less r h t = refl
upto-falls Equal r h t = refl
upto-falls Greater Less h t = absurd (omega arith)
upto-falls Greater Equal h t = absurd (omega arith)
upto-falls Greater Greater h t = t

module _ {X Z : Type 0} (ord : X → Ordering) (vs : List (Vec X Z)) (bs : List (List X)) (v : Vec X Z) (items : List X) (low high i : ℕ) (view : lists_of vs ≡ bs) (filled : AreFilled (lists_of vs)) (order : low < high)
    (left : high - low ≤ 1) (within : high ≤ length (lists_of vs)) (is : v ≡ get_or vs low v) (shown : items ≡ v.items) where
  block-same : items ≡ get_or bs low []
  block-same = shown ∙ sym (list-at vs low v (omega (arith, order, within)) is) ∙ ap (λ l. get_or l low []) view

  here : low < length bs
  here = subst (λ l. low < length l) view (omega (arith, order, within))

  -- an equal element of the block
  pub found-equal : i < length items → HoldsAt (λ y. ord y ≡ Equal) items i → HoldsAt (λ y. ord y ≡ Equal) (elements bs) (length (elements (take low bs)) + i)
  found-equal inside equal d =
      ap ord (get_or-flat_map (λ b. b) bs low i [] d here (subst (λ l. i < length l) block-same inside) ∙ ap (λ l. get_or l i d) (sym block-same)) ∙ equal d

  pub found-within : i < length items → length (elements (take low bs)) + i < length (elements bs)
  found-within inside = flat-within bs low i here (subst (λ l. i < length l) block-same inside)

  -- the place of one that is not there
  module _ (inside : i ≤ length items) (halved : Halved (λ y. not (is_gt (ord y))) (lists_of vs) low high) (rises : IsNonDecreasingBy (λ y. ordering_index (ord y)) (elements bs))
      (point : IsNonDecreasingBy (λ y. ordering_index (ord y)) items → IsPartitionPoint (λ y. ord y ≡ Less) (λ y. ord y ≡ Greater) items i) where
    read : (m : ℕ) (d : X) → m < length items → get_or (elements bs) (length (elements (take low bs)) + m) d ≡ get_or items m d
    read m d h = get_or-flat_map (λ b. b) bs low m [] d here (subst (λ l. m < length l) block-same h) ∙ ap (λ l. get_or l m d) (sym block-same)

    rises-block : IsNonDecreasingBy (λ y. ordering_index (ord y)) items
    rises-block m n d le lt =
        let low_is = ap (λ y. ordering_index (ord y)) (read m d (omega (arith, le, lt))) in
        let high_is = ap (λ y. ordering_index (ord y)) (read n d lt) in
        let all = rises (length (elements (take low bs)) + m) (length (elements (take low bs)) + n) d (omega (arith, le)) (flat-within bs low n here (subst (λ l. n < length l) block-same lt)) in
        omega (arith, low_is, high_is, all)

    parts : IsPartitionPoint (λ y. ord y ≡ Less) (λ y. ord y ≡ Greater) items i
    parts = point rises-block

    upto-point : IsPartitionPoint (λ y. not (is_gt (ord y)) ≡ true) (λ y. not (is_gt (ord y)) ≡ false) (elements bs) (length (elements (take low bs)) + i)
    upto-point =
        found-point vs bs v items low high i view filled order left within is shown inside (λ y. not (is_gt (ord y))) halved
        (λ m n d le lt t. upto-falls (ord (get_or (elements bs) m d)) (ord (get_or (elements bs) n d)) (rises m n d le lt) t)
        (λ parted. ((λ k d a b. ap (λ o. not (is_gt o)) (parts.0 k d a b)), (λ k d a b. ap (λ o. not (is_gt o)) (parts.1 k d a b))))

    some : 0 < length items
    some = subst (λ l. 0 < length l) (sym block-same) (filled-at low bs (subst (λ l. AreFilled l) view filled) here)

    first-less : Begins (λ y. not (is_gt (ord y))) (lists_of vs) true low → Begins (λ y. is_lt (ord y)) (lists_of vs) true low
    first-less begins d =
        let same : items ≡ get_or (lists_of vs) low [] = block-same ∙ ap (λ l. get_or l low []) (sym view) in
        let first = begins d in
        elim (cases_lt 0 i) [
          | inl more ↦ ap (λ l. is_lt (ord (get_or l 0 d))) (sym same) ∙ ap is_lt (parts.0 0 d (omega arith) more)
          | inr none ↦ absurd (true≢false (sym first ∙ ap (λ l. not (is_gt (ord (get_or l 0 d)))) (sym same) ∙ ap (λ o. not (is_gt o)) (parts.1 0 d none some)))
        ]

    less-halved : Halved (λ y. is_lt (ord y)) (lists_of vs) low high
    less-halved = record {
      before = elim halved.before [ inl none ↦ inl none | inr begins ↦ inr (first-less begins) ];
      behind = elim halved.behind [ inl end ↦ inl end | inr begins ↦ inr (λ d. not-less (ord (get_or (get_or (lists_of vs) high []) 0 d)) (begins d)) ];
    }

    less-point : IsPartitionPoint (λ y. is_lt (ord y) ≡ true) (λ y. is_lt (ord y) ≡ false) (elements bs) (length (elements (take low bs)) + i)
    less-point =
        found-point vs bs v items low high i view filled order left within is shown inside (λ y. is_lt (ord y)) less-halved
        (λ m n d le lt t. less-falls (ord (get_or (elements bs) m d)) (ord (get_or (elements bs) n d)) (rises m n d le lt) t)
        (λ parted. ((λ k d a b. ap is_lt (parts.0 k d a b)), (λ k d a b. ap is_lt (parts.1 k d a b))))

    pub found-place : IsPartitionPoint (λ y. ord y ≡ Less) (λ y. ord y ≡ Greater) (elements bs) (length (elements (take low bs)) + i)
    found-place = (
      (λ k d a b. less-is (ord (get_or (elements bs) k d)) (less-point.0 k d a b)),
      (λ k d a b. greater-is (ord (get_or (elements bs) k d)) (upto-point.1 k d a b)),
    )
