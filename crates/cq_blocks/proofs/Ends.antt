-- Where the elements begin and end that a test finds equal.
use Rattle.std.proofs.Common.{◌≡◌, ℕ, zero, suc, ◌+◌, ◌-◌, ◌<◌, ◌≤◌, Bool, true, false, true≢false, List, [], ◌∷◌, length, take, drop, get_or, inl, inr, refl, sym, ap, subst, ◌∙◌, arith}
use Rattle.std.specs.Prelude.{filter, not, slice_range}
use Rattle.std.specs.List.{HoldsAt, AllWithin}
use Rattle.std.specs.List.Sorted.{IsPartitionedBy}
use Rattle.std.specs.declared.cmp.Ordering.{Ordering}
use Rattle.std.specs.declared.cmp.Ordering.TheVariants.{Less, Equal, Greater}
use Rattle.std.specs.Ordering.{is_lt, is_gt, is_eq}
use Rattle.std.proofs.lemmas.Bool.{cases_lt}
use Rattle.std.proofs.lemmas.List.{take_all, get_or_read}
use Rattle.std.proofs.lemmas.List.Concat.{get_or-flat_map}
use Rattle.cq_blocks.specs.Blocks.{elements, begin_of, AreFilled, IsBetween}
use Rattle.cq_blocks.proofs.Lists.{filled-at, flat-within}
use Rattle.cq_blocks.proofs.Halving.{by_bool, next-begin, parted-block}

-- ---- one element, and those before it or after it

module _ {X : Type 0} (p : X → Bool) (xs : List X) (parted : IsPartitionedBy p xs) where
  pub before-one : (n : ℕ) → n < length xs → HoldsAt (λ y. p y ≡ true) xs n → AllWithin (λ y. p y ≡ true) xs 0 (n + 1)
  before-one n within passed k d least less = parted k n d (omega (arith, less)) within (passed d)

  pub behind-one : (n : ℕ) → HoldsAt (λ y. p y ≡ false) xs n → AllWithin (λ y. p y ≡ false) xs n (length xs)
  behind-one n failed k d le lt =
      by_bool (p (get_or xs k d)) (p (get_or xs k d) ≡ false) (λ t. absurd (true≢false (sym (parted n k d le lt t) ∙ failed d))) (λ f. f)

pub nothing-known : {X : Type 0} (p : X → Bool) (xs : List X) → IsBetween p xs 0 (length xs)
nothing-known p xs = ((λ k d least less. absurd (omega (arith, less))), (λ k d le lt. absurd (omega (arith, le, lt))))

-- what an element that was read says
pub read-says : {X : Type 0} (p : X → Bool) (xs : List X) (n : ℕ) (x : X) (b : Bool) → n < length xs → x ≡ get_or xs n x → b ≡ p x → HoldsAt (λ y. p y ≡ b) xs n
read-says p xs n x b within read says d = ap p (sym (get_or_read xs n x within read d)) ∙ sym says

-- ---- blocks

module _ {X : Type 0} (p : X → Bool) (bs : List (List X)) where
  at-block : (k j : ℕ) (d : X) → k < length bs → j < length (get_or bs k []) → get_or (elements bs) (begin_of bs k + j) d ≡ get_or (get_or bs k []) j d
  at-block k j d h within = get_or-flat_map (λ b. b) bs k j [] d h within

  pub before-none : AllWithin (λ y. p y ≡ true) (elements bs) 0 (begin_of bs 0)
  before-none k d least less = absurd (omega (arith, less))

  -- the first element of a block
  module _ (k : ℕ) (filled : AreFilled bs) (within : k < length bs) (parted : IsPartitionedBy p (elements bs)) where
    first-says : (b : Bool) → HoldsAt (λ y. p y ≡ b) (get_or bs k []) 0 → HoldsAt (λ y. p y ≡ b) (elements bs) (begin_of bs k + 0)
    first-says b first d = ap p (at-block k 0 d within (filled-at k bs filled within)) ∙ first d

    pub raised-to : HoldsAt (λ y. p y ≡ true) (get_or bs k []) 0 → AllWithin (λ y. p y ≡ true) (elements bs) 0 (begin_of bs k)
    raised-to first n d least less =
        before-one p (elements bs) parted (begin_of bs k + 0) (flat-within bs k 0 within (filled-at k bs filled within)) (first-says true first) n d least (omega (arith, less))

    pub lowered-to : HoldsAt (λ y. p y ≡ false) (get_or bs k []) 0 → AllWithin (λ y. p y ≡ false) (elements bs) (begin_of bs k) (length (elements bs))
    lowered-to first n d le lt = behind-one p (elements bs) parted (begin_of bs k + 0) (first-says false first) n d (omega (arith, le)) lt

  -- the elements within one block
  module _ (k i : ℕ) (within : k < length bs) (inside : i ≤ length (get_or bs k [])) where
    in-block : (n : ℕ) (d : X) → begin_of bs k ≤ n → n < begin_of bs k + length (get_or bs k []) → get_or (elements bs) n d ≡ get_or (get_or bs k []) (n - begin_of bs k) d
    in-block n d le lt =
        let is : n ≡ begin_of bs k + (n - begin_of bs k) = omega (arith, le) in
        ap (λ m. get_or (elements bs) m d) is ∙ at-block k (n - begin_of bs k) d within (omega (arith, le, lt))

    pub before-in : AllWithin (λ y. p y ≡ true) (elements bs) 0 (begin_of bs k) → AllWithin (λ y. p y ≡ true) (get_or bs k []) 0 i → AllWithin (λ y. p y ≡ true) (elements bs) 0 (begin_of bs k + i)
    before-in before inner n d least less =
        elim (cases_lt n (begin_of bs k)) [
          | inl lt ↦ before n d least lt
          | inr le ↦ ap p (in-block n d le (omega (arith, less, inside))) ∙ inner (n - begin_of bs k) d (omega arith) (omega (arith, le, less))
        ]

    pub point-in : IsBetween p (elements bs) (begin_of bs k) (begin_of bs (k + 1)) → IsBetween p (get_or bs k []) i i → IsBetween p (elements bs) (begin_of bs k + i) (begin_of bs k + i)
    point-in outer inner = (
      before-in outer.0 inner.0,
      (λ n d le lt. elim (cases_lt n (begin_of bs k + length (get_or bs k []))) [
        | inl less ↦ ap p (in-block n d (omega (arith, le)) less) ∙ inner.1 (n - begin_of bs k) d (omega (arith, le)) (omega (arith, le, less))
        | inr far ↦ outer.1 n d (omega (arith, next-begin p bs k within, far)) lt
      ]),
    )

    -- none before the place is greater
    module _ (parted : IsPartitionedBy p (elements bs)) (before : AllWithin (λ y. p y ≡ true) (elements bs) 0 (begin_of bs k + i)) where
      block-before : AllWithin (λ y. p y ≡ true) (get_or bs k []) 0 i
      block-before n d least less = ap p (sym (at-block k n d within (omega (arith, less, inside)))) ∙ before (begin_of bs k + n) d (omega arith) (omega (arith, less))

      -- what a search in the block finds, where the block was read
      pub end-read : (l : List X) (e : ℕ) → AreFilled bs → l ≡ get_or bs k [] → (IsPartitionedBy p l → AllWithin (λ y. p y ≡ true) l 0 i → IsBetween p l e e) → IsBetween p (get_or bs k []) e e
      end-read l e filled is found =
          subst (λ m. IsBetween p m e e) is
          (found (subst (λ m. IsPartitionedBy p m) (sym is) (parted-block p bs k i filled within inside parted)) (subst (λ m. AllWithin (λ y. p y ≡ true) m 0 i) (sym is) block-before))

      pub end-before : (e : ℕ) → e ≤ length (get_or bs k []) → IsBetween p (get_or bs k []) e e → AllWithin (λ y. p y ≡ true) (elements bs) 0 (begin_of bs k + e)
      end-before e high inner n d least less =
          elim (cases_lt n (begin_of bs k)) [
            | inl lt ↦ before n d least (omega (arith, lt))
            | inr le ↦ ap p (in-block n d le (omega (arith, less, high))) ∙ inner.0 (n - begin_of bs k) d (omega arith) (omega (arith, le, less))
          ]

      pub end-within : (e : ℕ) → e < length (get_or bs k []) → IsBetween p (get_or bs k []) e e → IsBetween p (elements bs) (begin_of bs k + e) (begin_of bs k + e)
      end-within e lt inner = (
        end-before e (omega (arith, lt)) inner,
        behind-one p (elements bs) parted (begin_of bs k + e) (λ d. ap p (at-block k e d within lt) ∙ inner.1 e d (omega arith) lt),
      )

      pub end-last : (e : ℕ) → e ≡ length (get_or bs k []) → length bs ≤ k + 1 → IsBetween p (get_or bs k []) e e → IsBetween p (elements bs) (begin_of bs k + e) (begin_of bs k + e)
      end-last e same last inner = (
        end-before e (omega (arith, same)) inner,
        (λ n d le lt.
            let all : begin_of bs (k + 1) ≡ length (elements bs) = ap (λ l. length (elements l)) (take_all (k + 1) bs last) in
            absurd (omega (arith, all, next-begin p bs k within, same, le, lt))),
      )

      pub end-next : (e : ℕ) → e ≡ length (get_or bs k []) → IsBetween p (get_or bs k []) e e → AllWithin (λ y. p y ≡ true) (elements bs) 0 (begin_of bs (k + 1))
      end-next e same inner n d least less = end-before e (omega (arith, same)) inner n d least (omega (arith, next-begin p bs k within, same, less))

-- ---- the elements between two places

module _ {X : Type 0} (e : X → Bool) where
  kept-between : (xs : List X) (a n : ℕ) → AllWithin (λ y. e y ≡ false) xs 0 a → ((k : ℕ) (d : X) → a ≤ k → k < a + n → k < length xs → e (get_or xs k d) ≡ true) → AllWithin (λ y. e y ≡ false) xs (a + n) (length xs)
      → filter e xs ≡ take n (drop a xs)
  kept-between [] zero zero before here behind = refl
  kept-between [] zero (suc n) before here behind = refl
  kept-between [] (suc a) zero before here behind = refl
  kept-between [] (suc a) (suc n) before here behind = refl
  kept-between (x ∷ xs) zero zero before here behind =
      rw (behind 0 x (omega arith) (let l : 0 < suc (length xs) = omega arith in l))
      (kept-between xs zero zero (λ k d a b. absurd (omega (arith, b))) (λ k d a b c. absurd (omega (arith, b))) (λ k d a b. behind (suc k) d (omega arith) (let l : suc k < suc (length xs) = omega (arith, b) in l)))
  kept-between (x ∷ xs) zero (suc n) before here behind =
      rw (here 0 x (omega arith) (omega arith) (let l : 0 < suc (length xs) = omega arith in l))
      (ap (λ l. x ∷ l) (kept-between xs zero n (λ k d a b. absurd (omega (arith, b))) (λ k d a b c. here (suc k) d (omega arith) (omega (arith, b)) (let l : suc k < suc (length xs) = omega (arith, c) in l))
      (λ k d a b. behind (suc k) d (omega (arith, a)) (let l : suc k < suc (length xs) = omega (arith, b) in l))))
  kept-between (x ∷ xs) (suc a) n before here behind =
      rw (before 0 x (omega arith) (omega arith))
      (kept-between xs a n (λ k d l h. before (suc k) d (omega arith) (omega (arith, h))) (λ k d l h c. here (suc k) d (omega (arith, l)) (omega (arith, h)) (let m : suc k < suc (length xs) = omega (arith, c) in m))
      (λ k d l h. behind (suc k) d (omega (arith, l)) (let m : suc k < suc (length xs) = omega (arith, h) in m)))

less-not : (o : Ordering) → is_lt o ≡ true → is_eq o ≡ false
less-not Less t = refl
less-not Equal t = absurd (true≢false (sym t))
less-not Greater t = refl

greater-not : (o : Ordering) → not (is_gt o) ≡ false → is_eq o ≡ false
greater-not Less f = refl
greater-not Equal f = absurd (true≢false f)
greater-not Greater f = refl

upto-of-less : (o : Ordering) → is_lt o ≡ true → not (is_gt o) ≡ true
upto-of-less Less t = refl
upto-of-less Equal t = refl
upto-of-less Greater t = t

equal-is : (o : Ordering) → is_lt o ≡ false → not (is_gt o) ≡ true → is_eq o ≡ true
equal-is Less f t = absurd (true≢false f)
equal-is Equal f t = refl
equal-is Greater f t = absurd (true≢false (sym t))

-- those that are less are not greater
pub upto-where-less : {X : Type 0} (ord : X → Ordering) (xs : List X) (a : ℕ) → AllWithin (λ x. is_lt (ord x) ≡ true) xs 0 a → AllWithin (λ x. not (is_gt (ord x)) ≡ true) xs 0 a
upto-where-less ord xs a less k d least lt = upto-of-less (ord (get_or xs k d)) (less k d least lt)

-- those from the first that is not less up to the first that is greater are those that are equal
pub equal-between : {X : Type 0} (ord : X → Ordering) (xs : List X) (a b : ℕ) → a ≤ b → IsBetween (λ x. is_lt (ord x)) xs a a → IsBetween (λ x. not (is_gt (ord x))) xs b b → slice_range xs a b ≡ filter (λ x. is_eq (ord x)) xs
equal-between ord xs a b order less upto =
    sym (kept-between (λ x. is_eq (ord x)) xs a (b - a)
    (λ k d l h. less-not (ord (get_or xs k d)) (less.0 k d l h))
    (λ k d l h within. equal-is (ord (get_or xs k d)) (less.1 k d l within) (upto.0 k d (omega arith) (omega (arith, h, order))))
    (λ k d l h. greater-not (ord (get_or xs k d)) (upto.1 k d (omega (arith, l, order)) h)))
