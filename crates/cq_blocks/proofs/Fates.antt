-- What a loop has kept of the elements that a test finds equal.
use Rattle.std.proofs.Common.{◌≡◌, Some, ℕ, zero, suc, ◌+◌, ◌<◌, ◌≤◌, Bool, true, false, true≢false, cond, List, [], ◌∷◌, ◌++◌, length, take, drop, get_or, refl, sym, ap, subst, ◌∙◌, arith}
use Rattle.std.specs.List.{slice_get, remove, filter}
use Rattle.std.specs.Prelude.{not, ◌||◌}
use Rattle.std.specs.List.Sorted.{IsPartitionedBy, IsPartitionPoint}
use Rattle.std.specs.declared.cmp.Ordering.{Ordering}
use Rattle.std.specs.declared.cmp.Ordering.TheVariants.{Less, Equal, Greater}
use Rattle.std.specs.Ordering.{is_lt, is_gt, is_eq}
use Rattle.std.proofs.lemmas.List.{append-nil, take_all, drop_all, drop_more, drop_at, take-append-drop, length-take-le, length-drop, get_or-take, get_or-drop}
use Rattle.std.proofs.lemmas.List.Elements.{filter-append}
use Rattle.std.proofs.lemmas.Option.{get_or_from_slice_get}
use Rattle.cq_blocks.proofs.Halving.{by_bool}
use Rattle.cq_blocks.proofs.Retained.{stays, goes}

filter-all : {X : Type 0} (p : X → Bool) (xs : List X) → ((k : ℕ) (d : X) → k < length xs → p (get_or xs k d) ≡ true) → filter p xs ≡ xs
filter-all p [] each = refl
filter-all p (x ∷ xs) each =
    ap (λ b. cond b (x ∷ filter p xs) (filter p xs)) (each zero x (omega arith))
    ∙ ap (λ l. x ∷ l) (filter-all p xs (λ k d h. each (suc k) d (omega (arith, h))))

less-stays : (o : Ordering) (b : Bool) → is_lt o ≡ true → not (is_eq o) || b ≡ true
less-stays Less b t = refl
less-stays Equal b t = absurd (true≢false (sym t))
less-stays Greater b t = refl

greater-stays : (o : Ordering) (b : Bool) → not (is_gt o) ≡ false → not (is_eq o) || b ≡ true
greater-stays Less b f = refl
greater-stays Equal b f = absurd (true≢false f)
greater-stays Greater b f = refl

is-greater : (o : Ordering) → is_lt o ≡ false → is_eq o ≡ false → not (is_gt o) ≡ false
is-greater Less less equal = absurd (true≢false less)
is-greater Equal less equal = absurd (true≢false equal)
is-greater Greater less equal = refl

-- an element that was read
pub read-at : {X : Type 0} (xs : List X) (n i : ℕ) (x : X) → n ≡ i → Some x ≡ slice_get xs n → x ≡ get_or xs i x
read-at xs n i x at is = sym (ap (λ m. get_or xs m x) (sym at) ∙ get_or_from_slice_get xs n x x (sym is))

module _ {X : Type 0} (ord : X → Ordering) (p : X → Bool) where
  -- whether the element is left in the end
  abbrev pub kept : X → Bool
  kept x = not (is_eq (ord x)) || p x

  -- from any element on that is not equal, all are left
  abbrev pub AreSettled : List X → Type 0
  AreSettled [] = Unit {0}
  AreSettled (x ∷ xs) = (is_eq (ord x) ≡ false → filter kept (x ∷ xs) ≡ x ∷ xs) × AreSettled xs

  -- the elements before the index are those that are left of the old ones there
  pub record AreKept (old now : List X) (at : ℕ) : Type 0 where
    pub so_far : filter kept old ≡ take at now ++ filter kept (drop at now)
    pub settled : AreSettled (drop at now)

  all-settled : (xs : List X) → ((k : ℕ) (d : X) → k < length xs → is_lt (ord (get_or xs k d)) ≡ false) → IsPartitionedBy (λ x. not (is_gt (ord x))) xs → AreSettled xs
  all-settled [] low parted = tt
  all-settled (x ∷ xs) low parted = (
    (λ f. filter-all kept (x ∷ xs) (λ k d h.
        greater-stays (ord (get_or (x ∷ xs) k d)) (p (get_or (x ∷ xs) k d))
        (by_bool (not (is_gt (ord (get_or (x ∷ xs) k d)))) (not (is_gt (ord (get_or (x ∷ xs) k d))) ≡ false)
        (λ t. absurd (true≢false (sym (parted zero k d (omega arith) h t) ∙ is-greater (ord x) (low zero x (omega arith)) f)))
        (λ e. e)))),
    all-settled xs (λ k d h. low (suc k) d (omega (arith, h))) (λ i j d le lt t. parted (suc i) (suc j) d (omega (arith, le)) (omega (arith, lt)) t),
  )

  pub kept-first : (xs : List X) (n : ℕ) → n ≤ length xs → IsPartitionPoint (λ x. is_lt (ord x) ≡ true) (λ x. is_lt (ord x) ≡ false) xs n → IsPartitionedBy (λ x. not (is_gt (ord x))) xs → AreKept xs xs n
  kept-first xs n within point parted =
      let front : filter kept (take n xs) ≡ take n xs =
      filter-all kept (take n xs) (λ k d h.
      let less : k < n = omega (arith, length-take-le n xs within, h) in
      ap kept (get_or-take n xs k d less) ∙ less-stays (ord (get_or xs k d)) (p (get_or xs k d)) (point.0 k d (omega arith) less)) in record {
        so_far = ap (filter kept) (sym (take-append-drop n xs)) ∙ filter-append kept (take n xs) (drop n xs) ∙ ap (λ l. l ++ filter kept (drop n xs)) front;
        settled = all-settled (drop n xs)
            (λ k d h. ap (λ x. is_lt (ord x)) (get_or-drop n xs k d) ∙ point.1 (n + k) d (omega arith) (omega (arith, length-drop n xs, h)))
            (λ i j d le lt t.
            ap (λ x. not (is_gt (ord x))) (get_or-drop n xs i d)
            ∙ parted (n + i) (n + j) d (omega (arith, le)) (omega (arith, length-drop n xs, lt)) (ap (λ x. not (is_gt (ord x))) (sym (get_or-drop n xs j d)) ∙ t));
      }

  module _ (old now : List X) (at : ℕ) (x : X) (within : at < length now) (read : x ≡ get_or now at x) (known : AreKept old now at) where
    here : drop at now ≡ x ∷ drop (at + 1) now
    here = drop_more now at x within ∙ ap (λ y. y ∷ drop (at + 1) now) (sym read)

    pub kept-stays : is_eq (ord x) ≡ true → p x ≡ true → AreKept old now (at + 1)
    kept-stays equal passes = record {
      so_far = stays kept old now at x within read known.so_far (ap (λ b. not b || p x) equal ∙ passes);
      settled = (subst (λ l. AreSettled l) here known.settled).1;
    }

    pub kept-goes : (next : List X) → is_eq (ord x) ≡ true → p x ≡ false → next ≡ remove now at → AreKept old next at
    kept-goes next equal fails is =
        let long : length (take at now) ≡ at = length-take-le at now (omega (arith, within)) in
        let one : suc at ≡ at + 1 = omega arith in
        let back : drop at next ≡ drop (at + 1) now = ap (λ l. drop at l) is ∙ drop_at (take at now) (drop (suc at) now) at long ∙ ap (λ n. drop n now) one in record {
          so_far = goes kept old now at x within read known.so_far next (ap (λ b. not b || p x) equal ∙ fails) is;
          settled = subst (λ l. AreSettled l) (sym back) (subst (λ l. AreSettled l) here known.settled).1;
        }

    pub kept-ends : is_eq (ord x) ≡ false → now ≡ filter kept old
    kept-ends unequal =
        sym
        (known.so_far
        ∙ ap (λ l. take at now ++ l) (ap (filter kept) here ∙ (subst (λ l. AreSettled l) here known.settled).0 unequal ∙ sym here)
        ∙ take-append-drop at now)

  -- all were gone through
  pub kept-all : (old now : List X) (at : ℕ) → AreKept old now at → length now ≤ at → now ≡ filter kept old
  kept-all old now at known past =
      sym
      (known.so_far
      ∙ ap (λ l. l ++ filter kept (drop at now)) (take_all at now past)
      ∙ ap (λ l. now ++ filter kept l) (drop_all at now past)
      ∙ append-nil now)
