-- Places that are within blocks, where the blocks are read as `Vec`s.
use Rattle.std.proofs.Common.{◌≡◌, ℕ, ◌+◌, ◌-◌, ◌/◌, ◌<◌, ◌≤◌, Bool, true, false, nat_eq, List, [], ◌∷◌, length, take, drop, get_or, refl, sym, ap, subst, ◌∙◌, arith, le_of_lt}
use Rattle.std.proofs.Math.Nat.{lt_of_lt_of_le}
use Rattle.std.specs.Prelude.{Vec, filter}
use Rattle.std.specs.List.Sorted.{IsPartitionPoint}
use Rattle.std.proofs.lemmas.List.{length-map, get_or_past, take_all, drop_all, length-take-le, nil_from_length}
use borrow.Author.Tests.{eqb-true, eqb-false}
use Rattle.cq_blocks.specs.declared.place.Place.{Place}
use Rattle.cq_blocks.specs.Blocks.{elements, flat, lists_of, AreFilled}
use Rattle.cq_blocks.proofs.Lists.{filled-at}
use Rattle.cq_blocks.proofs.Vecs.{list-at, length-at}
use Rattle.cq_blocks.proofs.Flat.{counted}

-- ---- numbers

pub further : (n i j : ℕ) → i ≤ j → n + i ≤ n + j
further n i j h = omega arith

pub middle-below : (low high n : ℕ) → low < high → high ≤ n → low + (high - low) / 2 < n
middle-below low high n order within = omega arith

pub one-left : (low high : ℕ) → low < high → high - low ≤ 1 → high ≡ low + 1
one-left low high order left = omega arith

-- ---- how many blocks there are

module _ {X Z : Type 0} (vs : List (Vec X Z)) where
  pub many : length (lists_of vs) ≡ length vs
  many = length-map vs (λ (w : Vec X Z). w.items)

  pub below : (k : ℕ) → k < length (lists_of vs) → k < length vs
  below k h = subst (λ n. k < n) many h

  pub up-to : (k : ℕ) → k ≤ length (lists_of vs) → k ≤ length vs
  up-to k h = subst (λ n. k ≤ n) many h

  pub up-below : (k : ℕ) → k < length (lists_of vs) → k ≤ length vs
  up-below k h = le_of_lt (below k h)

  pub below-lists : (k : ℕ) → k < length vs → k < length (lists_of vs)
  below-lists k h = subst (λ n. k < n) (sym many) h

-- ---- a block that was read

module _ {X Z : Type 0} (vs : List (Vec X Z)) (k : ℕ) (v : Vec X Z) (items : List X) (i : ℕ) (within : k < length (lists_of vs)) (is : v ≡ get_or vs k v) (shown : items ≡ v.items) where
  pub read-is : get_or (lists_of vs) k [] ≡ items
  read-is = list-at vs k v within is ∙ sym shown

  pub into-read : i ≤ length (get_or (lists_of vs) k []) → i ≤ length items
  into-read h = subst (λ l. i ≤ length l) read-is h

  pub out-of-read : i ≤ length items → i ≤ length (get_or (lists_of vs) k [])
  out-of-read h = subst (λ l. i ≤ length l) (sym read-is) h

pub half-within : {X Z : Type 0} (vs : List (Vec X Z)) (k n : ℕ) (v : Vec X Z) → k < length (lists_of vs) → v ≡ get_or vs k v → n ≡ v.len → n / 2 ≤ length (get_or (lists_of vs) k [])
half-within vs k n v within is long = omega (arith, long, length-at vs k v within is)

-- the place that a search in a block finds
module _ {X Z : Type 0} (vs : List (Vec X Z)) (bs : List (List X)) (v : Vec X Z) (items : List X) (low high i : ℕ) (view : lists_of vs ≡ bs) (order : low < high) (within : high ≤ length (lists_of vs))
    (is : v ≡ get_or vs low v) (shown : items ≡ v.items) where
  block-is : items ≡ get_or bs low []
  block-is = shown ∙ sym (list-at vs low v (lt_of_lt_of_le order within) is) ∙ ap (λ l. get_or l low []) view

  there : low < length bs
  there = subst (λ l. low < length l) view (lt_of_lt_of_le order within)

  pub found-before : i < length items → (low < length bs) × (i < length (get_or bs low []))
  found-before h = (there, subst (λ l. i < length l) block-is h)

  pub found-at : i ≤ length items → (low ≤ length bs) × (i ≤ length (get_or bs low []))
  found-at h = (le_of_lt there, subst (λ l. i ≤ length l) block-is h)

-- ---- no elements

pub none-there : {X Z : Type 0} (vs : List (Vec X Z)) (bs : List (List X)) → lists_of vs ≡ bs → length vs ≡ 0 → length (elements bs) ≡ 0
none-there [] bs view none = ap (λ l. length (elements l)) (sym view)
none-there (v ∷ vs) bs view none = absurd (omega (arith, none))

pub point-none : {X : Type 0} (P Q : X → Type 0) (xs : List X) → length xs ≡ 0 → IsPartitionPoint P Q xs 0
point-none P Q xs none = ((λ k d least less. absurd (omega (arith, less))), (λ k d le less. absurd (omega (arith, le, less, none))))

-- ---- a `Vec` of blocks that has made room

module _ {X Z : Type 0} (w : Vec (Vec X Z) Z) (vs : List (Vec X Z)) (k : ℕ) (room : w.items ≡ vs) (within : k < length (lists_of vs)) where
  pub within-room : k < w.len
  within-room = subst (λ n. k < n) (sym w.ok.0) (subst (λ l. k < length l) (sym room) (below vs k within))

  pub stays-within : (v : Vec X Z) (n : ℕ) → v ≡ get_or w.items k v → n ≤ length (get_or (lists_of vs) k []) → n ≤ v.len
  stays-within v n is h =
      let here : k < length (lists_of w.items) = subst (λ l. k < length (lists_of l)) (sym room) within in
      subst (λ m. n ≤ m) (sym (length-at w.items k v here is)) (subst (λ l. n ≤ length (get_or (lists_of l) k [])) (sym room) h)

-- ---- a place of the blocks, seen as bs

module _ {X Z : Type 0} (vs : List (Vec X Z)) (bs : List (List X)) (view : lists_of vs ≡ bs) where
  pub below-view : (k : ℕ) → k < length bs → k < length vs
  below-view k h = below vs k (subst (λ l. k < length l) (sym view) h)

  pub place-view : (k i : ℕ) → k ≤ length bs → i ≤ length (get_or bs k []) → (k ≤ length (lists_of vs)) × (i ≤ length (get_or (lists_of vs) k []))
  place-view k i h within = (subst (λ l. k ≤ length l) (sym view) h, subst (λ l. i ≤ length (get_or l k [])) (sym view) within)

  -- all stand before a place that is past the blocks
  pub past-all : (k i : ℕ) → length vs ≤ k → length (elements bs) ≤ length (elements (take k bs)) + i
  past-all k i past =
      let over : length bs ≤ k = subst (λ l. length l ≤ k) view (subst (λ n. n ≤ k) (sym (many vs)) past) in
      omega (arith, ap (λ l. length (elements l)) (take_all k bs over))

  -- a block that was read, with as many elements as are said
  module _ (k i n : ℕ) (v : Vec X Z) (within : k < length vs) (is : v ≡ get_or vs k v) (long : n ≡ v.len) where
    many-are : n ≡ length (get_or bs k [])
    many-are = long ∙ length-at vs k v (below-lists vs k within) is ∙ ap (λ l. length (get_or l k [])) view

    there-view : k < length bs
    there-view = subst (λ l. k < length l) view (below-lists vs k within)

    pub before-one : i < n → (k < length bs) × (i < length (get_or bs k []))
    before-one h = (there-view, subst (λ m. i < m) many-are h)

    pub place-here : i < n → (k ≤ length bs) × (i ≤ length (get_or bs k []))
    place-here h = (le_of_lt there-view, subst (λ m. i ≤ m) many-are (le_of_lt h))

    module _ (past : n ≤ i) where
      pub last-block : length vs ≤ k + 1 → length (elements bs) ≤ length (elements (take k bs)) + i
      last-block over = omega (arith, past-all (k + 1) 0 over, counted bs k there-view, many-are, past)

      pub next-block : AreFilled (lists_of vs) → k + 1 < length vs → i ≤ length (get_or bs k [])
          → ((k + 1 < length bs) × (0 < length (get_or bs (k + 1) []))) × (length (elements (take (k + 1) bs)) + 0 ≡ length (elements (take k bs)) + i)
      next-block filled more high =
          let next : k + 1 < length bs = subst (λ l. k + 1 < length l) view (below-lists vs (k + 1) more) in
          ((next, filled-at (k + 1) bs (subst (λ l. AreFilled l) view filled) next), omega (arith, counted bs k there-view, many-are, past, high))

  pub inside-view : (k i : ℕ) (v : Vec X Z) → k < length bs → v ≡ get_or vs k v → i < length (get_or bs k []) → i < v.len
  inside-view k i v within is h = subst (λ m. i < m) (sym (many-are k i v.len v (below-view k within) is refl)) h

-- ---- the place after all blocks

module _ {X Z : Type 0} (vs : List (Vec X Z)) where
  pub end-place : (length vs ≤ length (lists_of vs)) × (0 ≤ length (get_or (lists_of vs) (length vs) []))
  end-place = (omega (arith, many vs), omega arith)

  pub end-before : (k i n : ℕ) → n ≤ length (elements (lists_of vs)) → length vs ≤ k → length (elements (take k (lists_of vs))) + i ≡ n → length (elements (take (length vs) (lists_of vs))) + 0 ≡ n
  end-before k i n high past so_far =
      let all = ap (λ l. length (elements l)) (take_all k (lists_of vs) (omega (arith, many vs, past))) in
      omega (arith, all, ap (λ l. length (elements l)) (take_all (length vs) (lists_of vs) (omega (arith, many vs))), high, so_far)

  -- no block is past the end
  module _ (k i : ℕ) (past : length vs ≤ k) where
    none-past : get_or (lists_of vs) k [] ≡ []
    none-past = get_or_past (lists_of vs) k [] (omega (arith, many vs, past))

    pub dropped-past : [] ≡ drop i (get_or (lists_of vs) k [])
    dropped-past = sym (ap (λ l. drop i l) none-past ∙ drop_all i [] (omega arith))

    pub taken-past : [] ≡ take i (get_or (lists_of vs) k [])
    taken-past = sym (ap (λ l. take i l) none-past ∙ take_all i [] (omega arith))

-- ---- a place that the blocks have, seen as bs

module _ {X Z : Type 0} (vs : List (Vec X Z)) (bs : List (List X)) (view : lists_of vs ≡ bs) where
  pub on-view : (k i : ℕ) → k ≤ length (lists_of vs) → i ≤ length (get_or (lists_of vs) k []) → (k ≤ length bs) × (i ≤ length (get_or bs k []))
  on-view k i h within = (subst (λ l. k ≤ length l) view h, subst (λ l. i ≤ length (get_or l k [])) view within)

  pub order-view : (from to : Place) → flat (lists_of vs) from ≤ flat (lists_of vs) to → flat bs from ≤ flat bs to
  order-view from to h = subst (λ l. flat l from ≤ flat l to) view h

  pub within-view : (k : ℕ) → k ≤ length bs → k ≤ length vs
  within-view k h = up-to vs k (subst (λ l. k ≤ length l) (sym view) h)

  -- a place in the block that another is in, and not after it
  pub within-taken : (f t i j : ℕ) (back : List X) → back ≡ take j (get_or (lists_of vs) t []) → f ≡ t → j ≤ length (get_or bs t [])
      → length (elements (take f bs)) + i ≤ length (elements (take t bs)) + j → i ≤ length back
  within-taken f t i j back ends same high order =
      let long : length back ≡ j = ap (λ l. length l) ends ∙ ap (λ l. length (take j (get_or l t []))) view ∙ length-take-le j (get_or bs t []) high in
      omega (arith, long, ap (λ n. length (elements (take n bs))) same, order)

pub first-block : {X Z : Type 0} (vs : List (Vec X Z)) → false ≡ nat_eq (length vs) 0 → 0 < length (lists_of vs)
first-block vs h = omega (arith, many vs, eqb-false (length vs) 0 (sym h))

pub none-of : {X Z : Type 0} (e : X → Bool) (vs : List (Vec X Z)) (bs : List (List X)) (found : List X) → lists_of vs ≡ bs → true ≡ nat_eq (length vs) 0 → found ≡ [] → found ≡ filter e (elements bs)
none-of {X} {Z} e vs bs found view h none =
    none ∙ ap (λ (l : List (Vec X Z)). filter e (elements (lists_of l))) (sym (nil_from_length vs (eqb-true (length vs) 0 (sym h)))) ∙ ap (λ l. filter e (elements l)) view
