-- Lists in blocks: what a caller sees of one is its blocks in order, each the list of its elements.
use Rattle.std.specs.Prelude.{◌≡◌, ℕ, suc, ◌+◌, ◌<◌, ◌≤◌, Bool, true, false, not, List, [], ◌∷◌, ◌++◌, length, take, drop, map, flat_map, slice_index_or, vec_items, Vec, Result, Ok, Err}
use Rattle.std.specs.Ordering.{is_lt, is_gt}
use Rattle.std.specs.List.{AllByRecursion, AllWithin}
use Rattle.std.specs.declared.cmp.Ordering.{Ordering}
use Rattle.cq_blocks.specs.declared.place.Place.{Place}

-- The elements of all blocks, one after another.
abbrev pub elements : {X : Type 0} → List (List X) → List X
elements bs = flat_map (λ b. b) bs

-- How many elements stand before the place.
abbrev pub flat : {X : Type 0} → List (List X) → Place → ℕ
flat bs place = length (elements (take place.block bs)) + place.index

-- What a search answers, with how many elements stand before its place.
abbrev pub flats : {X : Type 0} → List (List X) → Result Place Place → Result ℕ ℕ
flats bs (Ok place) = Ok (flat bs place)
flats bs (Err place) = Err (flat bs place)

-- The place stands within a block or after its last element, or else after the last block.
abbrev pub IsPlace : {X : Type 0} → List (List X) → Place → Type 0
IsPlace bs place = (place.block ≤ length bs) × (place.index ≤ length (slice_index_or bs place.block []))

-- The elements of each `Vec`.
abbrev pub lists_of : {X Z : Type 0} → List (Vec X Z) → List (List X)
lists_of vs = map vec_items vs

-- Each block has an element at least.
abbrev pub AreFilled : {X : Type 0} → List (List X) → Type 0
AreFilled bs = AllByRecursion (λ b. 0 < length b) bs

-- The place stands before an element of its block.
abbrev pub IsBefore : {X : Type 0} → List (List X) → Place → Type 0
IsBefore bs place = (place.block < length bs) × (place.index < length (slice_index_or bs place.block []))

-- In the blocks bs, a place within a block or after its last element, that has as many elements before it as another has in the blocks cs.
abbrev pub Stays : {X : Type 0} → List (List X) → Place → List (List X) → Place → Type 0
Stays cs at bs place = (place.block < length bs) × (place.index ≤ length (slice_index_or bs place.block [])) × (flat bs place ≡ flat cs at)

-- The blocks with the k-th cut in two, after its first n elements.
abbrev pub halved : {X : Type 0} → ℕ → ℕ → List (List X) → List (List X)
halved n k bs = take k bs ++ take n (slice_index_or bs k []) ∷ drop n (slice_index_or bs k []) ∷ drop (suc k) bs

-- How many elements stand before the k-th block.
abbrev pub begin_of : {X : Type 0} → List (List X) → ℕ → ℕ
begin_of bs k = length (elements (take k bs))

-- Whether one that compares so stands before the place that is sought: the less ones do, and where it is so asked the equal ones too.
abbrev pub is_passed : Bool → Ordering → Bool
is_passed true o = not (is_gt o)
is_passed false o = is_lt o

-- Those before low pass, and those from high on do not.
abbrev pub IsBetween : {X : Type 0} → (X → Bool) → List X → ℕ → ℕ → Type 0
IsBetween p xs low high = AllWithin (λ y. p y ≡ true) xs 0 low × AllWithin (λ y. p y ≡ false) xs high (length xs)
