-- Lists that are gone through from the front, and what is made of them piece by piece.
use Rattle.std.proofs.Common.{◌≡◌, ℕ, zero, suc, ◌+◌, ◌<◌, List, [], ◌∷◌, ◌++◌, length, map, drop, refl, ap, sym, arith, get_or, Some, add-one, Bool, true, false}
use Rattle.std.specs.List.{flat_map, enumerate_from, slice_get, join_by}
use Rattle.std.proofs.lemmas.List.{drop_all}

pub by_bool : (b : Bool) (P : Type 0) → (b ≡ true → P) → (b ≡ false → P) → P
by_bool true P f g = f refl
by_bool false P f g = g refl

-- an element that a list has at a place
pub record At {X : Type 0} (xs : List X) (i : ℕ) : Type 0 where
  pub item : X
  pub got : slice_get xs i ≡ Some item

-- an element that was read
pub read_at : {X : Type 0} (xs : List X) (i : ℕ) (x : X) → i < length xs → x ≡ get_or xs i x → slice_get xs i ≡ Some x
read_at [] i x h is = absurd (omega arith)
read_at (y ∷ xs) zero x h is = ap Some (sym is)
read_at (y ∷ xs) (suc i) x h is = read_at xs i x (omega arith) is

pub got_at : {X : Type 0} (xs : List X) (i : ℕ) (d : X) → i < length xs → slice_get xs i ≡ Some (get_or xs i d)
got_at [] i d h = absurd (omega arith)
got_at (x ∷ xs) zero d h = refl
got_at (x ∷ xs) (suc i) d h = got_at xs i d (omega arith)

pub item_at : {X : Type 0} (xs : List X) (i : ℕ) → i < length xs → At xs i
item_at [] i h = absurd (omega arith)
item_at (x ∷ xs) i h = record { item = get_or (x ∷ xs) i x; got = got_at (x ∷ xs) i x h }

pub nothing_left : {X : Type 0} (xs : List X) (i : ℕ) → length xs ≡ i → drop i xs ≡ []
nothing_left xs i e = drop_all i xs (omega arith)

pub ahead : {X : Type 0} (xs : List X) (i : ℕ) (x : X) → slice_get xs i ≡ Some x → drop i xs ≡ x ∷ drop (i + 1) xs
ahead xs i x got = rw add-one (ahead_suc xs i x got)
  where
    ahead_suc : {X : Type 0} (xs : List X) (i : ℕ) (x : X) → slice_get xs i ≡ Some x → drop i xs ≡ x ∷ drop (suc i) xs
    ahead_suc [] i x got = cc
    ahead_suc (y ∷ xs) zero x got = let same : y ≡ x = cc in ap (λ z. z ∷ xs) same
    ahead_suc (y ∷ xs) (suc i) x got = ahead_suc xs i x got

-- the pieces from a place on: the one there, and those after it
pub pieces_at : {X Y : Type 0} (f : X → List Y) (xs : List X) (i : ℕ) (x : X) → slice_get xs i ≡ Some x → flat_map f (drop i xs) ≡ f x ++ flat_map f (drop (i + 1) xs)
pieces_at f xs i x got = ap (flat_map f) (ahead xs i x got)

pub mapped_at : {X Y Z : Type 0} (f : Y → List Z) (h : X → Y) (xs : List X) (i : ℕ) (x : X) → slice_get xs i ≡ Some x
    → flat_map f (map h (drop i xs)) ≡ f (h x) ++ flat_map f (map h (drop (i + 1) xs))
mapped_at f h xs i x got = ap (λ ys. flat_map f (map h ys)) (ahead xs i x got)

pub numbered_at : {X Y : Type 0} (f : ℕ × X → List Y) (xs : List X) (i : ℕ) (x : X) → slice_get xs i ≡ Some x
    → flat_map f (enumerate_from i (drop i xs)) ≡ f (i, x) ++ flat_map f (enumerate_from (i + 1) (drop (i + 1) xs))
numbered_at f xs i x got = ap (λ ys. flat_map f (enumerate_from i ys)) (ahead xs i x got)

-- the same of pieces that are made of the numbers alone
pub numbers_at : {X Y : Type 0} (f : ℕ → List Y) (xs : List X) (i : ℕ) → i < length xs
    → flat_map (λ (p : ℕ × X). f p.0) (enumerate_from i (drop i xs)) ≡ f i ++ flat_map (λ (p : ℕ × X). f p.0) (enumerate_from (i + 1) (drop (i + 1) xs))
numbers_at {X} f [] i low = absurd (omega arith)
numbers_at {X} f (d ∷ xs) i low = numbered_at (λ (p : ℕ × X). f p.0) (d ∷ xs) i (get_or (d ∷ xs) i d) (got_at (d ∷ xs) i d low)

-- pieces that are made and joined
separated_map : {X Y : Type 0} (f : X → List Y) (separator : List Y) (xs : List X) → flat_map (λ x. separator ++ f x) xs ≡ flat_map (λ ys. separator ++ ys) (map f xs)
separated_map f separator [] = refl
separated_map f separator (x ∷ xs) = ap (λ ys. (separator ++ f x) ++ ys) (separated_map f separator xs)

pub join_map : {X Y : Type 0} (f : X → List Y) (separator : List Y) (xs : List X) → join_by f separator xs ≡ join_by (λ ys. ys) separator (map f xs)
join_map f separator [] = refl
join_map f separator (x ∷ xs) = ap (λ ys. f x ++ ys) (separated_map f separator xs)
