-- Lists that are made piece by piece.
use Rattle.std.proofs.Common.{◌≡◌, ℕ, zero, suc, ◌+◌, ◌<◌, ◌≤◌, ◌==◌, Bool, true, false, not, List, [], ◌∷◌, ◌++◌, length, map, take, drop, refl, sym, ap, ◌∙◌, append-nil, arith, get_or, Some, length-append, subst, add-one}
use Rattle.std.specs.Prelude.{filter}
use Rattle.std.specs.List.{flat_map, enumerate_from, slice_get, list_all, prefix_len, join_by}
use Rattle.std.proofs.lemmas.Bool.{ne_eqb, eqb-true}
use Rattle.std.proofs.lemmas.List.{drop_all}
use Rattle.std.proofs.lemmas.List.Elements.{filter-append}
use Rattle.std.proofs.lemmas.List.Folds.{list_all-append}

pub by_bool : (b : Bool) (P : Type 0) → (b ≡ true → P) → (b ≡ false → P) → P
by_bool true P f g = f refl
by_bool false P f g = g refl

-- an element that a list has at a place
pub record At {X : Type 0} (xs : List X) (i : ℕ) : Type 0 where
  pub item : X
  pub got : slice_get xs i ≡ Some item

pub item_at : {X : Type 0} (xs : List X) (i : ℕ) → i < length xs → At xs i
item_at [] i h = absurd (omega arith)
item_at (x ∷ xs) zero h = record { item = x; got = refl }
item_at (x ∷ xs) (suc i) h = let behind = item_at xs i (omega arith) in record { item = behind.item; got = behind.got }

-- an element that was read
pub read_at : {X : Type 0} (xs : List X) (i : ℕ) (x : X) → i < length xs → x ≡ get_or xs i x → slice_get xs i ≡ Some x
read_at [] i x h is = absurd (omega arith)
read_at (y ∷ xs) zero x h is = ap Some (sym is)
read_at (y ∷ xs) (suc i) x h is = read_at xs i x (omega arith) is

pub got_at : {X : Type 0} (xs : List X) (i : ℕ) (d : X) → i < length xs → slice_get xs i ≡ Some (get_or xs i d)
got_at [] i d h = absurd (omega arith)
got_at (x ∷ xs) zero d h = refl
got_at (x ∷ xs) (suc i) d h = got_at xs i d (omega arith)

pub got_of_map : {X Y : Type 0} (f : X → Y) (xs : List X) (i : ℕ) (x : X) → slice_get xs i ≡ Some x → slice_get (map f xs) i ≡ Some (f x)
got_of_map f [] i x got = cc
got_of_map f (y ∷ xs) zero x got = let same : y ≡ x = cc in ap (λ z. Some (f z)) same
got_of_map f (y ∷ xs) (suc i) x got = got_of_map f xs i x got

-- nothing stands after the last element
pub nothing_left : {X : Type 0} (xs : List X) (i : ℕ) → length xs ≡ i → drop i xs ≡ []
nothing_left xs i e = drop_all i xs (omega arith)

pub ahead_at : {X : Type 0} (xs : List X) (i : ℕ) (x : X) → slice_get xs i ≡ Some x → drop i xs ≡ x ∷ drop (suc i) xs
ahead_at [] i x got = cc
ahead_at (y ∷ xs) zero x got = let same : y ≡ x = cc in ap (λ z. z ∷ xs) same
ahead_at (y ∷ xs) (suc i) x got = ahead_at xs i x got

-- the pieces from a place on: the one there, and those after it
pub pieces_at : {X Y : Type 0} (f : X → List Y) (xs : List X) (i : ℕ) (x : X) → slice_get xs i ≡ Some x → flat_map f (drop i xs) ≡ f x ++ flat_map f (drop (i + 1) xs)
pieces_at f xs i x got = let ahead : drop i xs ≡ x ∷ drop (i + 1) xs = rw add-one (ahead_at xs i x got) in ap (flat_map f) ahead

pub mapped_at : {X Y Z : Type 0} (f : Y → List Z) (h : X → Y) (xs : List X) (i : ℕ) (x : X) → slice_get xs i ≡ Some x → flat_map f (map h (drop i xs)) ≡ f (h x) ++ flat_map f (map h (drop (i + 1) xs))
mapped_at f h xs i x got = let ahead : drop i xs ≡ x ∷ drop (i + 1) xs = rw add-one (ahead_at xs i x got) in ap (λ ys. flat_map f (map h ys)) ahead

pub numbered_at : {X Y : Type 0} (f : ℕ × X → List Y) (xs : List X) (n i : ℕ) (x : X) → slice_get xs i ≡ Some x → flat_map f (enumerate_from n (drop i xs)) ≡ f (n, x) ++ flat_map f (enumerate_from (n + 1) (drop (i + 1) xs))
numbered_at f xs n i x got = let ahead : drop i xs ≡ x ∷ drop (i + 1) xs = rw add-one (ahead_at xs i x got) in ap (λ ys. flat_map f (enumerate_from n ys)) ahead

pub take_front : {X : Type 0} (xs ys : List X) → take (length xs) (xs ++ ys) ≡ xs
take_front [] ys = refl
take_front (x ∷ xs) ys = ap (λ zs. x ∷ zs) (take_front xs ys)

pub drop_front : {X : Type 0} (xs ys : List X) → drop (length xs) (xs ++ ys) ≡ ys
drop_front [] ys = refl
drop_front (x ∷ xs) ys = drop_front xs ys

separated_map : {X Y : Type 0} (f : X → List Y) (separator : List Y) (xs : List X) → flat_map (λ x. separator ++ f x) xs ≡ flat_map (λ ys. separator ++ ys) (map f xs)
separated_map f separator [] = refl
separated_map f separator (x ∷ xs) = ap (λ ys. (separator ++ f x) ++ ys) (separated_map f separator xs)

-- pieces that are made and joined
pub join_map : {X Y : Type 0} (f : X → List Y) (separator : List Y) (xs : List X) → join_by f separator xs ≡ join_by (λ ys. ys) separator (map f xs)
join_map f separator [] = refl
join_map f separator (x ∷ xs) = ap (λ ys. f x ++ ys) (separated_map f separator xs)

module _ {Y : Type 0} where
  pub all_weaker : (p q : Y → Bool) → ((y : Y) → p y ≡ true → q y ≡ true) → (ys : List Y) → list_all p ys ≡ true → list_all q ys ≡ true
  all_weaker p q h [] k = refl
  all_weaker p q h (y ∷ ys) k =
      by_bool (p y) (list_all q (y ∷ ys) ≡ true)
      (λ t. rw (h y t) (all_weaker p q h ys (rw t at k)))
      (λ f. let no : false ≡ true = rw f at k in cc)

  pub all_pieces : {X : Type 0} (p : Y → Bool) (f : X → List Y) → ((x : X) → list_all p (f x) ≡ true) → (xs : List X) → list_all p (flat_map f xs) ≡ true
  all_pieces p f h [] = refl
  all_pieces p f h (x ∷ xs) = list_all-append p (f x) (flat_map f xs) ∙ rw (h x) (all_pieces p f h xs)

  pub filter_all : (p : Y → Bool) (ys : List Y) → list_all p ys ≡ true → filter p ys ≡ ys
  filter_all p [] k = refl
  filter_all p (y ∷ ys) k =
      by_bool (p y) (filter p (y ∷ ys) ≡ y ∷ ys)
      (λ t. rw t (ap (λ zs. y ∷ zs) (filter_all p ys (rw t at k))))
      (λ f. let no : false ≡ true = rw f at k in cc)

  pub filter_none : (p : Y → Bool) (ys : List Y) → list_all (λ y. not (p y)) ys ≡ true → filter p ys ≡ []
  filter_none p [] k = refl
  filter_none p (y ∷ ys) k =
      by_bool (p y) (filter p (y ∷ ys) ≡ [])
      (λ t. let no : false ≡ true = rw t at k in cc)
      (λ f. rw f (filter_none p ys (rw f at k)))

  -- those that pass stand in front
  pub front_len : (p : Y → Bool) (xs ys : List Y) → list_all p xs ≡ true → list_all (λ y. not (p y)) ys ≡ true → prefix_len p (xs ++ ys) ≡ length xs
  front_len p [] [] h k = refl
  front_len p [] (y ∷ ys) h k =
      by_bool (p y) (prefix_len p (y ∷ ys) ≡ 0)
      (λ t. let no : false ≡ true = rw t at k in cc)
      (λ f. rw f refl)
  front_len p (x ∷ xs) ys h k =
      by_bool (p x) (prefix_len p (x ∷ (xs ++ ys)) ≡ suc (length xs))
      (λ t. let more = front_len p xs ys (rw t at h) k in rw t (omega (arith, more)))
      (λ f. let no : false ≡ true = rw f at h in cc)

-- A front of a list and what is after it, by the length of the front.
pub record Cut {Y : Type 0} (whole front rest : List Y) (n : ℕ) : Type 0 where
  pub fits : n ≤ length whole
  pub front_is : take n whole ≡ front
  pub rest_is : drop n whole ≡ rest

cut_at : {Y : Type 0} (front rest : List Y) (n : ℕ) → n ≡ length front → Cut (front ++ rest) front rest n
cut_at front rest n e = record {
  fits = omega (arith, length-append front rest);
  front_is = ap (λ k. take k (front ++ rest)) e ∙ take_front front rest;
  rest_is = ap (λ k. drop k (front ++ rest)) e ∙ drop_front front rest;
}

-- pieces whose elements have the number of their place for a key
module _ {X Y : Type 0} (f : ℕ × X → List Y) (key : Y → ℕ) (keyed : (j : ℕ) (x : X) → list_all (λ y. key y == j) (f (j, x)) ≡ true) where
  apart : (i j : ℕ) (x : X) → (j ≡ i → ⊥) → list_all (λ y. not (key y == i)) (f (j, x)) ≡ true
  apart i j x ne =
      all_weaker (λ y. key y == j) (λ y. not (key y == i))
      (λ y e. let other : key y ≡ i → ⊥ = λ k. ne (sym (eqb-true (key y) j e) ∙ k) in rw (ne_eqb (key y) i other) refl)
      (f (j, x)) (keyed j x)

  behind : (i n : ℕ) (xs : List X) → i < n → list_all (λ y. not (key y == i)) (flat_map f (enumerate_from n xs)) ≡ true
  behind i n [] h = refl
  behind i n (x ∷ xs) h =
      list_all-append (λ y. not (key y == i)) (f (n, x)) (flat_map f (enumerate_from (n + 1) xs))
      ∙ rw (apart i n x (λ e. omega arith)) (behind i (n + 1) xs (omega arith))

  -- the piece of the first place stands in front
  pub first_piece : (n : ℕ) (x : X) (xs : List X) → prefix_len (λ y. key y == n) (f (n, x) ++ flat_map f (enumerate_from (n + 1) xs)) ≡ length (f (n, x))
  first_piece n x xs = front_len (λ y. key y == n) (f (n, x)) (flat_map f (enumerate_from (n + 1) xs)) (keyed n x) (behind n (n + 1) xs (omega arith))

  pub cut_piece : (n : ℕ) (x : X) (xs : List X) (whole : List Y) → whole ≡ f (n, x) ++ flat_map f (enumerate_from (n + 1) xs) → Cut whole (f (n, x)) (flat_map f (enumerate_from (n + 1) xs)) (prefix_len (λ y. key y == n) whole)
  cut_piece n x xs whole e =
      subst (λ (ys : List Y). Cut ys (f (n, x)) (flat_map f (enumerate_from (n + 1) xs)) (prefix_len (λ y. key y == n) ys)) (sym e)
      (cut_at (f (n, x)) (flat_map f (enumerate_from (n + 1) xs)) _ (first_piece n x xs))

  -- what passes a test of the key comes from one place alone
  module _ (p : Y → Bool) (i : ℕ) (tests : (y : Y) → p y ≡ true → (key y == i) ≡ true) where
    none_elsewhere : (ys : List Y) → list_all (λ y. not (key y == i)) ys ≡ true → filter p ys ≡ []
    none_elsewhere ys h =
        filter_none p ys
        (all_weaker (λ y. not (key y == i)) (λ y. not (p y))
        (λ y k. by_bool (p y) (not (p y) ≡ true) (λ t. let no : not true ≡ true = rw (tests y t) at k in cc) (λ e. rw e refl))
        ys h)

    pub one_place : (n : ℕ) (xs : List X) (m : ℕ) (x : X) → n + m ≡ i → slice_get xs m ≡ Some x → filter p (flat_map f (enumerate_from n xs)) ≡ filter p (f (i, x))
    one_place n [] m x e h = cc
    one_place n (y ∷ xs) zero x e h =
        let at : n ≡ i = omega arith in
        let same : y ≡ x = cc in
        filter-append p (f (n, y)) (flat_map f (enumerate_from (n + 1) xs))
        ∙ ap (λ ys. filter p (f (n, y)) ++ ys) (none_elsewhere (flat_map f (enumerate_from (n + 1) xs)) (behind i (n + 1) xs (omega arith)))
        ∙ append-nil (filter p (f (n, y))) ∙ ap (λ k. filter p (f (k, y))) at ∙ ap (λ z. filter p (f (i, z))) same
    one_place n (y ∷ xs) (suc m) x e h =
        filter-append p (f (n, y)) (flat_map f (enumerate_from (n + 1) xs))
        ∙ rw (none_elsewhere (f (n, y)) (apart i n y (λ k. omega arith))) (one_place (n + 1) xs m x (omega arith) h)
