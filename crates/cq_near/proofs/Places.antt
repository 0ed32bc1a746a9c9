-- A loop over the places that two lists both have.
use Rattle.std.proofs.Common.{◌≡◌, ℕ, ◌+◌, ◌<◌, ◌≤◌, Bool, true, false, List, [], ◌∷◌, ◌++◌, append-nil, length, map, take, drop, get_or, sym, ap, subst, ◌∙◌, arith}
use Rattle.std.specs.Prelude.{min, max, ◌-◌, zip, fold, filter, ◌&&◌, ◌||◌, Option, Some, None, option_map}
use Rattle.std.proofs.lemmas.Option.{same_Some}
use Rattle.std.specs.List.{list_all, list_any}
use Rattle.std.proofs.lemmas.List.{take_all, take-append-drop, get_or_default, map-append, length-map, get_or-map}
use Rattle.std.proofs.lemmas.List.Sums.{fold_more}
use Rattle.std.proofs.lemmas.List.Folds.{list_all_more, list_all-append}
use Rattle.std.proofs.lemmas.List.Elements.{filter_more}
use Rattle.std.proofs.lemmas.Slice.Zip.{length-zip, get_or-zip}
use mathlib.Core.Bool.{cond}
use Rattle.cq_atom.specs.Value.{ValueContent}
use Rattle.cq_near.specs.Alike.{apart_at, apart}

-- all places are gone over
pub all_places : {X Y : Type 0} (xs : List X) (ys : List Y) (i : ℕ) → min (length xs) (length ys) ≤ i → take i (zip xs ys) ≡ zip xs ys
all_places xs ys i h = take_all i (zip xs ys) (subst (λ (n : ℕ). n ≤ i) (sym (length-zip xs ys)) h)

-- what fails for a front fails for all
pub all_fail : {X : Type 0} (p : X → Bool) (xs : List X) (i : ℕ) → list_all p (take i xs) ≡ false → list_all p xs ≡ false
all_fail p xs i h = ap (list_all p) (sym (take-append-drop i xs)) ∙ list_all-append p (take i xs) (drop i xs) ∙ ap (λ (b : Bool). b && list_all p (drop i xs)) h

-- what stands at a place of both
module _ {X Y : Type 0} (xs : List X) (ys : List Y) (i : ℕ) (x : X) (y : Y) (left : i < length xs) (right : i < length ys) (first : x ≡ get_or xs i x) (second : y ≡ get_or ys i y) where
  pair_at : get_or (zip xs ys) i (x, y) ≡ (x, y)
  pair_at = get_or-zip xs ys i (x, y) left right ∙ ap (λ (z : X). (z, get_or ys i y)) (sym first) ∙ ap (λ (z : Y). (x, z)) (sym second)

  within : i < length (zip xs ys)
  within = let is = length-zip xs ys in omega arith

  pub fold_at : {B : Type 0} (f : B → X × Y → B) (a : B) → fold f a (take (i + 1) (zip xs ys)) ≡ f (fold f a (take i (zip xs ys))) (x, y)
  fold_at {B} f a = fold_more f a (zip xs ys) i (x, y) within ∙ ap (f (fold f a (take i (zip xs ys)))) pair_at

  pub all_at : (p : X × Y → Bool) → list_all p (take (i + 1) (zip xs ys)) ≡ (list_all p (take i (zip xs ys)) && p (x, y))
  all_at p = list_all_more p (zip xs ys) i (x, y) within ∙ ap (λ (q : X × Y). list_all p (take i (zip xs ys)) && p q) pair_at

  pub filter_at : (p : X × Y → Bool) → filter p (take (i + 1) (zip xs ys)) ≡ filter p (take i (zip xs ys)) ++ cond (p (x, y)) ((x, y) ∷ []) []
  filter_at p = filter_more p (zip xs ys) i (x, y) within ∙ ap (λ (q : X × Y). filter p (take i (zip xs ys)) ++ cond (p q) (q ∷ []) []) pair_at

  -- one more passes the test, or none
  pub one_more : {Z : Type 0} (f : X × Y → Z) (p : X × Y → Bool) → p (x, y) ≡ true → map f (filter p (take (i + 1) (zip xs ys))) ≡ map f (filter p (take i (zip xs ys))) ++ f (x, y) ∷ []
  one_more f p is =
      ap (map f) (filter_at p ∙ ap (λ (b : Bool). filter p (take i (zip xs ys)) ++ cond b ((x, y) ∷ []) []) is) ∙ map-append f (filter p (take i (zip xs ys))) ((x, y) ∷ [])

  pub none_more : {Z : Type 0} (f : X × Y → Z) (p : X × Y → Bool) → p (x, y) ≡ false → map f (filter p (take (i + 1) (zip xs ys))) ≡ map f (filter p (take i (zip xs ys)))
  none_more f p is = ap (map f) (filter_at p ∙ ap (λ (b : Bool). filter p (take i (zip xs ys)) ++ cond b ((x, y) ∷ []) []) is ∙ append-nil (filter p (take i (zip xs ys))))

-- what was read at a place is what is read there
pub same_read : {X : Type 0} (xs : List X) (i : ℕ) (x y : X) → i < length xs → x ≡ get_or xs i x → y ≡ get_or xs i y → x ≡ y
same_read xs i x y low first second = first ∙ get_or_default xs i x y low ∙ sym second

-- the first passes the test
pub first_passes : {X : Type 0} (p : X → Bool) (xs rest : List X) (x : X) → xs ≡ x ∷ rest → p x ≡ true → list_any p xs ≡ true
first_passes p xs rest x is on = ap (list_any p) is ∙ ap (λ (b : Bool). b || list_any p rest) on

-- what is there is what a map makes of whatever was there
pub some_of : {X Y : Type 0} (there : Option X) (made rows : Y) → Some rows ≡ option_map (λ _. made) there → rows ≡ made
some_of None made rows is = cc
some_of (Some x) made rows is = same_Some rows made is

-- ---- how far two lists are apart

-- one more place
module _ {X Y : Type 0} (f : X → Option ValueContent) (h : Y → Option ValueContent) (xs : List X) (ys : List Y) where
  pub further : (i : ℕ) (x : X) (y : Y) (start before more : ℕ) → i < length xs → i < length ys → x ≡ get_or xs i x → y ≡ get_or ys i y
      → before ≡ fold (λ changes places. changes + apart_at places.0 places.1) start (take i (zip (map f xs) (map h ys))) → more ≡ apart_at (f x) (h y)
      → before + more ≡ fold (λ changes places. changes + apart_at places.0 places.1) start (take (i + 1) (zip (map f xs) (map h ys)))
  further i x y start before more left right first second so_far is =
      let long = length-map xs f in
      let longer = length-map ys h in
      ap (λ (n : ℕ). n + more) so_far ∙ ap (λ (n : ℕ). fold (λ changes places. changes + apart_at places.0 places.1) start (take i (zip (map f xs) (map h ys))) + n) is
      ∙ sym (fold_at (map f xs) (map h ys) i (f x) (h y) (omega arith) (omega arith) (ap f first ∙ sym (get_or-map f xs i x (f x) left)) (ap h second ∙ sym (get_or-map h ys i y (h y) right))
      (λ changes places. changes + apart_at places.0 places.1) start)

  -- all places
  pub whole : (i all : ℕ) → min (length xs) (length ys) ≤ i
      → all ≡ fold (λ changes places. changes + apart_at places.0 places.1) (max (length xs) (length ys) - min (length xs) (length ys)) (take i (zip (map f xs) (map h ys))) → all ≡ apart (map f xs) (map h ys)
  whole i all over so_far =
      let long = length-map xs f in
      let longer = length-map ys h in
      so_far
      ∙ ap (fold (λ changes places. changes + apart_at places.0 places.1) (max (length xs) (length ys) - min (length xs) (length ys))) (all_places (map f xs) (map h ys) i (omega arith))
      ∙ ap (λ (n : ℕ). fold (λ changes places. changes + apart_at places.0 places.1) (max n (length ys) - min n (length ys)) (zip (map f xs) (map h ys))) (sym long)
      ∙ ap (λ (n : ℕ). fold (λ changes places. changes + apart_at places.0 places.1) (max (length (map f xs)) n - min (length (map f xs)) n) (zip (map f xs) (map h ys))) (sym longer)
