-- Terms that are compared one after another.
use Rattle.std.proofs.Common.{◌≡◌, ℕ, zero, suc, ◌+◌, ◌<◌, ◌≤◌, Bool, true, false, cond, ◌&&◌, not, List, [], ◌∷◌, length, map, drop, get_or, refl, sym, ap, ◌∙◌, arith, add-one, Some, None}
use Rattle.std.specs.Prelude.{nat_lt}
use Rattle.std.specs.List.{position, position_or_len}
use Rattle.std.proofs.lemmas.List.{drop_all}
use Rattle.std.proofs.lemmas.List.Sums.{prefix_len-le-length}
use Rattle.std.proofs.lemmas.Bool.Decides.{nat_tests}
use Rattle.cq_atom.specs.Atom.{TermContent}
use Rattle.cq_choose.specs.Steps.Goods.{same_term, same_terms}

module _ {X : Type 0} where
  -- the rest from a place on
  pub ahead : (xs : List X) (i : ℕ) (x : X) → i < length xs → x ≡ get_or xs i x → drop i xs ≡ x ∷ drop (i + 1) xs
  ahead xs i x h is = rw add-one (behind xs i x h is)
    where
      behind : (ys : List X) (k : ℕ) (y : X) → k < length ys → y ≡ get_or ys k y → drop k ys ≡ y ∷ drop (suc k) ys
      behind [] k y low at = absurd (omega arith)
      behind (z ∷ ys) zero y low at = ap (λ (w : X). w ∷ ys) (sym at)
      behind (z ∷ ys) (suc k) y low at = behind ys k y (omega arith) at

module _ {X Y : Type 0} (f : X → TermContent) (g : Y → TermContent) where
  pub terms-apart : (xs : List X) (ys : List Y) → (length xs ≡ length ys → ⊥) → same_terms (map f xs) (map g ys) ≡ false
  terms-apart [] [] n = absurd (n refl)
  terms-apart [] (y ∷ ys) n = refl
  terms-apart (x ∷ xs) [] n = refl
  terms-apart (x ∷ xs) (y ∷ ys) n =
      let more = terms-apart xs ys (λ e. n (let same : length (x ∷ xs) ≡ length (y ∷ ys) = omega (arith, e) in same)) in
      rw more (never (same_term (f x) (g y)))
    where
      never : (b : Bool) → b && false ≡ false
      never true = refl
      never false = refl

  pub terms-at : (xs : List X) (ys : List Y) (i : ℕ) (x : X) (y : Y) → i < length xs → i < length ys → x ≡ get_or xs i x → y ≡ get_or ys i y
      → same_terms (map f (drop i xs)) (map g (drop i ys)) ≡ same_term (f x) (g y) && same_terms (map f (drop (i + 1) xs)) (map g (drop (i + 1) ys))
  terms-at xs ys i x y a b p q =
      ap (λ (l : List X). same_terms (map f l) (map g (drop i ys))) (ahead xs i x a p) ∙ ap (λ (l : List Y). same_terms (map f (x ∷ drop (i + 1) xs)) (map g l)) (ahead ys i y b q)

  pub terms-end : (xs : List X) (ys : List Y) (i : ℕ) → length xs ≤ i → length ys ≤ i → same_terms (map f (drop i xs)) (map g (drop i ys)) ≡ true
  terms-end xs ys i a b = rw (drop_all i xs a, drop_all i ys b) refl

pub and-false : (a b : Bool) → a ≡ false → a && b ≡ false
and-false a b e = rw e refl

pub and-true : (a b : Bool) → a ≡ true → a && b ≡ b
and-true a b e = rw e refl

-- nothing passes: then the first place that passes is past the end
pub position-none : {X : Type 0} (p : X → Bool) (xs : List X) → None ≡ position p xs → position_or_len p xs ≡ length xs
position-none p xs e = let within = prefix_len-le-length (λ x. not (p x)) xs in grind (arith, nat_tests)

-- the first that passes
pub position-some : {X : Type 0} (p : X → Bool) (xs : List X) (n : ℕ) → Some n ≡ position p xs → n ≡ position_or_len p xs
position-some p xs n e = by (nat_lt (position_or_len p xs) (length xs)) e
  where
    by : (b : Bool) → Some n ≡ cond b (Some (position_or_len p xs)) None → n ≡ position_or_len p xs
    by true e = cc
    by false e = cc
