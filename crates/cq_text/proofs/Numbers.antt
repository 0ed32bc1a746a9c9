-- Digits as a number.
use Rattle.std.proofs.Common.{◌≡◌, ℕ, Bool, true, false, cond, zero, suc, refl, ◌+◌, ◌-◌, ◌*◌, ◌≤◌, ◌<◌, List, [], ◌∷◌, take, drop, length, get_or, sym, ap, ◌∙◌, arith}
use Rattle.std.specs.Prelude.{fold}
use Rattle.std.specs.List.{prefix_len}
use Rattle.std.specs.Char.{is_ascii_digit}
use Rattle.std.proofs.lemmas.List.{take-append-drop}
use Rattle.std.proofs.lemmas.List.Sums.{fold-append, fold_more}
use Rattle.cq_text.specs.Lexing.{magnitude, positive}
use Rattle.cq_text.specs.Token.{TokenContent}
use Rattle.cq_atom.specs.Value.{ValueContent}
use Rattle.cq_text.specs.declared.token.Token.TheVariants.{Literal}
use Rattle.cq_text.specs.Steps.Lexing.{positive_of}
use Rattle.cq_text.proofs.Words.{take_front}

abbrev next : ℕ → ℕ → ℕ
next n d = 10 * n + (d - 48)

grows : (n : ℕ) (ds : List ℕ) → n ≤ fold next n ds
grows n [] = omega arith
grows n (d ∷ ds) = let h = grows (next n d) ds in omega arith

-- the digits after only make it greater
pub magnitude-grows : (i : ℕ) (ds : List ℕ) → magnitude (take i ds) ≤ magnitude ds
magnitude-grows i ds = let h = grows (magnitude (take i ds)) (drop i ds) in omega (arith, fold-append next 0 (take i ds) (drop i ds), ap magnitude (take-append-drop i ds))

pub magnitude-more : (i : ℕ) (ds : List ℕ) → i < length ds → magnitude (take (i + 1) ds) ≡ 10 * magnitude (take i ds) + (get_or ds i 0 - 48)
magnitude-more i ds lt = grind (arith, fold_more)

pub positive_front : (bs : List ℕ) (n : ℕ) (t : TokenContent) → 0 < length bs → n ≡ prefix_len is_ascii_digit (drop 1 bs) → t ≡ positive (take (n + 1) bs) → positive_of bs ≡ (t, n + 1)
positive_front [] n t lt h e = let never : ⊥ = omega arith in absurd never
positive_front (b ∷ bs) n t lt h e =
    ap (λ (k : ℕ). (positive (b ∷ take k bs), k + 1)) (sym h) ∙ ap (λ (u : TokenContent). (u, n + 1)) (ap positive (sym (take_front n b bs)) ∙ sym e)

-- no digits are no number
pub number_some : (n : ℕ) (bs : List ℕ) (v : ValueContent) → Literal v ≡ positive (take n bs) → 0 < n
number_some zero bs v e = absurd cc
number_some (suc n) bs v e = omega arith

-- digits at the front, of which there are some
pub number_front : (bs : List ℕ) (n : ℕ) (t : TokenContent) → n ≡ prefix_len is_ascii_digit bs → 0 < n → t ≡ positive (take n bs) → (is_ascii_digit (get_or bs 0 0) ≡ true) × (positive_of bs ≡ (t, n))
number_front [] n t h lt e = let never : ⊥ = omega arith in absurd never
number_front (b ∷ bs) n t h lt e = by_case (is_ascii_digit b) refl
  where
    by_case : (d : Bool) → is_ascii_digit b ≡ d → (is_ascii_digit b ≡ true) × (positive_of (b ∷ bs) ≡ (t, n))
    by_case false f =
        let none : n ≡ 0 = h ∙ ap (λ (c : Bool). cond c (1 + prefix_len is_ascii_digit bs) 0) f in
        let never : ⊥ = omega arith in absurd never
    by_case true f =
        let more : n ≡ 1 + prefix_len is_ascii_digit bs = h ∙ ap (λ (c : Bool). cond c (1 + prefix_len is_ascii_digit bs) 0) f in
        let size : n ≡ prefix_len is_ascii_digit bs + 1 = omega arith in
        let is : t ≡ positive (b ∷ take (prefix_len is_ascii_digit bs) bs) = e ∙ ap (λ (k : ℕ). positive (take k (b ∷ bs))) size ∙ ap positive (take_front (prefix_len is_ascii_digit bs) b bs) in
        (f, ap (λ (u : TokenContent). (u, prefix_len is_ascii_digit bs + 1)) (sym is) ∙ ap (λ (k : ℕ). (t, k)) (sym size))
