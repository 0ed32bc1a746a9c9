-- The token at the front of bytes, by the first byte.
use Rattle.std.proofs.Common.{◌≡◌, ℕ, ◌<◌, true, false, List, [], ◌∷◌, length, drop, get_or, refl, arith}
use Rattle.std.specs.Char.{is_ascii_alphabetic, is_ascii_digit}
use Rattle.std.proofs.lemmas.Bool.{eq-eqb, ne_eqb}
use Rattle.cq_text.specs.Lexing.{front, content, quoted_token, negative_token, arrow_token, sign_token}
use Rattle.cq_text.specs.Steps.Lexing.{front_of, word_of, positive_of}

abbrev pub first_of : List ℕ → ℕ
first_of bs = get_or bs 0 0

pub front_word : (bs : List ℕ) → 0 < length bs → is_ascii_alphabetic (first_of bs) ≡ true → front_of bs ≡ word_of bs
unfolding front
front_word [] lt a = let never : ⊥ = omega arith in absurd never
front_word (b ∷ bs) lt a = rw a refl

pub front_digit : (bs : List ℕ) → 0 < length bs → is_ascii_alphabetic (first_of bs) ≡ false → is_ascii_digit (first_of bs) ≡ true → front_of bs ≡ positive_of bs
unfolding front
front_digit [] lt a d = let never : ⊥ = omega arith in absurd never
front_digit (b ∷ bs) lt a d = rw (a, d) refl

pub front_minus : (bs : List ℕ) → 0 < length bs → is_ascii_alphabetic (first_of bs) ≡ false → is_ascii_digit (first_of bs) ≡ false → first_of bs ≡ 45 → front_of bs ≡ negative_token (drop 1 bs)
unfolding front
front_minus [] lt a d e = let never : ⊥ = omega arith in absurd never
front_minus (b ∷ bs) lt a d e = rw (a, d, eq-eqb b 45 e) refl

pub front_arrow : (bs : List ℕ) → 0 < length bs → is_ascii_alphabetic (first_of bs) ≡ false → is_ascii_digit (first_of bs) ≡ false → (first_of bs ≡ 45 → ⊥) → first_of bs ≡ 60 → front_of bs ≡ arrow_token (drop 1 bs)
unfolding front
front_arrow [] lt a d n e = let never : ⊥ = omega arith in absurd never
front_arrow (b ∷ bs) lt a d n e = rw (a, d, ne_eqb b 45 n, eq-eqb b 60 e) refl

pub front_quoted : (bs : List ℕ) → 0 < length bs → is_ascii_alphabetic (first_of bs) ≡ false → is_ascii_digit (first_of bs) ≡ false → (first_of bs ≡ 45 → ⊥) → (first_of bs ≡ 60 → ⊥) → first_of bs ≡ 34 → front_of bs ≡ quoted_token (content (drop 1 bs))
unfolding front
front_quoted [] lt a d n m e = let never : ⊥ = omega arith in absurd never
front_quoted (b ∷ bs) lt a d n m e = rw (a, d, ne_eqb b 45 n, ne_eqb b 60 m, eq-eqb b 34 e) refl

pub front_sign : (bs : List ℕ) → 0 < length bs → is_ascii_alphabetic (first_of bs) ≡ false → is_ascii_digit (first_of bs) ≡ false → (first_of bs ≡ 45 → ⊥) → (first_of bs ≡ 60 → ⊥) → (first_of bs ≡ 34 → ⊥) → front_of bs ≡ (sign_token (first_of bs), 1)
unfolding front
front_sign [] lt a d n m q = let never : ⊥ = omega arith in absurd never
front_sign (b ∷ bs) lt a d n m q = rw (a, d, ne_eqb b 45 n, ne_eqb b 60 m, ne_eqb b 34 q) refl
