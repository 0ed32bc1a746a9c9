-- Blank texts.
use Rattle.std.proofs.Common.{◌≡◌, ℕ, suc, ◌+◌, ◌<◌, ◌≤◌, Bool, true, false, cond, List, [], ◌∷◌, length, drop, refl, sym, ap, ◌∙◌, arith}
use Rattle.std.specs.Prelude.{◌==◌, nat_eq, slice_index_or}
use Rattle.std.specs.List.{prefix_len}
use Rattle.cq_text.specs.Lexing.{is_space, is_blank}

abbrev begins_comment : List ℕ → Bool
begins_comment [] = true
begins_comment (b ∷ bs) = b == 35

step : (b : ℕ) (bs : List ℕ) (t : Bool) → is_space b ≡ t → is_blank bs ≡ begins_comment (drop (prefix_len is_space bs) bs) → is_blank (b ∷ bs) ≡ begins_comment (drop (prefix_len is_space (b ∷ bs)) (b ∷ bs))
step b bs true e ih =
    let one : 1 + prefix_len is_space bs ≡ suc (prefix_len is_space bs) = omega arith in
    let len : prefix_len is_space (b ∷ bs) ≡ suc (prefix_len is_space bs) = ap (λ (c : Bool). cond c (1 + prefix_len is_space bs) 0) e ∙ one in
    ap (λ (c : Bool). cond c (is_blank bs) (b == 35)) e ∙ ih ∙ ap (λ (k : ℕ). begins_comment (drop k (b ∷ bs))) (sym len)
step b bs false e ih =
    let len : prefix_len is_space (b ∷ bs) ≡ 0 = ap (λ (c : Bool). cond c (1 + prefix_len is_space bs) 0) e in
    ap (λ (c : Bool). cond c (is_blank bs) (b == 35)) e ∙ ap (λ (k : ℕ). begins_comment (drop k (b ∷ bs))) (sym len)

blank_rest : (bs : List ℕ) → is_blank bs ≡ begins_comment (drop (prefix_len is_space bs) bs)
blank_rest [] = refl
blank_rest (b ∷ bs) = step b bs (is_space b) refl (blank_rest bs)

pub blank_none : (bs : List ℕ) (n : ℕ) → n ≡ prefix_len is_space bs → length (drop n bs) < 1 → is_blank bs ≡ true
blank_none bs n e lt = blank_rest bs ∙ ap (λ (k : ℕ). begins_comment (drop k bs)) (sym e) ∙ none (drop n bs) lt
  where
    none : (r : List ℕ) → length r < 1 → begins_comment r ≡ true
    none [] h = refl
    none (b ∷ r) h = let never : ⊥ = omega arith in absurd never

pub blank_some : (bs : List ℕ) (n : ℕ) → n ≡ prefix_len is_space bs → 1 ≤ length (drop n bs) → is_blank bs ≡ nat_eq (slice_index_or (drop n bs) 0 0) 35
blank_some bs n e le = blank_rest bs ∙ ap (λ (k : ℕ). begins_comment (drop k bs)) (sym e) ∙ some (drop n bs) le
  where
    some : (r : List ℕ) → 1 ≤ length r → begins_comment r ≡ nat_eq (slice_index_or r 0 0) 35
    some [] h = let never : ⊥ = omega arith in absurd never
    some (b ∷ r) h = refl
