-- What an identifier's bytes make it.
use Rattle.std.proofs.Common.{◌≡◌, ℕ, zero, suc, ◌+◌, ◌<◌, ◌≤◌, Bool, true, false, cond, List, [], ◌∷◌, length, take, drop, refl, ap, ◌∙◌, arith}
use Rattle.std.specs.Prelude.{◌&&◌}
use Rattle.std.specs.List.{list_all, prefix_len}
use Rattle.std.specs.Str.{IsAscii, IsUtf8}
use Rattle.std.proofs.lemmas.Str.{IsUtf8-from_ascii, is_utf8-from_IsUtf8}
use Rattle.std.proofs.lemmas.Bool.{le-leb}
use Rattle.std.proofs.lemmas.Bool.Decides.{nat_tests}
use Rattle.cq_atom.specs.Text.{is_word_byte, is_plain_byte, begins_with_letter, is_name, is_text}
use Rattle.cq_text.specs.Steps.Words.{is_identifier}

pub and_parts : (a b : Bool) → (a && b) ≡ true → (a ≡ true) × (b ≡ true)
and_parts true b e = (refl, e)
and_parts false b e = absurd cc

ascii_byte : (b : ℕ) → is_word_byte b ≡ true → b < 128
ascii_byte b e = grind (arith, nat_tests)

plain_byte : (b : ℕ) → is_word_byte b ≡ true → is_plain_byte b ≡ true
plain_byte b e = grind (arith, nat_tests)

ascii : (w : List ℕ) → list_all is_word_byte w ≡ true → IsAscii w
ascii [] e i = omega arith
ascii (b ∷ w) e zero = ascii_byte b (and_parts (is_word_byte b) (list_all is_word_byte w) e).0
ascii (b ∷ w) e (suc i) = ascii w (and_parts (is_word_byte b) (list_all is_word_byte w) e).1 i

plain : (w : List ℕ) → list_all is_word_byte w ≡ true → list_all is_plain_byte w ≡ true
plain [] e = refl
plain (b ∷ w) e = let p = and_parts (is_word_byte b) (list_all is_word_byte w) e in rw (plain_byte b p.0) (plain w p.1)

pub identifier-utf8 : (w : List ℕ) → is_identifier w ≡ true → IsUtf8 w
identifier-utf8 w e = IsUtf8-from_ascii w (ascii w (and_parts (begins_with_letter w) (list_all is_word_byte w) e).1)

-- a short identifier is a name, and its letters are a text
pub identifier-name : (w : List ℕ) → is_identifier w ≡ true → length w ≤ 32 → is_name w ≡ true
identifier-name w e le = let p = and_parts (begins_with_letter w) (list_all is_word_byte w) e in rw (p.0, p.1, le-leb (length w) 32 le) refl

pub identifier-text : (w : List ℕ) → is_identifier w ≡ true → length w ≤ 32 → is_text w ≡ true
identifier-text w e le = let p = and_parts (begins_with_letter w) (list_all is_word_byte w) e in
    let long : length w ≤ 255 = omega arith in
    rw (is_utf8-from_IsUtf8 w (identifier-utf8 w e), plain w p.1, le-leb (length w) 255 long) refl

-- ---- at the front of bytes

pub take_front : (n b : ℕ) (bs : List ℕ) → take (n + 1) (b ∷ bs) ≡ b ∷ take n bs
take_front n b bs = let e : n + 1 ≡ suc n = omega arith in ap (λ (k : ℕ). take k (b ∷ bs)) e

prefix_case : (p : ℕ → Bool) (b : ℕ) (bs : List ℕ) (t : Bool) → p b ≡ t → list_all p (take (prefix_len p bs) bs) ≡ true → list_all p (take (prefix_len p (b ∷ bs)) (b ∷ bs)) ≡ true
prefix_case p b bs true e ih =
    let one : 1 + prefix_len p bs ≡ suc (prefix_len p bs) = omega arith in
    let len : prefix_len p (b ∷ bs) ≡ suc (prefix_len p bs) = ap (λ (c : Bool). cond c (1 + prefix_len p bs) 0) e ∙ one in
    ap (λ (k : ℕ). list_all p (take k (b ∷ bs))) len ∙ rw e ih
prefix_case p b bs false e ih =
    let len : prefix_len p (b ∷ bs) ≡ 0 = ap (λ (c : Bool). cond c (1 + prefix_len p bs) 0) e in
    ap (λ (k : ℕ). list_all p (take k (b ∷ bs))) len

pub all_prefix : (p : ℕ → Bool) (bs : List ℕ) → list_all p (take (prefix_len p bs) bs) ≡ true
all_prefix p [] = refl
all_prefix p (b ∷ bs) = prefix_case p b bs (p b) refl (all_prefix p bs)

pub word_front : (bs : List ℕ) (n : ℕ) → begins_with_letter bs ≡ true → n ≡ prefix_len is_word_byte (drop 1 bs) → is_identifier (take (n + 1) bs) ≡ true
word_front [] n e h = absurd cc
word_front (b ∷ bs) n e h =
    let letter : is_word_byte b ≡ true = grind (arith, nat_tests) in
    let rest : list_all is_word_byte (take n bs) ≡ true = ap (λ (k : ℕ). list_all is_word_byte (take k bs)) h ∙ all_prefix is_word_byte bs in
    ap is_identifier (take_front n b bs) ∙ rw (e, letter, rest) refl
