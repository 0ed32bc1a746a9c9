-- The tokens of a printed text.
use Rattle.std.proofs.Common.{◌≡◌, ℕ, zero, suc, ◌+◌, ◌-◌, ◌*◌, ◌^◌, ◌<◌, ◌≤◌, Bool, true, false, cond, List, [], ◌∷◌, ◌++◌, length, take, drop, get_or, Some, refl, sym, ap, subst, ◌∙◌, append_assoc, arith, inl, inr, ◌⊎◌, rules}
use Rattle.std.specs.Prelude.{◌||◌, ◌==◌, ◌&&◌, ℤ, pos, negsuc, IsTrue, nat_lt, nat_le, fold, FitsSigned}
use Rattle.std.specs.Int.{w64}
use Rattle.std.specs.Char.{is_ascii_alphabetic, is_ascii_digit}
use Rattle.std.specs.Fmt.{signed_decimal, decimal}
use Rattle.std.specs.List.{prefix_len, list_all}
use Rattle.std.proofs.lemmas.List.{take_at, drop_at, length-append, append-nil}
use Rattle.std.proofs.lemmas.Bool.Decides.{nat_tests}
use Rattle.std.proofs.lemmas.Fmt.{digits_decimal, digits_value-decimal, first_decimal, decimal_nonempty, decimal_digit}
use Rattle.std.proofs.lemmas.Str.Parse.{IsNumeralModel, numerals_by_fold}
use Rattle.cq_atom.specs.Text.{is_word_byte, is_name, begins_with_letter, is_text}
use Rattle.cq_atom.specs.Limits.{max_name}
use Rattle.cq_text.specs.declared.token.Sign.TheVariants.{OpenBrace, CloseBrace, OpenParen, CloseParen, Comma, Arrow}
use Rattle.cq_atom.specs.declared.value.Content.TheVariants.{Number, Text}
use Rattle.cq_text.specs.declared.token.Sign.{Sign}
use Rattle.cq_text.specs.declared.fault.Kind.TheVariants.{Token as TokenFault}
use Rattle.cq_text.specs.declared.token.Token.TheVariants.{Mark, Word, Literal, Bad}
use Rattle.cq_text.specs.Token.{TokenContent, LexemeContent, tokens_of}
use Rattle.cq_text.specs.Lexing.{is_space, magnitude, is_plain, positive, negative, content, behind, quoted_token, front, lexemes}
use Rattle.cq_text.specs.Print.{escaped, printed_text}

-- The next byte, if any, fails the test.
abbrev pub Stops : (ℕ → Bool) → List ℕ → Type 0
Stops p [] = Unit {0}
Stops p (b ∷ bs) = p b ≡ false

prefix_len-stops : (p : ℕ → Bool) (w rest : List ℕ) → list_all p w ≡ true → Stops p rest → prefix_len p (w ++ rest) ≡ length w
prefix_len-stops p [] [] a s = refl
prefix_len-stops p [] (b ∷ bs) a s = rw s refl
prefix_len-stops p (x ∷ w) rest a s = by_case (p x) refl a (prefix_len-stops p w rest)
  where
    never : false ≡ true → ⊥
    never h = cc

    by_case : (t : Bool) → p x ≡ t → (p x && list_all p w) ≡ true → (list_all p w ≡ true → Stops p rest → prefix_len p (w ++ rest) ≡ length w) → cond (p x) (1 + prefix_len p (w ++ rest)) 0 ≡ suc (length w)
    by_case true e all ih = rw e (let k : prefix_len p (w ++ rest) ≡ length w = ih (rw e at all) s in omega arith)
    by_case false e all ih = absurd (never (rw e at all))

-- ---- the lexemes of bytes that begin with a token

lexemes_skipped : (n at : ℕ) (bs : List ℕ) → n ≤ length bs → lexemes n at bs ≡ lexemes 0 (at + n) (drop n bs)
unfolding lexemes
lexemes_skipped zero at bs le = let e : at ≡ at + 0 = omega arith in ap (λ (k : ℕ). lexemes 0 k bs) e
lexemes_skipped (suc n) at [] le = let never : ⊥ = omega arith in absurd never
lexemes_skipped (suc n) at (b ∷ bs) le = let e : at + 1 + n ≡ at + suc n = omega arith in lexemes_skipped n (at + 1) bs (omega arith) ∙ ap (λ (k : ℕ). lexemes 0 k (drop n bs)) e

drop_one_more : (m : ℕ) (b : ℕ) (bs : List ℕ) → drop (1 + m) (b ∷ bs) ≡ drop m bs
drop_one_more m b bs = let e : 1 + m ≡ suc m = omega arith in ap (λ (k : ℕ). drop k (b ∷ bs)) e

first_lexeme : (at b : ℕ) (bs : List ℕ) → is_space b ≡ false → 0 < (front b bs).1 → (front b bs).1 ≤ length (b ∷ bs) → lexemes 0 at (b ∷ bs) ≡ record { at = at; token = (front b bs).0 } ∷ lexemes 0 (at + (front b bs).1) (drop (front b bs).1 (b ∷ bs))
unfolding lexemes
first_lexeme at b bs s lt le =
    let n = (front b bs).1 in
    let first : lexemes 0 at (b ∷ bs) ≡ record { at = at; token = (front b bs).0 } ∷ lexemes (n - 1) (at + 1) bs = ap (λ (c : Bool). cond c (lexemes 0 (at + 1) bs) (record { at = at; token = (front b bs).0 } ∷ lexemes (n - 1) (at + 1) bs)) s in
    let e : n ≡ 1 + (n - 1) = omega arith in
    let sum : at + 1 + (n - 1) ≡ at + n = omega arith in
    let cut : drop (n - 1) bs ≡ drop n (b ∷ bs) = sym (drop_one_more (n - 1) b bs) ∙ ap (λ (k : ℕ). drop k (b ∷ bs)) (sym e) in
    first ∙ ap (λ (l : List LexemeContent). record { at = at; token = (front b bs).0 } ∷ l) (lexemes_skipped (n - 1) (at + 1) bs (omega arith) ∙ ap (λ (k : ℕ). lexemes 0 k (drop (n - 1) bs)) sum ∙ ap (λ (l : List ℕ). lexemes 0 (at + n) l) cut)

lexemes_spelled : (at b : ℕ) (w rest : List ℕ) (t : TokenContent) → is_space b ≡ false → front b (w ++ rest) ≡ (t, length (b ∷ w)) → lexemes 0 at (b ∷ (w ++ rest)) ≡ record { at = at; token = t } ∷ lexemes 0 (at + length (b ∷ w)) rest
lexemes_spelled at b w rest t s f =
    let size : (front b (w ++ rest)).1 ≡ length (b ∷ w) = ap (λ (p : TokenContent × ℕ). p.1) f in
    first_lexeme at b (w ++ rest) s (omega (arith, size)) (omega (arith, size, length-append w rest))
    ∙ ap (λ (p : TokenContent × ℕ). record { at = at; token = p.0 } ∷ lexemes 0 (at + p.1) (drop p.1 (b ∷ (w ++ rest)))) f
    ∙ ap (λ (l : List ℕ). record { at = at; token = t } ∷ lexemes 0 (at + length (b ∷ w)) l) (drop_at (b ∷ w) rest (length (b ∷ w)) refl)

-- ---- bytes that spell tokens, before whatever P allows

abbrev pub Spells : (List ℕ → Type 0) → List ℕ → List TokenContent → Type 0
Spells P bs ts = (at : ℕ) (rest : List ℕ) → P rest → (next : ℕ) × (tokens_of (lexemes 0 at (bs ++ rest)) ≡ ts ++ tokens_of (lexemes 0 next rest))

abbrev pub Anything : List ℕ → Type 0
Anything rest = Unit {0}

-- Before anything but a byte of an identifier or number.
abbrev pub Ended : List ℕ → Type 0
Ended rest = Stops is_word_byte rest

pub spells_then : (P Q : List ℕ → Type 0) (a b : List ℕ) (x y : List TokenContent) → Spells P a x → ((rest : List ℕ) → Q rest → P (b ++ rest)) → Spells Q b y → Spells Q (a ++ b) (x ++ y)
spells_then P Q a b x y p f q at rest h =
    let first = p at (b ++ rest) (f rest h) in
    let second = q first.0 rest h in
    (second.0, ap (λ (l : List ℕ). tokens_of (lexemes 0 at l)) (append_assoc a b rest) ∙ first.1 ∙ ap (λ (l : List TokenContent). x ++ l) second.1 ∙ sym (append_assoc x y (tokens_of (lexemes 0 second.0 rest))))

-- a whole text
pub spells_whole : (P : List ℕ → Type 0) (bs : List ℕ) (ts : List TokenContent) → P [] → Spells P bs ts → tokens_of (lexemes 0 0 bs) ≡ ts
unfolding lexemes
spells_whole P bs ts p s = let h = s 0 [] p in ap (λ (l : List ℕ). tokens_of (lexemes 0 0 l)) (sym (append-nil bs)) ∙ h.1 ∙ append-nil ts

-- ---- signs and spaces

spells_sign : (b : ℕ) (s : Sign) → is_space b ≡ false → ((rest : List ℕ) → front b rest ≡ (Mark s, 1)) → Spells Anything (b ∷ []) (Mark s ∷ [])
spells_sign b s e f at rest h = (at + 1, ap tokens_of (lexemes_spelled at b [] rest (Mark s) e (f rest)))

pub spells_space : Spells Anything (32 ∷ []) []
unfolding lexemes
spells_space at rest h = (at + 1, refl)

pub spells_open_paren : Spells Anything (40 ∷ []) (Mark OpenParen ∷ [])
unfolding front
spells_open_paren = spells_sign 40 OpenParen refl (λ rest. refl)

pub spells_close_paren : Spells Anything (41 ∷ []) (Mark CloseParen ∷ [])
unfolding front
spells_close_paren = spells_sign 41 CloseParen refl (λ rest. refl)

pub spells_open_brace : Spells Anything (123 ∷ []) (Mark OpenBrace ∷ [])
unfolding front
spells_open_brace = spells_sign 123 OpenBrace refl (λ rest. refl)

pub spells_close_brace : Spells Anything (125 ∷ 32 ∷ []) (Mark CloseBrace ∷ [])
unfolding front lexemes
spells_close_brace at rest h = (at + 1 + 1, refl)

pub spells_comma : Spells Anything (44 ∷ 32 ∷ []) (Mark Comma ∷ [])
unfolding front lexemes
spells_comma at rest h = (at + 1 + 1, refl)

pub spells_arrow : Spells Anything (32 ∷ 60 ∷ 45 ∷ []) (Mark Arrow ∷ [])
unfolding front lexemes
spells_arrow at rest h = (at + 1 + 1 + 1, refl)

-- ---- identifiers

not_space : (b : ℕ) → is_ascii_alphabetic b ≡ true → is_space b ≡ false
not_space b e = grind (arith, nat_tests)

front_word : (b : ℕ) (w rest : List ℕ) → is_ascii_alphabetic b ≡ true → list_all is_word_byte w ≡ true → Ended rest → front b (w ++ rest) ≡ (Word (b ∷ w), length (b ∷ w))
unfolding front
front_word b w rest l a s =
    let n = prefix_len-stops is_word_byte w rest a s in
    let sum : length w + 1 ≡ length (b ∷ w) = omega arith in
    rw (l, n, take_at w rest (length w) refl) (ap (λ (k : ℕ). (Word (b ∷ w), k)) sum)

spells_letters : (b : ℕ) (w : List ℕ) → is_ascii_alphabetic b ≡ true → list_all is_word_byte w ≡ true → Spells Ended (b ∷ w) (Word (b ∷ w) ∷ [])
spells_letters b w l a at rest s = (at + length (b ∷ w), ap tokens_of (lexemes_spelled at b w rest (Word (b ∷ w)) (not_space b l) (front_word b w rest l a s)))

pub and_parts : (a b : Bool) → (a && b) ≡ true → (a ≡ true) × (b ≡ true)
and_parts true b e = (refl, e)
and_parts false b e = absurd (let never : false ≡ true = e in cc)

pub spells_name : (w : List ℕ) → IsTrue (is_name w) → Spells Ended w (Word w ∷ [])
spells_name [] h = absurd cc
spells_name (b ∷ w) h =
    let p = and_parts (is_ascii_alphabetic b) (nat_le (length (b ∷ w)) max_name && list_all is_word_byte (b ∷ w)) h in
    let q = and_parts (nat_le (length (b ∷ w)) max_name) (list_all is_word_byte (b ∷ w)) p.1 in
    let r = and_parts (is_word_byte b) (list_all is_word_byte w) q.1 in
    spells_letters b w p.0 r.1

pub short_name : (w : List ℕ) → IsTrue (is_name w) → length w ≤ max_name
short_name w h =
    let p = and_parts (begins_with_letter w) (nat_le (length w) max_name && list_all is_word_byte w) h in
    let q = and_parts (nat_le (length w) max_name) (list_all is_word_byte w) p.1 in
    grind (arith, nat_tests, q.0)

-- ---- quoted texts

content_quote : (rest : List ℕ) → content (34 ∷ rest) ≡ Some ([], 1)
unfolding content
content_quote [] = refl
content_quote (c ∷ rest) = refl

content_escape : (c : ℕ) (bs : List ℕ) → ((c == 34) || (c == 92)) ≡ true → content (92 ∷ c ∷ bs) ≡ behind c 2 (content bs)
unfolding content
content_escape c bs e = rw e refl

content_plain : (b : ℕ) (c : ℕ) (bs : List ℕ) → (b == 34) ≡ false → (b == 92) ≡ false → content (b ∷ c ∷ bs) ≡ behind b 1 (content (c ∷ bs))
unfolding content
content_plain b c bs e f = rw (e, f) refl

or_parts : (a b : Bool) → (a || b) ≡ false → (a ≡ false) × (b ≡ false)
or_parts true b e = absurd (let never : true ≡ false = e in cc)
or_parts false b e = (refl, e)

-- the bytes of a text with what closes it are never none
some_bytes : (s rest : List ℕ) → (c : ℕ) × (bs : List ℕ) × (escaped s ++ (34 ∷ rest) ≡ c ∷ bs)
some_bytes [] rest = (34, rest, refl)
some_bytes (b ∷ s) rest = by_case ((b == 34) || (b == 92)) refl
  where
    by_case : (t : Bool) → ((b == 34) || (b == 92)) ≡ t → (c : ℕ) × (bs : List ℕ) × ((cond ((b == 34) || (b == 92)) (92 ∷ b ∷ []) (b ∷ []) ++ escaped s) ++ (34 ∷ rest) ≡ c ∷ bs)
    by_case true e = (92, b ∷ (escaped s ++ (34 ∷ rest)), rw e refl)
    by_case false e = (b, escaped s ++ (34 ∷ rest), rw e refl)

content_escaped : (s rest : List ℕ) → content (escaped s ++ (34 ∷ rest)) ≡ Some (s, length (escaped s) + 1)
content_escaped [] rest = content_quote rest
content_escaped (b ∷ s) rest = by_case ((b == 34) || (b == 92)) refl (content_escaped s rest)
  where
    by_case : (t : Bool) → ((b == 34) || (b == 92)) ≡ t → content (escaped s ++ (34 ∷ rest)) ≡ Some (s, length (escaped s) + 1)
        → content ((cond ((b == 34) || (b == 92)) (92 ∷ b ∷ []) (b ∷ []) ++ escaped s) ++ (34 ∷ rest)) ≡ Some (b ∷ s, length (cond ((b == 34) || (b == 92)) (92 ∷ b ∷ []) (b ∷ []) ++ escaped s) + 1)
    by_case true e ih =
        let sum : 2 + (length (escaped s) + 1) ≡ suc (suc (length (escaped s))) + 1 = omega arith in
        rw e (content_escape b (escaped s ++ (34 ∷ rest)) e ∙ ap (behind b 2) ih ∙ ap (λ (n : ℕ). Some (b ∷ s, n)) sum)
    by_case false e ih =
        let o = or_parts (b == 34) (b == 92) e in
        let n = some_bytes s rest in
        let sum : 1 + (length (escaped s) + 1) ≡ suc (length (escaped s)) + 1 = omega arith in
        rw e (ap (λ (l : List ℕ). content (b ∷ l)) n.2 ∙ content_plain b n.0 n.1 o.0 o.1 ∙ ap (λ (l : List ℕ). behind b 1 (content l)) (sym n.2) ∙ ap (behind b 1) ih ∙ ap (λ (k : ℕ). Some (b ∷ s, k)) sum)

front_text : (s rest : List ℕ) → IsTrue (is_text s) → front 34 (escaped s ++ (34 ∷ rest)) ≡ (Literal (Text s), length (printed_text s))
unfolding front
front_text s rest e =
    let len : length (escaped s) + 1 + 1 ≡ length (printed_text s) = omega (arith, length-append (escaped s) (34 ∷ [])) in
    ap quoted_token (content_escaped s rest) ∙ rw e (ap (λ (n : ℕ). (Literal (Text s), n)) len)

pub spells_text : (s : List ℕ) → IsTrue (is_text s) → Spells Anything (printed_text s) (Literal (Text s) ∷ [])
spells_text s e at rest h =
    let f : front 34 ((escaped s ++ (34 ∷ [])) ++ rest) ≡ (Literal (Text s), length (printed_text s)) = ap (front 34) (append_assoc (escaped s) (34 ∷ []) rest) ∙ front_text s rest e in
    (at + length (printed_text s), ap tokens_of (lexemes_spelled at 34 (escaped s ++ (34 ∷ [])) rest (Literal (Text s)) refl f))

-- ---- numbers

abbrev pub AreDigits : List ℕ → Type 0
AreDigits ds = list_all is_ascii_digit ds ≡ true

pub numerals : IsNumeralModel AreDigits magnitude
numerals = numerals_by_fold AreDigits (search rules) (fold (λ n d. 10 * n + (d - 48))) (search rules)

ended_digits : (rest : List ℕ) → Ended rest → Stops is_ascii_digit rest
ended_digits [] h = tt
ended_digits (b ∷ bs) h = by_case (is_ascii_digit b) refl
  where
    by_case : (t : Bool) → is_ascii_digit b ≡ t → is_ascii_digit b ≡ false
    by_case true e = absurd (let never : ⊥ = grind (arith, nat_tests) in never)
    by_case false e = e

digit_space : (d : ℕ) → is_ascii_digit d ≡ true → is_space d ≡ false
digit_space d e = grind (arith, nat_tests)

digit_letter : (d : ℕ) → is_ascii_digit d ≡ true → is_ascii_alphabetic d ≡ false
digit_letter d e = grind (arith, nat_tests)

front_digits : (d : ℕ) (ds rest : List ℕ) → AreDigits (d ∷ ds) → Ended rest → front d (ds ++ rest) ≡ (positive (d ∷ ds), length (d ∷ ds))
unfolding front
front_digits d ds rest a s =
    let p = and_parts (is_ascii_digit d) (list_all is_ascii_digit ds) a in
    let n = prefix_len-stops is_ascii_digit ds rest p.1 (ended_digits rest s) in
    let sum : length ds + 1 ≡ length (d ∷ ds) = omega arith in
    rw (digit_letter d p.0, p.0, n, take_at ds rest (length ds) refl) (ap (λ (k : ℕ). (positive (d ∷ ds), k)) sum)

front_minus : (d : ℕ) (ds rest : List ℕ) → AreDigits (d ∷ ds) → Ended rest → front 45 (d ∷ (ds ++ rest)) ≡ (negative (d ∷ ds), length (45 ∷ d ∷ ds))
unfolding front
front_minus d ds rest a s =
    let n : prefix_len is_ascii_digit (d ∷ (ds ++ rest)) ≡ length (d ∷ ds) = prefix_len-stops is_ascii_digit (d ∷ ds) rest a (ended_digits rest s) in
    let sum : length (d ∷ ds) + 1 ≡ length (45 ∷ d ∷ ds) = omega arith in
    let some : (length (d ∷ ds) == 0) ≡ false = grind (arith, nat_tests) in
    let cut : take (length (d ∷ ds)) (d ∷ (ds ++ rest)) ≡ d ∷ ds = take_at (d ∷ ds) rest (length (d ∷ ds)) refl in
    let chosen : Bool → TokenContent × ℕ = λ (none : Bool). cond none (Bad TokenFault, 1) (negative (take (length (d ∷ ds)) (d ∷ (ds ++ rest))), length (d ∷ ds) + 1) in
    let sized : front 45 (d ∷ (ds ++ rest)) ≡ chosen (length (d ∷ ds) == 0) = ap (λ (k : ℕ). cond (k == 0) (Bad TokenFault, 1) (negative (take k (d ∷ (ds ++ rest))), k + 1)) n in
    sized ∙ ap chosen some ∙ ap (λ (l : List ℕ). (negative l, length (d ∷ ds) + 1)) cut ∙ ap (λ (k : ℕ). (negative (d ∷ ds), k)) sum

-- what is known of a number's digits
record Digits (ds : List ℕ) (n : ℕ) : Type 0 where
  first : ℕ
  others : List ℕ
  are : ds ≡ first ∷ others
  digits : AreDigits (first ∷ others)
  plain : is_plain (first ∷ others) ≡ true
  value : magnitude (first ∷ others) ≡ n

plain_digits : (d : ℕ) (ds : List ℕ) → (length (d ∷ ds) ≡ 1) ⊎ (48 < d) → is_plain (d ∷ ds) ≡ true
plain_digits d [] h = refl
plain_digits d (e ∷ ds) (inl h) = absurd (omega arith)
plain_digits d (e ∷ ds) (inr h) = grind (arith, nat_tests)

digits_are : (n : ℕ) (ds : List ℕ) → decimal n ≡ ds → n < 2 ^ 64 → Digits ds n
digits_are n [] e lt = absurd (let some = decimal_nonempty n lt in omega (arith, ap length e))
digits_are n (d ∷ ds) e lt = record {
  first = d;
  others = ds;
  are = refl;
  digits = subst AreDigits e (digits_decimal numerals n lt);
  plain = plain_digits d ds (by_size n refl);
  value = ap magnitude (sym e) ∙ digits_value-decimal numerals n lt;
}
  where
    by_size : (m : ℕ) → n ≡ m → (length (d ∷ ds) ≡ 1) ⊎ (48 < d)
    by_size zero z = inl (ap length (sym e) ∙ ap (λ k. length (decimal k)) z ∙ ap length (decimal_digit 0 (omega arith)))
    by_size (suc m) z = inr (subst (λ l. 48 < get_or l 0 0) e (first_decimal n (omega arith) lt))

positive_is : (ds : List ℕ) (n : ℕ) → is_plain ds ≡ true → magnitude ds ≡ n → n < 2 ^ 63 → positive ds ≡ Literal (Number (pos n))
positive_is ds n p v lt = let t : nat_lt n (2 ^ 63) ≡ true = grind (arith, nat_tests) in rw (p, v, t) refl

negative_is : (ds : List ℕ) (n : ℕ) → is_plain ds ≡ true → magnitude ds ≡ suc n → suc n ≤ 2 ^ 63 → negative ds ≡ Literal (Number (negsuc n))
negative_is ds n p v le =
    let s : nat_lt 0 (suc n) ≡ true = grind (arith, nat_tests) in
    let t : nat_le (suc n) (2 ^ 63) ≡ true = grind (arith, nat_tests) in
    rw (p, v, s, t) refl

pub spells_positive : (n : ℕ) → n < 2 ^ 63 → Spells Ended (decimal n) (Literal (Number (pos n)) ∷ [])
spells_positive n lt at rest s =
    let d = digits_are n (decimal n) refl (omega arith) in
    let ds = d.first ∷ d.others in
    let f : front d.first (d.others ++ rest) ≡ (Literal (Number (pos n)), length ds) = front_digits d.first d.others rest d.digits s ∙ ap (λ (t : TokenContent). (t, length ds)) (positive_is ds n d.plain d.value lt) in
    (at + length ds, ap (λ (l : List ℕ). tokens_of (lexemes 0 at (l ++ rest))) d.are ∙ ap tokens_of (lexemes_spelled at d.first d.others rest (Literal (Number (pos n))) (digit_space d.first (and_parts (is_ascii_digit d.first) (list_all is_ascii_digit d.others) d.digits).0) f))

spells_negative : (n : ℕ) → suc n ≤ 2 ^ 63 → Spells Ended (45 ∷ decimal (suc n)) (Literal (Number (negsuc n)) ∷ [])
spells_negative n lt at rest s =
    let d = digits_are (suc n) (decimal (suc n)) refl (omega arith) in
    let ds = d.first ∷ d.others in
    let f : front 45 (d.first ∷ (d.others ++ rest)) ≡ (Literal (Number (negsuc n)), length (45 ∷ ds)) = front_minus d.first d.others rest d.digits s ∙ ap (λ (t : TokenContent). (t, length (45 ∷ ds))) (negative_is ds n d.plain d.value lt) in
    (at + length (45 ∷ ds), ap (λ (l : List ℕ). tokens_of (lexemes 0 at (45 ∷ (l ++ rest)))) d.are ∙ ap tokens_of (lexemes_spelled at 45 ds rest (Literal (Number (negsuc n))) refl f))

pub spells_number : (n : ℤ) → FitsSigned w64 n → Spells Ended (signed_decimal n) (Literal (Number n) ∷ [])
spells_number (pos n) f = spells_positive n f.sfits
spells_number (negsuc n) f = spells_negative n (let h = f.sfits in omega arith)
