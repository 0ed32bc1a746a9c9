-- The lexemes of a text, a step at a time.
use Rattle.std.proofs.Common.{◌≡◌, ℕ, zero, suc, ◌+◌, ◌-◌, ◌<◌, ◌≤◌, Bool, true, false, cond, List, [], ◌∷◌, length, take, drop, get_or, Ok, refl, sym, ap, subst, ◌∙◌, arith, None, Some}
use Rattle.std.specs.List.{prefix_len}
use Rattle.std.specs.Char.{is_ascii_alphabetic, is_ascii_digit}
use Rattle.std.proofs.lemmas.Bool.Decides.{nat_tests}
use Rattle.cq_atom.specs.Text.{begins_with_letter, is_word_byte}
use Rattle.cq_atom.specs.Value.{ValueContent}
use Rattle.std.proofs.lemmas.List.{drop-drop, drop_more, length-drop}
use Rattle.std.proofs.lemmas.List.Sums.{prefix_len-le-length}
use Rattle.std.proofs.lemmas.Bool.{eqb-true, ne_eqb}
use Rattle.cq_text.specs.declared.token.Sign.{Sign}
use Rattle.cq_text.specs.declared.token.Sign.TheVariants.{OpenBrace, CloseBrace, OpenParen, CloseParen, Comma}
use Rattle.cq_text.specs.declared.token.Token.TheVariants.{Mark, Word, Literal, Finish}
use Rattle.cq_text.specs.Token.{TokenContent, LexemeContent, flaw}
use Rattle.cq_text.specs.Steps.Lexemes.{Ahead, next_of, next_at, fault, Met, WordComes, passes_at}
use Rattle.cq_text.specs.declared.token.Close.{Close}
use Rattle.cq_text.specs.declared.token.Close.TheVariants.{By, End}
use Rattle.cq_text.specs.Steps.Lexing.{front_of, sign_of, word_of, positive_of}
use Rattle.cq_text.proofs.Fronts.{first_of, front_word, front_digit}
use Rattle.cq_text.specs.declared.fault.Kind.{Kind}
use Rattle.std.specs.Prelude.{◌==◌, slice_get}
use Rattle.cq_text.specs.Lexing.{is_space, front, lexemes}

pub lexemes-skip : (n at : ℕ) (bs : List ℕ) → n ≤ length bs → lexemes n at bs ≡ lexemes 0 (at + n) (drop n bs)
unfolding lexemes
lexemes-skip zero at bs le = let e : at ≡ at + 0 = omega arith in ap (λ (k : ℕ). lexemes 0 k bs) e
lexemes-skip (suc n) at [] le = let never : ⊥ = omega arith in absurd never
lexemes-skip (suc n) at (b ∷ bs) le = let e : at + 1 + n ≡ at + suc n = omega arith in lexemes-skip n (at + 1) bs (omega arith) ∙ ap (λ (k : ℕ). lexemes 0 k (drop n bs)) e

drop_one_more : (m : ℕ) (b : ℕ) (bs : List ℕ) → drop (1 + m) (b ∷ bs) ≡ drop m bs
drop_one_more m b bs = let e : 1 + m ≡ suc m = omega arith in ap (λ (k : ℕ). drop k (b ∷ bs)) e

space_step : (at b : ℕ) (bs : List ℕ) (t : Bool) → is_space b ≡ t → lexemes 0 (at + 1) bs ≡ lexemes 0 (at + 1 + prefix_len is_space bs) (drop (prefix_len is_space bs) bs)
    → lexemes 0 at (b ∷ bs) ≡ lexemes 0 (at + prefix_len is_space (b ∷ bs)) (drop (prefix_len is_space (b ∷ bs)) (b ∷ bs))
unfolding lexemes
space_step at b bs true e ih =
    let len : prefix_len is_space (b ∷ bs) ≡ 1 + prefix_len is_space bs = ap (λ (c : Bool). cond c (1 + prefix_len is_space bs) 0) e in
    let sum : at + 1 + prefix_len is_space bs ≡ at + (1 + prefix_len is_space bs) = omega arith in
    let first : lexemes 0 at (b ∷ bs) ≡ lexemes 0 (at + 1) bs = ap (λ (c : Bool). cond c (lexemes 0 (at + 1) bs) (record { at = at; token = (front b bs).0 } ∷ lexemes ((front b bs).1 - 1) (at + 1) bs)) e in
    first ∙ ih ∙ ap (λ (k : ℕ). lexemes 0 k (drop (prefix_len is_space bs) bs)) sum ∙ ap (λ (l : List ℕ). lexemes 0 (at + (1 + prefix_len is_space bs)) l) (sym (drop_one_more (prefix_len is_space bs) b bs))
    ∙ ap (λ (k : ℕ). lexemes 0 (at + k) (drop k (b ∷ bs))) (sym len)
space_step at b bs false e ih =
    let len : prefix_len is_space (b ∷ bs) ≡ 0 = ap (λ (c : Bool). cond c (1 + prefix_len is_space bs) 0) e in
    let sum : at ≡ at + 0 = omega arith in
    ap (λ (k : ℕ). lexemes 0 k (b ∷ bs)) sum ∙ ap (λ (k : ℕ). lexemes 0 (at + k) (drop k (b ∷ bs))) (sym len)

pub lexemes-spaces : (at : ℕ) (bs : List ℕ) → lexemes 0 at bs ≡ lexemes 0 (at + prefix_len is_space bs) (drop (prefix_len is_space bs) bs)
unfolding lexemes
lexemes-spaces at [] = refl
lexemes-spaces at (b ∷ bs) = space_step at b bs (is_space b) refl (lexemes-spaces (at + 1) bs)

-- spaces are passed, so none is first
pub first_not_space : (bs : List ℕ) (b : ℕ) (rest : List ℕ) → drop (prefix_len is_space bs) bs ≡ b ∷ rest → is_space b ≡ false
first_not_space [] b rest e = absurd cc
first_not_space (x ∷ xs) b rest e = by_case (is_space x) refl (first_not_space xs b rest)
  where
    by_case : (t : Bool) → is_space x ≡ t → (drop (prefix_len is_space xs) xs ≡ b ∷ rest → is_space b ≡ false) → is_space b ≡ false
    by_case true h ih =
        let len : prefix_len is_space (x ∷ xs) ≡ 1 + prefix_len is_space xs = ap (λ (c : Bool). cond c (1 + prefix_len is_space xs) 0) h in
        ih (sym (drop_one_more (prefix_len is_space xs) x xs) ∙ ap (λ (k : ℕ). drop k (x ∷ xs)) (sym len) ∙ e)
    by_case false h ih =
        let len : prefix_len is_space (x ∷ xs) ≡ 0 = ap (λ (c : Bool). cond c (1 + prefix_len is_space xs) 0) h in
        let same : x ∷ xs ≡ b ∷ rest = ap (λ (k : ℕ). drop k (x ∷ xs)) (sym len) ∙ e in
        let head : x ≡ b = cc in
        ap is_space (sym head) ∙ h

pub front_step : (at b : ℕ) (bs : List ℕ) → is_space b ≡ false → 0 < (front b bs).1 → (front b bs).1 ≤ length (b ∷ bs) → lexemes 0 at (b ∷ bs) ≡ record { at = at; token = (front b bs).0 } ∷ lexemes 0 (at + (front b bs).1) (drop (front b bs).1 (b ∷ bs))
unfolding lexemes
front_step at b bs s lt le =
    let n = (front b bs).1 in
    let first : lexemes 0 at (b ∷ bs) ≡ record { at = at; token = (front b bs).0 } ∷ lexemes (n - 1) (at + 1) bs = ap (λ (c : Bool). cond c (lexemes 0 (at + 1) bs) (record { at = at; token = (front b bs).0 } ∷ lexemes (n - 1) (at + 1) bs)) s in
    let e : n ≡ 1 + (n - 1) = omega arith in
    let sum : at + 1 + (n - 1) ≡ at + n = omega arith in
    let cut : drop (n - 1) bs ≡ drop n (b ∷ bs) = sym (drop_one_more (n - 1) b bs) ∙ ap (λ (k : ℕ). drop k (b ∷ bs)) (sym e) in
    first ∙ ap (λ (l : List LexemeContent). record { at = at; token = (front b bs).0 } ∷ l) (lexemes-skip (n - 1) (at + 1) bs (omega arith) ∙ ap (λ (k : ℕ). lexemes 0 k (drop (n - 1) bs)) sum ∙ ap (λ (l : List ℕ). lexemes 0 (at + n) l) cut)

-- ---- what a reader meets next

abbrev pub ahead_at : List ℕ → ℕ → Ahead
ahead_at text at = record { lexemes = lexemes 0 at (drop at text); end = length text }

abbrev pub spaces : List ℕ → ℕ → ℕ
spaces text at = prefix_len is_space (drop at text)

behind_spaces : (text : List ℕ) (at : ℕ) → lexemes 0 at (drop at text) ≡ lexemes 0 (at + spaces text at) (drop (at + spaces text at) text)
behind_spaces text at = lexemes-spaces at (drop at text) ∙ ap (λ (l : List ℕ). lexemes 0 (at + spaces text at) l) (drop-drop (spaces text at) at text)

pub next_end : (text : List ℕ) (at n : ℕ) → at ≤ length text → n ≡ spaces text at → n ≤ length (drop at text) → drop n (drop at text) ≡ [] → next_at (ahead_at text at) ≡ Ok (record { at = at + n; token = Finish }, ahead_at text (at + n))
unfolding next_at lexemes
next_end text at n le e fits none =
    let none2 : drop (at + n) text ≡ [] = sym (drop-drop n at text) ∙ none in
    let ends : length text ≡ at + n = omega (arith, length-drop at text, length-drop (at + n) text, ap length none2) in
    let all : lexemes 0 at (drop at text) ≡ [] = behind_spaces text at ∙ ap (λ (k : ℕ). lexemes 0 (at + k) (drop (at + k) text)) (sym e) ∙ ap (λ (l : List ℕ). lexemes 0 (at + n) l) none2 in
    ap (λ (l : List LexemeContent). next_of l (length text)) all ∙ rw (none2, ← ends) refl

abbrev pub Reads : List ℕ → ℕ → ℕ → Type 0
Reads text at n = (n ≡ spaces text at) × (n ≤ length (drop at text)) × (0 < length (drop n (drop at text)))

some_left : (text : List ℕ) (at n : ℕ) → n ≡ spaces text at → n ≤ length (drop at text) → (length (drop n (drop at text)) == 0) ≡ false → Reads text at n
some_left text at n h w e = (h, w, positive_len (length (drop n (drop at text))) e)
  where
    positive_len : (k : ℕ) → (k == 0) ≡ false → 0 < k
    positive_len zero f = absurd cc
    positive_len (suc k) f = omega arith

at_front : (text : List ℕ) (at n : ℕ) (t : TokenContent) (k : ℕ) → Reads text at n → front_of (drop n (drop at text)) ≡ (t, k) → 0 < k → k ≤ length (drop n (drop at text)) → lexemes 0 at (drop at text) ≡ record { at = at + n; token = t } ∷ lexemes 0 (at + n + k) (drop (at + n + k) text)
at_front text at n t k r f lt le = by_case (drop n (drop at text)) refl
  where
    by_case : (bs : List ℕ) → drop n (drop at text) ≡ bs → lexemes 0 at (drop at text) ≡ record { at = at + n; token = t } ∷ lexemes 0 (at + n + k) (drop (at + n + k) text)
    by_case [] e = let never : ⊥ = omega (arith, r.2, ap length e) in absurd never
    by_case (b ∷ rest) e =
        let is : front b rest ≡ (t, k) = ap front_of (sym e) ∙ f in
        let size : (front b rest).1 ≡ k = ap (λ (p : TokenContent × ℕ). p.1) is in
        let s = first_not_space (drop at text) b rest (ap (λ (m : ℕ). drop m (drop at text)) (sym r.0) ∙ e) in
        let skip : lexemes 0 at (drop at text) ≡ lexemes 0 (at + n) (b ∷ rest) = lexemes-spaces at (drop at text) ∙ ap (λ (m : ℕ). lexemes 0 (at + m) (drop m (drop at text))) (sym r.0) ∙ ap (λ (l : List ℕ). lexemes 0 (at + n) l) e in
        let cut : drop k (b ∷ rest) ≡ drop (at + n + k) text = ap (drop k) (sym e ∙ drop-drop n at text) ∙ drop-drop k (at + n) text in
        skip ∙ front_step (at + n) b rest s (omega (arith, size)) (omega (arith, size, ap length e))
        ∙ ap (λ (p : TokenContent × ℕ). record { at = at + n; token = p.0 } ∷ lexemes 0 (at + n + p.1) (drop p.1 (b ∷ rest))) is
        ∙ ap (λ (l : List ℕ). record { at = at + n; token = t } ∷ lexemes 0 (at + n + k) l) cut

pub next_token : (text : List ℕ) (at n : ℕ) (t : TokenContent) (k : ℕ) → n ≡ spaces text at → n ≤ length (drop at text) → (length (drop n (drop at text)) == 0) ≡ false → front_of (drop n (drop at text)) ≡ (t, k) → 0 < k → k ≤ length (drop n (drop at text)) → flaw t ≡ None → next_at (ahead_at text at) ≡ Ok (record { at = at + n; token = t }, ahead_at text (at + n + k))
unfolding next_at
next_token text at n t k h w e f lt le g = ap (λ (l : List LexemeContent). next_of l (length text)) (at_front text at n t k (some_left text at n h w e) f lt le) ∙ rw g refl

-- a fault at the front
pub next_fault : (text : List ℕ) (at n : ℕ) (t : TokenContent) (k : ℕ) (kind : Kind) → n ≡ spaces text at → n ≤ length (drop at text) → (length (drop n (drop at text)) == 0) ≡ false → front_of (drop n (drop at text)) ≡ (t, k) → 0 < k → k ≤ length (drop n (drop at text)) → flaw t ≡ Some kind → next_at (ahead_at text at) ≡ fault kind (at + n)
unfolding next_at
next_fault text at n t k kind h w e f lt le g = ap (λ (l : List LexemeContent). next_of l (length text)) (at_front text at n t k (some_left text at n h w e) f lt le) ∙ rw g refl

-- ---- what a reader meets without a lexeme

pub spaces_passed : (text : List ℕ) (at n : ℕ) → n ≡ spaces text at → ahead_at text (at + n) ≡ ahead_at text at
spaces_passed text at n e = ap (λ (k : ℕ). ahead_at text (at + k)) e ∙ ap (λ (l : List LexemeContent). record { lexemes = l; end = length text }) (sym (behind_spaces text at))

-- the byte b before others makes the sign s, and is no space
abbrev Makes : ℕ → Sign → Type 0
Makes b s = (is_space b ≡ false) × ((rest : List ℕ) → front b rest ≡ (Mark s, 1))

makes : (b n : ℕ) (r s : Sign) → (b == n) ≡ true → Some r ≡ Some s → Makes n r → Makes b s
makes b n r s e f m =
    let is : n ≡ b = sym (eqb-true b n e) in
    let same : r ≡ s = cc in
    subst (λ (k : ℕ). Makes k s) is (subst (λ (q : Sign). Makes n q) same m)

sign_made : (b : ℕ) (s : Sign) → sign_of b ≡ Some s → Makes b s
unfolding front
sign_made b s e = by_case (b == 123) (b == 125) (b == 40) (b == 41) (b == 44) refl refl refl refl refl e
  where
    by_case : (p q r t u : Bool) → (b == 123) ≡ p → (b == 125) ≡ q → (b == 40) ≡ r → (b == 41) ≡ t → (b == 44) ≡ u
        → cond p (Some OpenBrace) (cond q (Some CloseBrace) (cond r (Some OpenParen) (cond t (Some CloseParen) (cond u (Some Comma) None)))) ≡ Some s → Makes b s
    by_case true q r t u h _ _ _ _ f = makes b 123 OpenBrace s h f (refl, λ rest. refl)
    by_case false true r t u _ h _ _ _ f = makes b 125 CloseBrace s h f (refl, λ rest. refl)
    by_case false false true t u _ _ h _ _ f = makes b 40 OpenParen s h f (refl, λ rest. refl)
    by_case false false false true u _ _ _ h _ f = makes b 41 CloseParen s h f (refl, λ rest. refl)
    by_case false false false false true _ _ _ _ h f = makes b 44 Comma s h f (refl, λ rest. refl)
    by_case false false false false false _ _ _ _ _ f = absurd cc

-- where a byte that is no space begins, its token stands
met_at : (text : List ℕ) (at b k : ℕ) (rest : List ℕ) (t : TokenContent) → drop at text ≡ b ∷ rest → is_space b ≡ false → front b rest ≡ (t, k) → 0 < k → k ≤ length (b ∷ rest) → flaw t ≡ None → Met t at (ahead_at text at) (ahead_at text (at + k))
met_at text at b k rest t d s f lt le g =
    let none : 0 ≡ spaces text at = sym (ap (λ (l : List ℕ). prefix_len is_space l) d ∙ ap (λ (c : Bool). cond c (1 + prefix_len is_space rest) 0) s) in
    let some : (length (drop at text) == 0) ≡ false = ne_eqb (length (drop at text)) 0 (λ (z : length (drop at text) ≡ 0). omega (arith, ap length d, z)) in
    let is : front_of (drop at text) ≡ (t, k) = ap front_of d ∙ f in
    let fits : k ≤ length (drop at text) = omega (arith, ap length d) in
    let zero_more : at + 0 ≡ at = omega arith in
    next_token text at 0 t k none (omega arith) some is lt fits g
    ∙ ap (λ (n : ℕ). Ok (record { at = n; token = t }, ahead_at text (n + k))) zero_more

pub sign_met : (text : List ℕ) (at : ℕ) (s : Sign) → at < length text → sign_of (get_or text at 0) ≡ Some s → Met (Mark s) at (ahead_at text at) (ahead_at text (at + 1))
sign_met text at s lt e =
    let m = sign_made (get_or text at 0) s e in
    met_at text at (get_or text at 0) 1 (drop (at + 1) text) (Mark s) (drop_more text at 0 lt) m.0 (m.1 (drop (at + 1) text)) (omega arith) (omega arith) refl

pub word_met : (text : List ℕ) (at : ℕ) (w : List ℕ) (k : ℕ) → begins_with_letter (drop at text) ≡ true → word_of (drop at text) ≡ (Word w, k) → 0 < k → k ≤ length (drop at text) → Met (Word w) at (ahead_at text at) (ahead_at text (at + k))
word_met text at w k h f lt le = by_case (drop at text) refl
  where
    by_case : (bs : List ℕ) → drop at text ≡ bs → Met (Word w) at (ahead_at text at) (ahead_at text (at + k))
    by_case [] d = let never : ⊥ = omega (arith, ap length d) in absurd never
    by_case (b ∷ rest) d =
        let letter : is_ascii_alphabetic b ≡ true = ap begins_with_letter (sym d) ∙ h in
        let space : is_space b ≡ false = grind (arith, nat_tests) in
        let is : front b rest ≡ (Word w, k) = front_word (b ∷ rest) (omega arith) letter ∙ ap word_of (sym d) ∙ f in
        met_at text at b k rest (Word w) d space is lt (omega (arith, ap length d)) refl

pub letter_first : (bs : List ℕ) (b : ℕ) → Some b ≡ slice_get bs 0 → is_ascii_alphabetic b ≡ true → begins_with_letter bs ≡ true
letter_first [] b e h = absurd cc
letter_first (c ∷ bs) b e h = let same : b ≡ c = cc in ap is_ascii_alphabetic (sym same) ∙ h

pub number_met : (text : List ℕ) (at : ℕ) (v : ValueContent) (k : ℕ) → is_ascii_digit (first_of (drop at text)) ≡ true → positive_of (drop at text) ≡ (Literal v, k) → 0 < k → k ≤ length (drop at text) → Met (Literal v) at (ahead_at text at) (ahead_at text (at + k))
number_met text at v k h f lt le = by_case (drop at text) refl
  where
    by_case : (bs : List ℕ) → drop at text ≡ bs → Met (Literal v) at (ahead_at text at) (ahead_at text (at + k))
    by_case [] d = let never : ⊥ = omega (arith, ap length d) in absurd never
    by_case (b ∷ rest) d =
        let digit : is_ascii_digit b ≡ true = ap (λ (l : List ℕ). is_ascii_digit (first_of l)) (sym d) ∙ h in
        let letter : is_ascii_alphabetic b ≡ false = grind (arith, nat_tests) in
        let space : is_space b ≡ false = grind (arith, nat_tests) in
        let is : front b rest ≡ (Literal v, k) = front_digit (b ∷ rest) (omega arith) letter digit ∙ ap positive_of (sym d) ∙ f in
        met_at text at b k rest (Literal v) d space is lt (omega (arith, ap length d)) refl

pub word_comes : (text : List ℕ) (at b : ℕ) → at < length text → b ≡ get_or text at 0 → is_ascii_alphabetic b ≡ true → WordComes (ahead_at text at)
word_comes text at b lt e h =
    let rest = drop (at + 1) text in
    let n = prefix_len is_word_byte rest in
    let is : drop at text ≡ b ∷ rest = drop_more text at 0 lt ∙ ap (λ (k : ℕ). k ∷ rest) (sym e) in
    let letter : begins_with_letter (drop at text) ≡ true = ap begins_with_letter is ∙ h in
    let within : n ≤ length rest = prefix_len-le-length is_word_byte rest in
    (b ∷ take n rest, at, ahead_at text (at + (n + 1)), word_met text at (b ∷ take n rest) (n + 1) letter (ap word_of is) (omega arith) (omega (arith, ap length is)))

-- a list that an identifier begins is not closed
pub passes_none : (close : Close) (a : Ahead) → WordComes a → passes_at close a ≡ Ok (false, a)
unfolding passes_at
passes_none (By s) a w = rw w.3 refl
passes_none End a w = rw w.3 refl
