-- What fits the grammar is read.
use Rattle.std.proofs.Common.{pos, ◌≡◌, ℕ, ℤ, zero, suc, ◌≤◌, Bool, true, false, cond, List, [], ◌∷◌, ◌++◌, length, None, Result, Ok, refl, sym, ap, subst, ◌∙◌, append_assoc, arith, inl, inr}
use Rattle.std.specs.Prelude.{codes}
use Rattle.std.specs.List.{AllByRecursion}
use Rattle.std.proofs.lemmas.Bool.{le-ltb, le-leb}
use Rattle.std.proofs.lemmas.List.{append-nil}
use Rattle.std.proofs.lemmas.Bool.Decides.{nat_tests}
use Rattle.cq_atom.specs.declared.value.Content.TheVariants.{Number, Text}
use Rattle.cq_atom.specs.declared.term.TermKind.TheVariants.{Constant, Variable}
use Rattle.cq_atom.specs.Text.{begins_with_upper, begins_with_lower}
use Rattle.cq_atom.specs.Value.{ValueContent}
use Rattle.cq_atom.specs.Atom.{TermContent, AtomRecord, RowRecord}
use Rattle.cq_atom.specs.Query.{QueryRecord}
use Rattle.cq_text.specs.declared.fault.Kind.TheVariants.{Shape}
use Rattle.cq_text.specs.declared.fault.TextFault.{TextFault}
use Rattle.cq_text.specs.declared.command.CommandKind.TheVariants.{Blank, Setup, Edit, Publish, Show}
use Rattle.cq_text.specs.declared.command.SetupLine.TheVariants.{Relation, Board, Limits}
use Rattle.cq_atom.specs.declared.edit.EditKind.TheVariants.{Post, Withdraw, Insert, Delete}
use Rattle.cq_text.specs.Limits.{max_count, max_form}
use Rattle.cq_text.specs.declared.token.Sign.{Sign}
use Rattle.cq_text.specs.declared.token.Sign.TheVariants.{OpenBrace, CloseBrace, OpenParen, CloseParen, Comma, Arrow}
use Rattle.cq_text.specs.declared.token.Close.{Close}
use Rattle.cq_text.specs.declared.token.Close.TheVariants.{By, End}
use Rattle.cq_text.specs.declared.token.Token.TheVariants.{Mark, Word, Literal, Finish}
use Rattle.cq_text.specs.Token.{TokenContent, LexemeContent, flaw, tokens_of}
use Rattle.cq_text.specs.Grammar.{count_of, IsConstant, IsRowText, CommandContent, Separated, IsTermText, IsAtomText, AreAtomsIfAny, IsQueryText, FewTerms, FitsQuery, FitsGrammar}
use Rattle.cq_text.specs.Steps.Lexemes.{value_in, Ahead, fault, ◌>>=◌, next_of, next_at, is_sign, is_finish, relation_in, term_in, sign_at, end_at, is_close, goes_on_at}
use Rattle.cq_text.specs.Steps.Lists.{value_at, values_at, row_at, Item, listed_at, term_at, terms_at, applied_at, atom_at, atoms_at, atoms_if_any_at}
use Rattle.cq_text.specs.Steps.Commands.{count_at, relation_at, limits_at, withdraw_at, insert_at, delete_at, word_alone, board_at}
use Rattle.cq_text.proofs.Derive.{is_sign-same}
use Rattle.cq_text.proofs.Runs.{parts_at, posted, whole, post_parts, command_parts}
use Rattle.cq_text.proofs.Taken.{AreShort, ahead, closing}
use Rattle.cq_text.specs.declared.form.Form.{Form}
use Rattle.cq_text.specs.Forms.{most_terms, most_atoms, number_of_form}
use Rattle.cq_text.specs.declared.form.Form.TheVariants as forms

pub AreShort-append : (a b : List TokenContent) → AreShort (a ++ b) → AreShort a × AreShort b
AreShort-append [] b h = (tt, h)
AreShort-append (t ∷ a) b h = let r = AreShort-append a b h.1 in ((h.0, r.0), r.1)

-- the next token
pub record Next (a : Ahead) (t : TokenContent) (ts : List TokenContent) : Type 0 where
  pub lexeme : LexemeContent
  pub rest : Ahead
  pub reads : next_at a ≡ Ok (lexeme, rest)
  pub is : lexeme.token ≡ t
  pub left : ahead rest ≡ ts

next_is : (a : Ahead) (t : TokenContent) (ts : List TokenContent) → ahead a ≡ t ∷ ts → flaw t ≡ None → Next a t ts
unfolding next_at
next_is a t ts e f = over a.lexemes refl e
  where
    over : (ls : List LexemeContent) → a.lexemes ≡ ls → tokens_of ls ≡ t ∷ ts → Next a t ts
    over [] d e = absurd cc
    over (l ∷ ls) d e =
        let h : l.token ≡ t = cc in
        record { lexeme = l; rest = record { lexemes = ls; end = a.end }; reads = rw (d, h, f) refl; is = h; left = cc }

end_is : (a : Ahead) → ahead a ≡ [] → (b : Ahead) × (end_at a ≡ Ok b)
unfolding end_at next_at
end_is a e = over a.lexemes refl e
  where
    over : (ls : List LexemeContent) → a.lexemes ≡ ls → tokens_of ls ≡ [] → (b : Ahead) × ((next_of a.lexemes a.end >>= λ l. cond (is_finish l.0.token) (Ok l.1) (fault Shape l.0.at)) ≡ Ok b)
    over [] d e = (record { lexemes = []; end = a.end }, rw d refl)
    over (l ∷ ls) d e = absurd cc

sign_is : (s : Sign) (a : Ahead) (ts : List TokenContent) → ahead a ≡ Mark s ∷ ts → (b : Ahead) × (sign_at s a ≡ Ok b) × (ahead b ≡ ts)
unfolding sign_at
sign_is s a ts e = let n = next_is a (Mark s) ts e refl in (n.rest, rw (n.reads, n.is, is_sign-same s) refl, n.left)

-- ---- lists

-- what an item gives, and what is left
abbrev GivesItem : {A : Type 0} → Result (A × Bool × Ahead) TextFault → A → Bool → List TokenContent → Type 0
GivesItem r x more ts = (b : Ahead) × (r ≡ Ok (x, more, b)) × (ahead b ≡ ts)

abbrev pub GivesList : {A : Type 0} → Result (List A × Ahead) TextFault → List A → List TokenContent → Type 0
GivesList r xs ts = (b : Ahead) × (r ≡ Ok (xs, b)) × (ahead b ≡ ts)

-- an item is read again, and the last one where these tokens stand after it and those are left
record ReadsUpTo {A : Type 0} (P : List TokenContent → A → Type 0) (Q : A → Type 0) (item : Item A) (done rest : List TokenContent) : Type 0 where
  pub more : (a : Ahead) (front ts : List TokenContent) (x : A) → ahead a ≡ front ++ (Mark Comma ∷ ts) → P front x → AreShort front → Q x → GivesItem (item true a) x true ts
  pub last : (a : Ahead) (front : List TokenContent) (x : A) → ahead a ≡ front ++ done → P front x → AreShort front → Q x → GivesItem (item true a) x false rest

listed_up_to : {A : Type 0} (P : List TokenContent → A → Type 0) (Q : A → Type 0) (item : Item A) (n : ℕ) (xs : List A) (inner done rest : List TokenContent) (a : Ahead)
    → ReadsUpTo P Q item done rest → ahead a ≡ inner ++ done → Separated P inner xs → AreShort inner → length xs ≤ n → AllByRecursion Q xs → GivesList (listed_at item n a) xs rest
unfolding listed_at
listed_up_to P Q item n [] inner done rest a one e p h le fits = absurd p
listed_up_to P Q item zero (x ∷ xs) inner done rest a one e p h le fits = let never : ⊥ = omega arith in absurd never
listed_up_to P Q item (suc n) (x ∷ []) inner done rest a one e p h le fits =
    let g = one.last a inner x e p h fits.0 in
    (g.0, rw g.1 refl, g.2)
listed_up_to P Q item (suc n) (x ∷ y ∷ xs) inner done rest a one e (f, r, d, p, q) h le fits =
    let both = AreShort-append f (Mark Comma ∷ r) (subst AreShort d h) in
    let g = one.more a f (r ++ done) x (e ∙ ap (λ (i : List TokenContent). i ++ done) d ∙ append_assoc f (Mark Comma ∷ r) done) p both.0 fits.0 in
    let i = listed_up_to P Q item n (y ∷ xs) r done rest g.0 one g.2 q both.1.1 (omega arith) fits.1 in
    (i.0, rw (g.1, i.1) refl, i.2)

abbrev ReadsItems : {A : Type 0} → (List TokenContent → A → Type 0) → (A → Type 0) → Sign → Item A → Type 0
ReadsItems {A} P Q close item = (a : Ahead) (front ts : List TokenContent) (x : A) (more : Bool) → ahead a ≡ front ++ (Mark (cond more Comma close) ∷ ts) → P front x → AreShort front → Q x → GivesItem (item true a) x more ts

-- the same where a sign closes
listed_again : {A : Type 0} (P : List TokenContent → A → Type 0) (Q : A → Type 0) (close : Sign) (item : Item A) (n : ℕ) (xs : List A) (inner rest : List TokenContent) (a : Ahead)
    → ReadsItems P Q close item → ahead a ≡ inner ++ (Mark close ∷ rest) → Separated P inner xs → AreShort inner → length xs ≤ n → AllByRecursion Q xs → GivesList (listed_at item n a) xs rest
listed_again P Q close item n xs inner rest a one e p h le fits =
    listed_up_to P Q item n xs inner (Mark close ∷ rest) rest a (record { more = λ b front ts x. one b front ts x true; last = λ b front x. one b front rest x false }) e p h le fits

-- close is no comma
record IsClose (close : Sign) : Type 0 where
  pub apart : is_sign Comma (Mark close) ≡ false

goes_on_again : (close : Sign) (a : Ahead) (more : Bool) (ts : List TokenContent) → IsClose close → ahead a ≡ Mark (cond more Comma close) ∷ ts → (b : Ahead) × (goes_on_at (By close) a ≡ Ok (more, b)) × (ahead b ≡ ts)
unfolding goes_on_at
goes_on_again close a true ts k e = let n = next_is a (Mark Comma) ts e refl in (n.rest, rw (n.reads, n.is) refl, n.left)
goes_on_again close a false ts k e = let n = next_is a (Mark close) ts e refl in (n.rest, rw (n.reads, n.is, k.apart, is_sign-same close) refl, n.left)

-- what closes a list is no comma
abbrev Closable : Close → Type 0
Closable (By s) = IsClose s
Closable End = Unit {0}

-- what is left after what closes
abbrev left_by : Close → List TokenContent → List TokenContent
left_by (By s) ts = ts
left_by End ts = []

goes_on_more : (close : Close) (a : Ahead) (ts : List TokenContent) → ahead a ≡ Mark Comma ∷ ts → (b : Ahead) × (goes_on_at close a ≡ Ok (true, b)) × (ahead b ≡ ts)
unfolding goes_on_at
goes_on_more close a ts e = let n = next_is a (Mark Comma) ts e refl in (n.rest, rw (n.reads, n.is) refl, n.left)

next_nothing : (a : Ahead) → ahead a ≡ [] → (l : LexemeContent) × (b : Ahead) × (next_at a ≡ Ok (l, b)) × (l.token ≡ Finish) × (ahead b ≡ [])
unfolding next_at
next_nothing a e = over a.lexemes refl e
  where
    over : (ls : List LexemeContent) → a.lexemes ≡ ls → tokens_of ls ≡ [] → (l : LexemeContent) × (b : Ahead) × (next_of a.lexemes a.end ≡ Ok (l, b)) × (l.token ≡ Finish) × (ahead b ≡ [])
    over [] d e = (record { at = a.end; token = Finish }, record { lexemes = []; end = a.end }, rw d refl, refl, refl)
    over (l ∷ ls) d e = absurd cc

goes_on_last : (close : Close) (a : Ahead) (ts : List TokenContent) → Closable close → ahead a ≡ closing close ts → (b : Ahead) × (goes_on_at close a ≡ Ok (false, b)) × (ahead b ≡ left_by close ts)
unfolding goes_on_at
goes_on_last (By close) a ts k e = goes_on_again close a false ts k e
goes_on_last End a ts k e = let n = next_nothing a e in (n.1, rw (n.2, n.3) refl, n.4)

-- ---- terms

-- one token that a term is
record One (front : List TokenContent) (x : TermContent) : Type 0 where
  pub token : TokenContent
  pub is : front ≡ token ∷ []
  pub good : flaw token ≡ None
  pub gives : (at : ℕ) → term_in token at ≡ Ok x

pub lower_not_upper : (w : List ℕ) → begins_with_lower w ≡ true → begins_with_upper w ≡ false
lower_not_upper [] e = absurd cc
lower_not_upper (b ∷ w) e = grind (arith, nat_tests)

term_is : (front : List TokenContent) (x : TermContent) → IsTermText front x → AreShort front → One front x
term_is front (Constant (Number n)) e h = record { token = Literal (Number n); is = e; good = refl; gives = λ at. refl }
term_is front (Constant (Text w)) (inl e) h = record { token = Literal (Text w); is = e; good = refl; gives = λ at. refl }
term_is front (Constant (Text w)) (inr (e, u)) h =
    let s = subst AreShort e h in
    record { token = Word w; is = e; good = refl; gives = λ at. rw (u, le-ltb 32 (length w) s.0) refl }
term_is front (Variable w) (e, u) h =
    let s = subst AreShort e h in
    record { token = Word w; is = e; good = refl; gives = λ at. rw (lower_not_upper w u, u, le-ltb 32 (length w) s.0) refl }

abbrev AnyTerm : TermContent → Type 0
AnyTerm x = Unit {0}

term_again : ReadsItems IsTermText AnyTerm CloseParen term_at
unfolding term_at
term_again a front ts x more e p h fits =
    let o = term_is front x p h in
    let n = next_is a o.token (Mark (cond more Comma CloseParen) ∷ ts) (e ∙ ap (λ (i : List TokenContent). i ++ (Mark (cond more Comma CloseParen) ∷ ts)) o.is) o.good in
    let m = goes_on_again CloseParen n.rest more ts (record { apart = refl }) n.left in
    (m.0, rw (n.reads, n.is, o.gives n.lexeme.at, m.1) refl, m.2)

all_terms : (xs : List TermContent) → AllByRecursion AnyTerm xs
all_terms [] = tt
all_terms (x ∷ xs) = (tt, all_terms xs)

terms_again : (form : Form) → (xs : List TermContent) (inner rest : List TokenContent) (a : Ahead) → ahead a ≡ inner ++ (Mark CloseParen ∷ rest) → Separated IsTermText inner xs → AreShort inner → length xs ≤ most_terms form → GivesList (terms_at form a) xs rest
unfolding terms_at
terms_again form xs inner rest a e p h le = listed_again IsTermText AnyTerm CloseParen term_at (most_terms form) xs inner rest a term_again e p h le (all_terms xs)

-- ---- ground atoms

-- one token that a constant is
record OneValue (front : List TokenContent) (v : ValueContent) : Type 0 where
  pub token : TokenContent
  pub is : front ≡ token ∷ []
  pub good : flaw token ≡ None
  pub gives : (at : ℕ) → value_in token at ≡ Ok v

value_is : (front : List TokenContent) (v : ValueContent) → IsConstant front v → AreShort front → OneValue front v
value_is front (Number n) e h = record { token = Literal (Number n); is = e; good = refl; gives = λ at. refl }
value_is front (Text w) (inl e) h = record { token = Literal (Text w); is = e; good = refl; gives = λ at. refl }
value_is front (Text w) (inr (e, u)) h =
    let s = subst AreShort e h in
    record { token = Word w; is = e; good = refl; gives = λ at. rw (u, le-ltb 32 (length w) s.0) refl }

abbrev AnyValue : ValueContent → Type 0
AnyValue v = Unit {0}

value_again : ReadsItems IsConstant AnyValue CloseParen value_at
unfolding value_at
value_again a front ts v more e p h fits =
    let o = value_is front v p h in
    let n = next_is a o.token (Mark (cond more Comma CloseParen) ∷ ts) (e ∙ ap (λ (i : List TokenContent). i ++ (Mark (cond more Comma CloseParen) ∷ ts)) o.is) o.good in
    let m = goes_on_again CloseParen n.rest more ts (record { apart = refl }) n.left in
    (m.0, rw (n.reads, n.is, o.gives n.lexeme.at, m.1) refl, m.2)

all_values : (vs : List ValueContent) → AllByRecursion AnyValue vs
all_values [] = tt
all_values (v ∷ vs) = (tt, all_values vs)

values_again : (form : Form) → (vs : List ValueContent) (inner rest : List TokenContent) (a : Ahead) → ahead a ≡ inner ++ (Mark CloseParen ∷ rest) → Separated IsConstant inner vs → AreShort inner → length vs ≤ most_terms form → GivesList (values_at form a) vs rest
unfolding values_at
values_again form vs inner rest a e p h le = listed_again IsConstant AnyValue CloseParen value_at (most_terms form) vs inner rest a value_again e p h le (all_values vs)

-- ---- atoms

applied_again : (form : Form) → (x : AtomRecord) (inner rest : List TokenContent) (a : Ahead) → ahead a ≡ Mark OpenParen ∷ (inner ++ (Mark CloseParen ∷ rest)) → Separated IsTermText inner x.terms → AreShort inner → FewTerms form x → (b : Ahead) × (applied_at form x.relation a ≡ Ok (x, b)) × (ahead b ≡ rest)
unfolding applied_at
applied_again form x inner rest a e p h le =
    let s = sign_is OpenParen a (inner ++ (Mark CloseParen ∷ rest)) e in
    let t = terms_again form x.terms inner rest s.0 s.2 p h le in
    (t.0, rw (s.1, t.1) refl, t.2)

relation_again : (w : List ℕ) (at : ℕ) → begins_with_upper w ≡ true → length w ≤ 32 → relation_in (Word w) at ≡ Ok w
relation_again w at u h = rw (u, le-ltb 32 (length w) h) refl

pub row_again : (form : Form) → (a : Ahead) (row : RowRecord) → IsRowText (ahead a) row → AreShort (ahead a) → length row.values ≤ most_terms form → row_at form a ≡ Ok row
unfolding row_at
row_again form a row (inner, d, u, sep) short few =
    let s = subst AreShort d short in
    let ends = AreShort-append inner (Mark CloseParen ∷ []) s.1.1 in
    let n = next_is a (Word row.relation) (Mark OpenParen ∷ (inner ++ (Mark CloseParen ∷ []))) d refl in
    let o = sign_is OpenParen n.rest (inner ++ (Mark CloseParen ∷ [])) n.left in
    let v = values_again form row.values inner [] o.0 o.2 sep ends.0 few in
    let e = end_is v.0 v.2 in
    rw (n.reads, n.is, relation_again row.relation n.lexeme.at u s.0, o.1, v.1, e.1) refl

-- ---- counts

count_again : (most : ℕ) (a : Ahead) (n : ℤ) (ts : List TokenContent) → ahead a ≡ Literal (Number n) ∷ ts → 1 ≤ count_of n → count_of n ≤ most → (b : Ahead) × (count_at most a ≡ Ok (count_of n, b)) × (ahead b ≡ ts)
unfolding count_at
count_again most a n ts e some few =
    let l = next_is a (Literal (Number n)) ts e refl in
    (l.rest, rw (l.reads, l.is, le-leb 1 (count_of n) some, le-leb (count_of n) most few) refl, l.left)

relation_again_at : (form : Form) → (a : Ahead) (w : List ℕ) (n : ℤ) → ahead a ≡ Word w ∷ Literal (Number n) ∷ [] → begins_with_upper w ≡ true → length w ≤ 32 → 1 ≤ count_of n → count_of n ≤ most_terms form → relation_at form a ≡ Ok (Setup (Relation w (count_of n)))
unfolding relation_at
relation_again_at form a w n e u short some few =
    let l = next_is a (Word w) (Literal (Number n) ∷ []) e refl in
    let k = count_again (most_terms form) l.rest n [] l.left some few in
    let f = end_is k.0 k.2 in
    rw (l.reads, l.is, relation_again w l.lexeme.at u short, k.1, f.1) refl

board_again : (a : Ahead) (named : Form) → ahead a ≡ Literal (Number (pos (number_of_form named))) ∷ [] → board_at a ≡ Ok (Setup (Board named))
unfolding board_at
board_again a forms.One e =
    let k = count_again max_form a (pos 1) [] e (omega arith) (omega arith) in
    let f = end_is k.0 k.2 in
    rw (k.1, f.1) refl
board_again a forms.Two e =
    let k = count_again max_form a (pos 2) [] e (omega arith) (omega arith) in
    let f = end_is k.0 k.2 in
    rw (k.1, f.1) refl

limits_again : (a : Ahead) (m n : ℤ) → ahead a ≡ Literal (Number m) ∷ Literal (Number n) ∷ [] → 1 ≤ count_of m → count_of m ≤ max_count → 1 ≤ count_of n → count_of n ≤ max_count → limits_at a ≡ Ok (Setup (Limits (count_of m) (count_of n)))
unfolding limits_at
limits_again a m n e some few more fewer =
    let j = count_again max_count a m (Literal (Number n) ∷ []) e some few in
    let k = count_again max_count j.0 n [] j.2 more fewer in
    let f = end_is k.0 k.2 in
    rw (j.1, k.1, f.1) refl

-- ---- atoms in lists

-- an atom is read again, whatever stands after it that shows whether more come
atom_with : (form : Form) → (close : Close) (a : Ahead) (front next : List TokenContent) (x : AtomRecord) (more : Bool) (ts : List TokenContent) → ((c : Ahead) → ahead c ≡ next → (b : Ahead) × (goes_on_at close c ≡ Ok (more, b)) × (ahead b ≡ ts))
    → ahead a ≡ front ++ next → IsAtomText front x → AreShort front → FewTerms form x → GivesItem (atom_at form close true a) x more ts
unfolding atom_at
atom_with form close a front next x more ts shows e (inner, d, u, sep) h fits =
    let s = subst AreShort d h in
    let ends = AreShort-append inner (Mark CloseParen ∷ []) s.1.1 in
    let n = next_is a (Word x.relation) (Mark OpenParen ∷ (inner ++ (Mark CloseParen ∷ next))) (e ∙ ap (λ (i : List TokenContent). i ++ next) d ∙ ap (λ (i : List TokenContent). Word x.relation ∷ Mark OpenParen ∷ i) (append_assoc inner (Mark CloseParen ∷ []) next)) refl in
    let y = applied_again form x inner next n.rest n.left sep ends.0 fits in
    let m = shows y.0 y.2 in
    (m.0, rw (n.reads, n.is, relation_again x.relation n.lexeme.at u s.0, y.1, m.1) refl, m.2)

atom_again : (form : Form) → (close : Close) (ts : List TokenContent) → Closable close → ReadsUpTo IsAtomText (FewTerms form) (atom_at form close) (closing close ts) (left_by close ts)
atom_again form close ts k = record {
  more = λ a front rest x. atom_with form close a front (Mark Comma ∷ rest) x true rest (λ c. goes_on_more close c rest);
  last = λ a front x. atom_with form close a front (closing close ts) x false (left_by close ts) (λ c. goes_on_last close c ts k);
}

atoms_again : (form : Form) → (close : Close) (xs : List AtomRecord) (inner rest : List TokenContent) (a : Ahead) → Closable close → ahead a ≡ inner ++ closing close rest → Separated IsAtomText inner xs → AreShort inner → length xs ≤ most_atoms form → AllByRecursion (FewTerms form) xs → GivesList (atoms_at form close a) xs (left_by close rest)
unfolding atoms_at
atoms_again form close xs inner rest a k e p h le fits = listed_up_to IsAtomText (FewTerms form) (atom_at form close) (most_atoms form) xs inner (closing close rest) (left_by close rest) a (atom_again form close rest k) e p h le fits

-- atoms begin with a word
begins_word : (xs : List AtomRecord) (inner rest : List TokenContent) → Separated IsAtomText inner xs → (w : List ℕ) × (more : List TokenContent) × (inner ++ rest ≡ Word w ∷ more)
begins_word [] inner rest p = absurd p
begins_word (x ∷ []) inner rest (i, d, u, sep) = (x.relation, _, ap (λ (l : List TokenContent). l ++ rest) d)
begins_word (x ∷ y ∷ xs) inner rest (f, r, d, (i, e, u, sep), q) = (x.relation, _, ap (λ (l : List TokenContent). l ++ rest) (d ∙ ap (λ (l : List TokenContent). l ++ (Mark Comma ∷ r)) e))

no_close : (close : Close) (t : TokenContent) (w : List ℕ) → t ≡ Word w → is_close close t ≡ false
no_close (By s) t w e = ap (is_sign s) e
no_close End t w e = ap is_finish e

closed_at_once : (form : Form) → (close : Close) (a : Ahead) (rest : List TokenContent) → ahead a ≡ closing close rest → GivesList (atoms_if_any_at form close a) [] (left_by close rest)
unfolding atoms_if_any_at
closed_at_once form (By s) a rest e = let n = next_is a (Mark s) rest e refl in (n.rest, rw (n.reads, n.is, is_sign-same s) refl, n.left)
closed_at_once form End a rest e = let n = next_nothing a e in (n.1, rw (n.2, n.3) refl, n.4)

atoms_if_any_again : (form : Form) → (close : Close) (xs : List AtomRecord) (inner rest : List TokenContent) (a : Ahead) → Closable close → ahead a ≡ inner ++ closing close rest → AreAtomsIfAny inner xs → AreShort inner → length xs ≤ most_atoms form → AllByRecursion (FewTerms form) xs → GivesList (atoms_if_any_at form close a) xs (left_by close rest)
unfolding atoms_if_any_at
atoms_if_any_again form close [] inner rest a k e p h le fits = closed_at_once form close a rest (e ∙ ap (λ (i : List TokenContent). i ++ closing close rest) p)
atoms_if_any_again form close (x ∷ xs) inner rest a k e p h le fits =
    let b = begins_word (x ∷ xs) inner (closing close rest) p in
    let n = next_is a (Word b.0) b.1 (e ∙ b.2) refl in
    let i = atoms_again form close (x ∷ xs) inner rest a k e p h le fits in
    (i.0, rw (n.reads, no_close close n.lexeme.token b.0 n.is, i.1) refl, i.2)

-- ---- queries and commands

-- a query that fits the grammar is read as its parts
pub parts_again : (form : Form) → (a : Ahead) (query : QueryRecord) → IsQueryText (ahead a) query → AreShort (ahead a) → FitsQuery form query → (inner : Ahead) × (parts_at form a ≡ Ok (query.posts, query.heads, query.body, inner))
unfolding parts_at
parts_again form a query (ps, hs, bs, e, p, h, b) short fits =
    let s = subst AreShort e short in
    let sp = AreShort-append ps (Mark CloseBrace ∷ (hs ++ (Mark Arrow ∷ bs))) s.1 in
    let sh = AreShort-append hs (Mark Arrow ∷ bs) sp.1.1 in
    let o = sign_is OpenBrace a (ps ++ (Mark CloseBrace ∷ (hs ++ (Mark Arrow ∷ bs)))) e in
    let x = atoms_if_any_again form (By CloseBrace) query.posts ps (hs ++ (Mark Arrow ∷ bs)) o.0 (record { apart = refl }) o.2 p sp.0 fits.0 fits.3 in
    let y = atoms_again form (By Arrow) query.heads hs bs x.0 (record { apart = refl }) x.2 h sh.0 fits.1 fits.4 in
    let z = atoms_if_any_again form End query.body bs [] y.0 tt (y.2 ∙ sym (append-nil bs)) b sh.1.1 fits.2 fits.5 in
    (o.0, rw (o.1, x.1, y.1, z.1) refl)

-- the parts that a command is read as
abbrev pub ReadAs : (form : Form) → Ahead → CommandContent → Type 0
ReadAs form a Blank = ⊥
ReadAs form a (Setup (Relation n c)) = command_parts form a ≡ Ok (whole (Setup (Relation n c)))
ReadAs form a (Setup (Board named)) = command_parts form a ≡ Ok (whole (Setup (Board named)))
ReadAs form a (Setup (Limits p j)) = command_parts form a ≡ Ok (whole (Setup (Limits p j)))
ReadAs form a (Edit (Post w query)) = (inner : Ahead) × (command_parts form a ≡ Ok (posted w (query.posts, query.heads, query.body, inner)))
ReadAs form a (Edit (Withdraw n)) = command_parts form a ≡ Ok (whole (Edit (Withdraw n)))
ReadAs form a (Edit (Insert row)) = command_parts form a ≡ Ok (whole (Edit (Insert row)))
ReadAs form a (Edit (Delete row)) = command_parts form a ≡ Ok (whole (Edit (Delete row)))
ReadAs form a Publish = command_parts form a ≡ Ok (whole Publish)
ReadAs form a Show = command_parts form a ≡ Ok (whole Show)

pub command_again : (form : Form) → (a : Ahead) (c : CommandContent) → FitsGrammar form a.lexemes c → ReadAs form a c
unfolding command_parts post_parts withdraw_at insert_at delete_at word_alone
command_again form a Blank f = absurd f.sentence
command_again form a (Setup (Relation w c)) f =
    let n = f.sentence.0 in
    let is = f.sentence.3 in
    let s = subst AreShort f.sentence.1 f.short in
    let l = next_is a (Word (codes "relation")) (Word w ∷ Literal (Number n) ∷ []) f.sentence.1 refl in
    let r = relation_again_at form l.rest w n l.left f.sentence.2 s.1.0 (subst (λ (k : ℕ). 1 ≤ k) is f.fits.0) (subst (λ (k : ℕ). k ≤ most_terms form) is f.fits.1) in
    rw (l.reads, l.is, r) (ap (λ (k : ℕ). Ok (whole (Setup (Relation w k)))) (sym is))
command_again form a (Setup (Board named)) f =
    let l = next_is a (Word (codes "board")) (Literal (Number (pos (number_of_form named))) ∷ []) f.sentence refl in
    let r = board_again l.rest named l.left in
    rw (l.reads, l.is, r) refl
command_again form a (Setup (Limits p j)) f =
    let m = f.sentence.0 in
    let n = f.sentence.1 in
    let one = f.sentence.3 in
    let two = f.sentence.4 in
    let l = next_is a (Word (codes "limits")) (Literal (Number m) ∷ Literal (Number n) ∷ []) f.sentence.2 refl in
    let r = limits_again l.rest m n l.left (subst (λ (k : ℕ). 1 ≤ k) one f.fits.0) (subst (λ (k : ℕ). k ≤ max_count) one f.fits.1) (subst (λ (k : ℕ). 1 ≤ k) two f.fits.2) (subst (λ (k : ℕ). k ≤ max_count) two f.fits.3) in
    rw (l.reads, l.is, r) (ap (λ (k : ℕ). Ok (whole (Setup (Limits k (count_of n))))) (sym one) ∙ ap (λ (k : ℕ). Ok (whole (Setup (Limits p k)))) (sym two))
command_again form a (Edit (Post w query)) f =
    let rest = f.sentence.0 in
    let s = subst AreShort f.sentence.1 f.short in
    let n = next_is a (Word (codes "post")) (Word w ∷ rest) f.sentence.1 refl in
    let m = next_is n.rest (Word w) rest n.left refl in
    let q = parts_again form m.rest query (subst (λ (ts : List TokenContent). IsQueryText ts query) (sym m.left) f.sentence.2) (subst AreShort (sym m.left) s.1.1) f.fits in
    (q.0, rw (n.reads, n.is, m.reads, m.is, le-ltb 32 (length w) s.1.0, q.1) refl)
command_again form a (Edit (Withdraw w)) f =
    let s = subst AreShort f.sentence f.short in
    let n = next_is a (Word (codes "withdraw")) (Word w ∷ []) f.sentence refl in
    let m = next_is n.rest (Word w) [] n.left refl in
    let e = end_is m.rest m.left in
    rw (n.reads, n.is, m.reads, m.is, le-ltb 32 (length w) s.1.0, e.1) refl
command_again form a (Edit (Insert row)) f =
    let rest = f.sentence.0 in
    let s = subst AreShort f.sentence.1 f.short in
    let n = next_is a (Word (codes "insert")) rest f.sentence.1 refl in
    let r = row_again form n.rest row (subst (λ (ts : List TokenContent). IsRowText ts row) (sym n.left) f.sentence.2) (subst AreShort (sym n.left) s.1) f.fits in
    rw (n.reads, n.is, r) refl
command_again form a (Edit (Delete row)) f =
    let rest = f.sentence.0 in
    let s = subst AreShort f.sentence.1 f.short in
    let n = next_is a (Word (codes "delete")) rest f.sentence.1 refl in
    let r = row_again form n.rest row (subst (λ (ts : List TokenContent). IsRowText ts row) (sym n.left) f.sentence.2) (subst AreShort (sym n.left) s.1) f.fits in
    rw (n.reads, n.is, r) refl
command_again form a Publish f =
    let n = next_is a (Word (codes "publish")) [] f.sentence refl in
    let e = end_is n.rest n.left in
    rw (n.reads, n.is, e.1) refl
command_again form a Show f =
    let n = next_is a (Word (codes "show")) [] f.sentence refl in
    let e = end_is n.rest n.left in
    rw (n.reads, n.is, e.1) refl
