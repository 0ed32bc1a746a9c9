-- A symbol stands for a token and more exactly where the symbols that it leaves stand for more.
use Rattle.std.proofs.Common.{◌≡◌, ℕ, zero, suc, Bool, true, false, cond, List, [], ◌∷◌, ◌++◌, Option, Some, None, option_map, refl, sym, ap, subst, ◌∙◌, append_assoc, inl, inr, ◌⊎◌, pos}
use Rattle.std.specs.Prelude.{codes, ◌||◌, ◌&&◌}
use Rattle.std.proofs.lemmas.Bool.{eqb-true}
use Rattle.std.proofs.lemmas.List.{append-nil}
use Rattle.cq_atom.specs.declared.value.Content.TheVariants.{Number, Text}
use Rattle.cq_atom.specs.declared.term.TermKind.TheVariants.{Constant, Variable}
use Rattle.cq_atom.specs.Text.{begins_with_upper, begins_with_lower}
use Rattle.cq_atom.specs.Value.{ValueContent}
use Rattle.cq_atom.specs.Atom.{TermContent, AtomRecord}
use Rattle.cq_text.specs.declared.command.CommandKind.TheVariants.{Blank, Setup, Edit, Publish, Show}
use Rattle.cq_text.specs.declared.command.SetupLine.TheVariants.{Relation, Board, Limits}
use Rattle.cq_atom.specs.declared.edit.EditKind.TheVariants.{Post, Withdraw, Insert, Delete}
use Rattle.cq_text.specs.declared.command.CommandWord.{CommandWord}
use Rattle.cq_text.specs.declared.command.CommandWord.TheVariants as words
use Rattle.cq_text.specs.declared.token.Sign.{Sign}
use Rattle.cq_text.specs.declared.token.Sign.TheVariants.{OpenBrace, CloseBrace, OpenParen, CloseParen, Comma, Arrow}
use Rattle.cq_text.specs.declared.token.Token.TheVariants.{Mark, Word, Literal, Bad, Finish}
use Rattle.cq_text.specs.Token.{TokenContent, flaw}
use Rattle.cq_text.specs.Grammar.{CommandContent, IsConstant, IsTermText, IsAtomText, AreAtomsIfAny, IsSentence, count_of, Separated}
use Rattle.cq_text.specs.Fault.{IsCommandText, IsLoneQuery, IsLoneRow}
use Rattle.cq_text.specs.Steps.Commands.{command_word, bytes_of}
use Rattle.cq_text.specs.Steps.Lexemes.{code, is_sign, is_finish}
use Rattle.cq_text.proofs.Commands.{command_word-is}
use Rattle.cq_text.proofs.Machine.{upper, number, value, values_end, row_symbols, after_command, first_upper, first_number, first_value, Symbol, mark, name, term, terms_end, atom, posts_end, heads_end, posts, command, atom_symbols, query_symbols, when, first_of_atom, first_term, first_name, first_in_list, first_command, first, take_token, Closed, Tail, Is, Expects, Expects-append, Expects-split, body_end, body, is_nullable, Rest, Holds, OnlyLast, Ordered, is_last}
use Rattle.cq_text.specs.Forms.{number_of_form}

-- ---- tests

abbrev decoded : ℕ → Sign
decoded zero = OpenBrace
decoded (suc zero) = CloseBrace
decoded (suc (suc zero)) = OpenParen
decoded (suc (suc (suc zero))) = CloseParen
decoded (suc (suc (suc (suc zero)))) = Comma
decoded (suc (suc (suc (suc (suc n))))) = Arrow

decoded-code : (s : Sign) → decoded (code s) ≡ s
decoded-code OpenBrace = refl
decoded-code CloseBrace = refl
decoded-code OpenParen = refl
decoded-code CloseParen = refl
decoded-code Comma = refl
decoded-code Arrow = refl

pub is_sign-same : (s : Sign) → is_sign s (Mark s) ≡ true
is_sign-same OpenBrace = refl
is_sign-same CloseBrace = refl
is_sign-same OpenParen = refl
is_sign-same CloseParen = refl
is_sign-same Comma = refl
is_sign-same Arrow = refl

pub is_sign-true : (s : Sign) (t : TokenContent) → is_sign s t ≡ true → t ≡ Mark s
is_sign-true s (Mark r) e = ap Mark (sym (decoded-code r) ∙ ap decoded (sym (eqb-true (code s) (code r) e)) ∙ decoded-code s)
is_sign-true s (Word w) e = absurd cc
is_sign-true s (Literal v) e = absurd cc
is_sign-true s (Bad kind) e = absurd cc
is_sign-true s Finish e = absurd cc

pub or_right : (a b : Bool) → b ≡ true → (a || b) ≡ true
or_right true b e = refl
or_right false b e = e

pub when_some : (b : Bool) (ss r : List Symbol) → when b ss ≡ Some r → (b ≡ true) × (ss ≡ r)
when_some true ss r e = (refl, cc)
when_some false ss r e = absurd cc

pub cond_when : (b c : Bool) (ss rs r : List Symbol) → cond b (Some ss) (when c rs) ≡ Some r → ((b ≡ true) × (ss ≡ r)) ⊎ ((b ≡ false) × (c ≡ true) × (rs ≡ r))
cond_when true c ss rs r e = inl (refl, cc)
cond_when false true ss rs r e = inr (refl, refl, cc)
cond_when false false ss rs r e = absurd cc

-- ---- lists that a sign closes

pub Closed-split : {A : Type 0} (P : List TokenContent → A → Type 0) (close : Sign) (ts : List TokenContent) → Closed P close ts → (front : List TokenContent) × (rest : List TokenContent) × (x : A) × (ts ≡ front ++ rest) × P front x × Tail P close rest
Closed-split P close ts (inner, [], e, p) = absurd p
Closed-split P close ts (inner, x ∷ [], e, p) = (inner, Mark close ∷ [], x, e, p, inl refl)
Closed-split P close ts (inner, x ∷ y ∷ xs, e, (f, r, d, p, q)) =
    (f, Mark Comma ∷ (r ++ (Mark close ∷ [])), x, e ∙ ap (λ (i : List TokenContent). i ++ (Mark close ∷ [])) d ∙ append_assoc f (Mark Comma ∷ r) (Mark close ∷ []), p, inr (r ++ (Mark close ∷ []), refl, (r, y ∷ xs, refl, q)))

pub Closed-join : {A : Type 0} (P : List TokenContent → A → Type 0) (close : Sign) (front rest : List TokenContent) (x : A) → P front x → Tail P close rest → Closed P close (front ++ rest)
Closed-join P close front rest x p (inl e) = (front, x ∷ [], ap (λ (r : List TokenContent). front ++ r) e, p)
Closed-join P close front rest x p (inr (i, e, (inner, [], d, q))) = absurd q
Closed-join P close front rest x p (inr (i, e, (inner, y ∷ ys, d, q))) =
    (front ++ (Mark Comma ∷ inner), x ∷ y ∷ ys, ap (λ (r : List TokenContent). front ++ r) (e ∙ ap (λ (r : List TokenContent). Mark Comma ∷ r) d) ∙ sym (append_assoc front (Mark Comma ∷ inner) (Mark close ∷ [])), (front, inner, refl, p, q))

-- ---- lists up to the end

Rest-split : {A : Type 0} (P : List TokenContent → A → Type 0) (ts : List TokenContent) (xs : List A) → Separated P ts xs → (front : List TokenContent) × (rest : List TokenContent) × (x : A) × (ts ≡ front ++ rest) × P front x × Rest P rest
Rest-split P ts [] p = absurd p
Rest-split P ts (x ∷ []) p = (ts, [], x, sym (append-nil ts), p, inl refl)
Rest-split P ts (x ∷ y ∷ xs) (f, r, d, p, q) = (f, Mark Comma ∷ r, x, d, p, inr (r, y ∷ xs, refl, q))

Rest-join : {A : Type 0} (P : List TokenContent → A → Type 0) (front rest : List TokenContent) (x : A) → P front x → Rest P rest → (xs : List A) × Separated P (front ++ rest) (x ∷ xs)
Rest-join P front rest x p (inl e) = ([], subst (λ (w : List TokenContent). P w x) (sym (ap (λ (r : List TokenContent). front ++ r) e ∙ append-nil front)) p)
Rest-join P front rest x p (inr (inner, [], e, q)) = absurd q
Rest-join P front rest x p (inr (inner, y ∷ ys, e, q)) = (y ∷ ys, (front, inner, ap (λ (r : List TokenContent). front ++ r) e, p, q))

pub Expects-one : (x : Symbol) (ts : List TokenContent) → Is x ts → Expects (x ∷ []) ts
Expects-one x ts i = (ts, [], sym (append-nil ts), i, refl)

pub Is-from_one : (x : Symbol) (ts : List TokenContent) → Expects (x ∷ []) ts → Is x ts
Is-from_one x ts (front, rest, e, i, r) = subst (λ (f : List TokenContent). Is x f) (sym (e ∙ ap (λ (w : List TokenContent). front ++ w) r ∙ append-nil front)) i

-- an item and what closes the list
pub Expects-two : (x y : Symbol) (a b : List TokenContent) → Is x a → Is y b → Expects (x ∷ y ∷ []) (a ++ b)
Expects-two x y a b i j = (a, b, refl, i, Expects-one y b j)

Is-from_two : (x y : Symbol) (ts : List TokenContent) → Expects (x ∷ y ∷ []) ts → (a : List TokenContent) × (b : List TokenContent) × (ts ≡ a ++ b) × Is x a × Is y b
Is-from_two x y ts (a, b, e, i, j) = (a, b, e, i, Is-from_one y b j)

-- ---- from the text to the symbols

abbrev pub Leaves : Symbol → TokenContent → List TokenContent → Type 0
Leaves x t ts = (r : List Symbol) × (first x t ≡ Some r) × Expects r ts

Leaves-value : (t : TokenContent) (ts : List TokenContent) (v : ValueContent) → IsConstant (t ∷ ts) v → Leaves value t ts
Leaves-value t ts (Number n) e = let d : t ≡ Literal (Number n) = cc in ([], ap first_value d, cc)
Leaves-value t ts (Text w) (inl e) = let d : t ≡ Literal (Text w) = cc in ([], ap first_value d, cc)
Leaves-value t ts (Text w) (inr (e, u)) = let d : t ≡ Word w = cc in ([], ap first_value d ∙ ap (λ (b : Bool). when b []) u, cc)

Leaves-term : (t : TokenContent) (ts : List TokenContent) (x : TermContent) → IsTermText (t ∷ ts) x → Leaves term t ts
Leaves-term t ts (Constant (Number n)) e = let d : t ≡ Literal (Number n) = cc in ([], ap first_term d, cc)
Leaves-term t ts (Constant (Text w)) (inl e) = let d : t ≡ Literal (Text w) = cc in ([], ap first_term d, cc)
Leaves-term t ts (Constant (Text w)) (inr (e, u)) = let d : t ≡ Word w = cc in ([], ap first_term d ∙ ap (λ (b : Bool). when (b || begins_with_lower w) []) u, cc)
Leaves-term t ts (Variable x) (e, u) = let d : t ≡ Word x = cc in ([], ap first_term d ∙ ap (λ (b : Bool). when b []) (or_right (begins_with_upper x) (begins_with_lower x) u), cc)

Leaves-in_list : {A : Type 0} (P : List TokenContent → A → Type 0) (item again : Symbol) (close : Sign) (t : TokenContent) (ts : List TokenContent)
    → ((front : List TokenContent) (x : A) → P front x → Is item front) → ((rest : List TokenContent) → Tail P close rest → Is again rest) → is_sign Comma (Mark close) ≡ false → Tail P close (t ∷ ts)
    → (r : List Symbol) × (first_in_list item again close t ≡ Some r) × Expects r ts
Leaves-in_list P item again close t ts one more apart (inl e) =
    let d : t ≡ Mark close = cc in
    ([], ap (first_in_list item again close) d ∙ ap (λ (b : Bool). cond b (Some (item ∷ again ∷ [])) (when (is_sign close (Mark close)) [])) apart ∙ ap (λ (b : Bool). when b []) (is_sign-same close), cc)
Leaves-in_list P item again close t ts one more apart (inr (inner, e, c)) =
    let d : t ≡ Mark Comma = cc in
    let same : ts ≡ inner = cc in
    let s = Closed-split P close inner c in
    (item ∷ again ∷ [], ap (first_in_list item again close) d, subst (λ (w : List TokenContent). Expects (item ∷ again ∷ []) w) (sym (same ∙ s.3)) (Expects-two item again s.0 s.1 (one s.0 s.2 s.4) (more s.1 s.5)))

Leaves-atom : (t : TokenContent) (ts : List TokenContent) (x : AtomRecord) → IsAtomText (t ∷ ts) x → Leaves atom t ts
Leaves-atom t ts x (inner, e, u, sep) =
    let d : t ≡ Word x.relation = cc in
    let same : ts ≡ Mark OpenParen ∷ (inner ++ (Mark CloseParen ∷ [])) = cc in
    let s = Closed-split IsTermText CloseParen (inner ++ (Mark CloseParen ∷ [])) (inner, x.terms, refl, sep) in (
      atom_symbols,
      ap first_of_atom d ∙ ap (λ (b : Bool). when b atom_symbols) u,
      (Mark OpenParen ∷ [], inner ++ (Mark CloseParen ∷ []), same, refl, (s.0, s.1, s.3, (s.2, s.4), Expects-one terms_end s.1 s.5)),
    )

-- an atom begins with a word
begins_atom : (ts : List TokenContent) (x : AtomRecord) → IsAtomText ts x → (w : List ℕ) × (more : List TokenContent) × (ts ≡ Word w ∷ more)
begins_atom ts x (inner, e, u, sep) = (x.relation, _, e)

after_atom : (t : TokenContent) (ts : List TokenContent) (rest : List Symbol) (a b : List TokenContent) (x : AtomRecord) → t ∷ ts ≡ a ++ b → IsAtomText a x → Expects rest b → (r : List Symbol) × (option_map (λ r. r ++ rest) (first_of_atom t) ≡ Some r) × Expects r ts
after_atom t ts rest [] b x e g q = absurd (nothing (g.1))
  where
    nothing : {w : List ℕ} {m : List TokenContent} → [] ≡ Word w ∷ m → ⊥
    nothing h = cc
after_atom t ts rest (u ∷ a) b x e g q =
    let same : t ≡ u = cc in
    let l = Leaves-atom u a x g in (
      l.0 ++ rest,
      ap (λ (v : TokenContent). option_map (λ r. r ++ rest) (first_of_atom v)) same ∙ ap (option_map (λ r. r ++ rest)) l.1,
      subst (λ (w : List TokenContent). Expects (l.0 ++ rest) w) (tails e) (Expects-append l.0 rest a b l.2 q),
    )
  where
    tails : t ∷ ts ≡ u ∷ (a ++ b) → a ++ b ≡ ts
    tails h = cc

word_no_sign : (s : Sign) (t : TokenContent) (w : List ℕ) → t ≡ Word w → is_sign s t ≡ false
word_no_sign s t w e = ap (is_sign s) e

Leaves-posts : (t : TokenContent) (ts inner : List TokenContent) (xs : List AtomRecord) → t ∷ ts ≡ inner ++ (Mark CloseBrace ∷ []) → AreAtomsIfAny inner xs → Leaves posts t ts
Leaves-posts t ts inner [] e m =
    let d : t ∷ ts ≡ Mark CloseBrace ∷ [] = e ∙ ap (λ (i : List TokenContent). i ++ (Mark CloseBrace ∷ [])) m in
    let h : t ≡ Mark CloseBrace = cc in
    ([], ap (first posts) h, cc)
Leaves-posts t ts inner (x ∷ xs) e m =
    let s = Closed-split IsAtomText CloseBrace (t ∷ ts) (inner, x ∷ xs, e, m) in
    let b = begins_atom s.0 s.2 s.4 in
    let head : t ≡ Word b.0 = heads s.0 s.1 b.0 b.1 s.3 b.2 in
    let a = after_atom t ts (posts_end ∷ []) s.0 s.1 s.2 s.3 s.4 (Expects-one posts_end s.1 s.5) in
    (a.0, ap (λ (v : Bool). cond v (Some []) (option_map (λ r. r ++ (posts_end ∷ [])) (first_of_atom t))) (word_no_sign CloseBrace t b.0 head) ∙ a.1, a.2)
  where
    heads : (front rest : List TokenContent) (w : List ℕ) (m : List TokenContent) → t ∷ ts ≡ front ++ rest → front ≡ Word w ∷ m → t ≡ Word w
    heads front rest w m e d = let k : t ∷ ts ≡ Word w ∷ (m ++ rest) = e ∙ ap (λ (f : List TokenContent). f ++ rest) d in cc

Leaves-body_end : (t : TokenContent) (ts : List TokenContent) → Rest IsAtomText (t ∷ ts) → Leaves body_end t ts
Leaves-body_end t ts (inl e) = absurd cc
Leaves-body_end t ts (inr (inner, xs, e, p)) =
    let d : t ≡ Mark Comma = cc in
    let same : ts ≡ inner = cc in
    let s = Rest-split IsAtomText inner xs p in
    (atom ∷ body_end ∷ [], ap (first body_end) d, subst (λ (w : List TokenContent). Expects (atom ∷ body_end ∷ []) w) (sym (same ∙ s.3)) (Expects-two atom body_end s.0 s.1 (s.2, s.4) s.5))

Leaves-body : (t : TokenContent) (ts : List TokenContent) (xs : List AtomRecord) → AreAtomsIfAny (t ∷ ts) xs → Leaves body t ts
Leaves-body t ts [] e = absurd cc
Leaves-body t ts (x ∷ xs) m =
    let s = Rest-split IsAtomText (t ∷ ts) (x ∷ xs) m in
    after_atom t ts (body_end ∷ []) s.0 s.1 s.2 s.3 s.4 (Expects-one body_end s.1 s.5)

-- a query, as its symbols
pub query_expected : (ts : List TokenContent) → IsLoneQuery ts → Expects query_symbols ts
query_expected ts (query, (ps, hs, bs, e, p, h, b)) =
    let s = Closed-split IsAtomText Arrow (hs ++ (Mark Arrow ∷ [])) (hs, query.heads, refl, h) in
    let heads : hs ++ (Mark Arrow ∷ bs) ≡ s.0 ++ (s.1 ++ bs) = sym (append_assoc hs (Mark Arrow ∷ []) bs) ∙ ap (λ (l : List TokenContent). l ++ bs) s.3 ∙ append_assoc s.0 s.1 bs in (
      Mark OpenBrace ∷ [],
      ps ++ (Mark CloseBrace ∷ (hs ++ (Mark Arrow ∷ bs))),
      e,
      refl,
      (
        ps ++ (Mark CloseBrace ∷ []),
        hs ++ (Mark Arrow ∷ bs),
        sym (append_assoc ps (Mark CloseBrace ∷ []) (hs ++ (Mark Arrow ∷ bs))),
        (ps, query.posts, refl, p),
        (s.0, s.1 ++ bs, heads, (s.2, s.4), (s.1, bs, refl, s.5, Expects-one body bs (query.body, b))),
      ),
    )

-- a ground atom, as its symbols
pub row_expected : (ts : List TokenContent) → IsLoneRow ts → Expects row_symbols ts
row_expected ts (row, (inner, e, u, sep)) =
    let s = Closed-split IsConstant CloseParen (inner ++ (Mark CloseParen ∷ [])) (inner, row.values, refl, sep) in (
      Word row.relation ∷ [],
      Mark OpenParen ∷ (inner ++ (Mark CloseParen ∷ [])),
      e,
      (row.relation, refl, u),
      (Mark OpenParen ∷ [], inner ++ (Mark CloseParen ∷ []), refl, refl, (s.0, s.1, s.3, (s.2, s.4), Expects-one values_end s.1 s.5)),
    )

-- the symbols after a command word
behind_word : (k : CommandWord) (t : TokenContent) (ts rest : List TokenContent) → t ∷ ts ≡ Word (bytes_of k) ∷ rest → Some (after_command k) ≡ first_command (Word (bytes_of k)) → Expects (after_command k) rest → Leaves command t ts
behind_word k t ts rest e is q =
    let d : t ≡ Word (bytes_of k) = cc in
    let same : ts ≡ rest = cc in
    (after_command k, ap first_command d ∙ sym is, subst (λ (l : List TokenContent). Expects (after_command k) l) (sym same) q)

Leaves-command : (t : TokenContent) (ts : List TokenContent) (c : CommandContent) → IsSentence (t ∷ ts) c → Leaves command t ts
Leaves-command t ts Blank s = absurd s
Leaves-command t ts (Setup (Relation n a)) (m, e, u, k) =
    behind_word words.Relation t ts (Word n ∷ Literal (Number m) ∷ []) e refl (Expects-two upper number (Word n ∷ []) (Literal (Number m) ∷ []) (n, refl, u) (m, refl))
Leaves-command t ts (Setup (Board f)) e =
    behind_word words.Board t ts (Literal (Number (pos (number_of_form f))) ∷ []) e refl (Expects-one number (Literal (Number (pos (number_of_form f))) ∷ []) (pos (number_of_form f), refl))
Leaves-command t ts (Setup (Limits p j)) (m, n, e, k, i) =
    behind_word words.Limits t ts (Literal (Number m) ∷ Literal (Number n) ∷ []) e refl (Expects-two number number (Literal (Number m) ∷ []) (Literal (Number n) ∷ []) (m, refl) (n, refl))
Leaves-command t ts (Edit (Post n query)) (rest, e, q) =
    behind_word words.Post t ts (Word n ∷ rest) e refl (Word n ∷ [], rest, refl, (n, refl), query_expected rest (query, q))
Leaves-command t ts (Edit (Withdraw n)) e = behind_word words.Withdraw t ts (Word n ∷ []) e refl (Expects-one name (Word n ∷ []) (n, refl))
Leaves-command t ts (Edit (Insert row)) (rest, e, r) = behind_word words.Insert t ts rest e refl (row_expected rest (row, r))
Leaves-command t ts (Edit (Delete row)) (rest, e, r) = behind_word words.Delete t ts rest e refl (row_expected rest (row, r))
Leaves-command t ts Publish e = behind_word words.Publish t ts [] e refl refl
Leaves-command t ts Show e = behind_word words.Show t ts [] e refl refl

pub Leaves-from_is : (x : Symbol) (t : TokenContent) (ts : List TokenContent) → Is x (t ∷ ts) → Leaves x t ts
Leaves-from_is (mark s) t ts e = let d : t ≡ Mark s = cc in ([], ap (first (mark s)) d ∙ ap (λ (b : Bool). when b []) (is_sign-same s), cc)
Leaves-from_is name t ts (w, e) = let d : t ≡ Word w = cc in ([], ap first_name d, cc)
Leaves-from_is upper t ts (w, e, u) = let d : t ≡ Word w = cc in ([], ap first_upper d ∙ ap (λ (b : Bool). when b []) u, cc)
Leaves-from_is number t ts (n, e) = let d : t ≡ Literal (Number n) = cc in ([], ap first_number d, cc)
Leaves-from_is value t ts (v, c) = Leaves-value t ts v c
Leaves-from_is values_end t ts h = Leaves-in_list IsConstant value values_end CloseParen t ts (λ front x p. (x, p)) (λ rest p. p) refl h
Leaves-from_is term t ts (x, c) = Leaves-term t ts x c
Leaves-from_is terms_end t ts h = Leaves-in_list IsTermText term terms_end CloseParen t ts (λ front x p. (x, p)) (λ rest p. p) refl h
Leaves-from_is atom t ts (x, g) = Leaves-atom t ts x g
Leaves-from_is posts_end t ts h = Leaves-in_list IsAtomText atom posts_end CloseBrace t ts (λ front x p. (x, p)) (λ rest p. p) refl h
Leaves-from_is heads_end t ts h = Leaves-in_list IsAtomText atom heads_end Arrow t ts (λ front x p. (x, p)) (λ rest p. p) refl h
Leaves-from_is body_end t ts h = Leaves-body_end t ts h
Leaves-from_is body t ts (xs, m) = Leaves-body t ts xs m
Leaves-from_is posts t ts (inner, xs, e, m) = Leaves-posts t ts inner xs e m
Leaves-from_is command t ts (inl (c, s)) = Leaves-command t ts c s
Leaves-from_is command t ts (inr (n, e)) = behind_word words.Board t ts (Literal (Number n) ∷ []) e refl (Expects-one number (Literal (Number n) ∷ []) (n, refl))

-- which symbols stand for nothing
no_end : (inner : List TokenContent) (s : TokenContent) → [] ≡ inner ++ (s ∷ []) → ⊥
no_end [] s e = cc
no_end (t ∷ ts) s e = cc

no_value : (v : ValueContent) → IsConstant [] v → ⊥
no_value (Number n) e = cc
no_value (Text w) (inl e) = cc
no_value (Text w) (inr (e, u)) = cc

no_term : (x : TermContent) → IsTermText [] x → ⊥
no_term (Constant v) c = no_value v c
no_term (Variable x) (e, u) = cc

no_tail : {A : Type 0} (P : List TokenContent → A → Type 0) (close : Sign) → Tail P close [] → ⊥
no_tail P close (inl e) = cc
no_tail P close (inr (i, e, c)) = cc

no_command : (c : CommandContent) → IsSentence [] c → ⊥
no_command Blank s = s
no_command (Setup (Relation n a)) (m, e, u, k) = cc
no_command (Setup (Board f)) e = cc
no_command (Setup (Limits p j)) (m, n, e, k, i) = cc
no_command (Edit (Post n query)) (rest, e, q) = cc
no_command (Edit (Withdraw n)) e = cc
no_command (Edit (Insert row)) (rest, e, r) = cc
no_command (Edit (Delete row)) (rest, e, r) = cc
no_command Publish e = cc
no_command Show e = cc

pub Is-nothing : (x : Symbol) → Is x [] → Holds (is_nullable x)
Is-nothing (mark s) e = cc
Is-nothing name (w, e) = cc
Is-nothing upper (w, e, u) = cc
Is-nothing number (n, e) = cc
Is-nothing value (v, c) = no_value v c
Is-nothing values_end h = no_tail IsConstant CloseParen h
Is-nothing term (x, c) = no_term x c
Is-nothing terms_end h = no_tail IsTermText CloseParen h
Is-nothing atom (x, (inner, e, u, sep)) = cc
Is-nothing posts_end h = no_tail IsAtomText CloseBrace h
Is-nothing heads_end h = no_tail IsAtomText Arrow h
Is-nothing body_end h = tt
Is-nothing body h = tt
Is-nothing posts (inner, xs, e, m) = no_end inner (Mark CloseBrace) e
Is-nothing command (inl (c, s)) = no_command c s
Is-nothing command (inr (n, e)) = cc

-- ---- from the symbols to the text

at_same : (ss r : List Symbol) (ts : List TokenContent) → ss ≡ r → Expects r ts → Expects ss ts
at_same ss r ts e q = subst (λ (s : List Symbol). Expects s ts) (sym e) q

map_some : (f : List Symbol → List Symbol) (o : Option (List Symbol)) (r : List Symbol) → option_map f o ≡ Some r → (s : List Symbol) × (o ≡ Some s) × (f s ≡ r)
map_some f None r e = absurd cc
map_some f (Some s) r e = (s, refl, cc)

or_cases : (a b : Bool) → (a || b) ≡ true → (a ≡ true) ⊎ (b ≡ true)
or_cases true b e = inl refl
or_cases false b e = inr e

Is-more-term : (t : TokenContent) (ts : List TokenContent) (r : List Symbol) → first_term t ≡ Some r → Expects r ts → Is term (t ∷ ts)
Is-more-term (Word w) ts r e q =
    let h = when_some (begins_with_upper w || begins_with_lower w) [] r e in
    let one : Word w ∷ ts ≡ Word w ∷ [] = ap (λ (l : List TokenContent). Word w ∷ l) (at_same [] r ts h.1 q) in
    elim (or_cases (begins_with_upper w) (begins_with_lower w) h.0) [ inl u ↦ (Constant (Text w), inr (one, u)) | inr u ↦ (Variable w, (one, u)) ]
Is-more-term (Literal (Number n)) ts r e q = (Constant (Number n), ap (λ (l : List TokenContent). Literal (Number n) ∷ l) (at_same [] r ts (cc) q))
Is-more-term (Literal (Text w)) ts r e q = (Constant (Text w), inl (ap (λ (l : List TokenContent). Literal (Text w) ∷ l) (at_same [] r ts (cc) q)))
Is-more-term (Mark s) ts r e q = absurd cc
Is-more-term (Bad kind) ts r e q = absurd cc
Is-more-term Finish ts r e q = absurd cc

Is-more-name : (t : TokenContent) (ts : List TokenContent) (r : List Symbol) → first_name t ≡ Some r → Expects r ts → Is name (t ∷ ts)
Is-more-name (Word w) ts r e q = (w, ap (λ (l : List TokenContent). Word w ∷ l) (at_same [] r ts (cc) q))
Is-more-name (Literal v) ts r e q = absurd cc
Is-more-name (Mark s) ts r e q = absurd cc
Is-more-name (Bad kind) ts r e q = absurd cc
Is-more-name Finish ts r e q = absurd cc

Is-more-upper : (t : TokenContent) (ts : List TokenContent) (r : List Symbol) → first_upper t ≡ Some r → Expects r ts → Is upper (t ∷ ts)
Is-more-upper (Word w) ts r e q = let h = when_some (begins_with_upper w) [] r e in (w, ap (λ (l : List TokenContent). Word w ∷ l) (at_same [] r ts h.1 q), h.0)
Is-more-upper (Literal v) ts r e q = absurd cc
Is-more-upper (Mark s) ts r e q = absurd cc
Is-more-upper (Bad kind) ts r e q = absurd cc
Is-more-upper Finish ts r e q = absurd cc

Is-more-number : (t : TokenContent) (ts : List TokenContent) (r : List Symbol) → first_number t ≡ Some r → Expects r ts → Is number (t ∷ ts)
Is-more-number (Literal (Number n)) ts r e q = (n, ap (λ (l : List TokenContent). Literal (Number n) ∷ l) (at_same [] r ts (cc) q))
Is-more-number (Literal (Text w)) ts r e q = absurd cc
Is-more-number (Word w) ts r e q = absurd cc
Is-more-number (Mark s) ts r e q = absurd cc
Is-more-number (Bad kind) ts r e q = absurd cc
Is-more-number Finish ts r e q = absurd cc

Is-more-value : (t : TokenContent) (ts : List TokenContent) (r : List Symbol) → first_value t ≡ Some r → Expects r ts → Is value (t ∷ ts)
Is-more-value (Word w) ts r e q = let h = when_some (begins_with_upper w) [] r e in (Text w, inr (ap (λ (l : List TokenContent). Word w ∷ l) (at_same [] r ts h.1 q), h.0))
Is-more-value (Literal (Number n)) ts r e q = (Number n, ap (λ (l : List TokenContent). Literal (Number n) ∷ l) (at_same [] r ts (cc) q))
Is-more-value (Literal (Text w)) ts r e q = (Text w, inl (ap (λ (l : List TokenContent). Literal (Text w) ∷ l) (at_same [] r ts (cc) q)))
Is-more-value (Mark s) ts r e q = absurd cc
Is-more-value (Bad kind) ts r e q = absurd cc
Is-more-value Finish ts r e q = absurd cc

Is-more-in_list : {A : Type 0} (P : List TokenContent → A → Type 0) (item again : Symbol) (close : Sign) (t : TokenContent) (ts : List TokenContent) (r : List Symbol)
    → ((front : List TokenContent) → Is item front → (x : A) × P front x) → ((rest : List TokenContent) → Is again rest → Tail P close rest)
    → first_in_list item again close t ≡ Some r → Expects r ts → Tail P close (t ∷ ts)
Is-more-in_list P item again close t ts r one more e q =
    elim (cond_when (is_sign Comma t) (is_sign close t) (item ∷ again ∷ []) [] r e) [
      | inl (b, same) ↦
          let two = Is-from_two item again ts (at_same (item ∷ again ∷ []) r ts same q) in
          let x = one two.0 two.3 in
          inr (ts, ap (λ (u : TokenContent). u ∷ ts) (is_sign-true Comma t b), subst (λ (w : List TokenContent). Closed P close w) (sym two.2) (Closed-join P close two.0 two.1 x.0 x.1 (more two.1 two.4)))
      | inr (b, c, same) ↦
          let u : t ≡ Mark close = is_sign-true close t c in
          let n : ts ≡ [] = at_same [] r ts same q in
          inl (ap (λ (v : TokenContent). v ∷ ts) u ∙ ap (λ (l : List TokenContent). Mark close ∷ l) n)
    ]

Is-more-atom : (t : TokenContent) (ts : List TokenContent) (r : List Symbol) → first_of_atom t ≡ Some r → Expects r ts → Is atom (t ∷ ts)
Is-more-atom (Word w) ts r e q =
    let h = when_some (begins_with_upper w) atom_symbols r e in
    inside (at_same atom_symbols r ts h.1 q) h.0
  where
    inside : Expects atom_symbols ts → begins_with_upper w ≡ true → Is atom (Word w ∷ ts)
    inside (f, rest, d, i, more) u =
        let two = Is-from_two term terms_end rest more in
        let c = Closed-join IsTermText CloseParen two.0 two.1 two.3.0 two.3.1 two.4 in
        (record { relation = w; terms = c.1 }, (c.0, ap (λ (l : List TokenContent). Word w ∷ l) (d ∙ ap (λ (l : List TokenContent). l ++ rest) i ∙ ap (λ (l : List TokenContent). Mark OpenParen ∷ l) (two.2 ∙ c.2)), u, c.3))
Is-more-atom (Literal v) ts r e q = absurd cc
Is-more-atom (Mark s) ts r e q = absurd cc
Is-more-atom (Bad kind) ts r e q = absurd cc
Is-more-atom Finish ts r e q = absurd cc

any_from_closed : (ts : List TokenContent) → Closed IsAtomText CloseBrace ts → Is posts ts
any_from_closed ts (inner, [], e, p) = absurd p
any_from_closed ts (inner, x ∷ xs, e, p) = (inner, x ∷ xs, e, p)

cases_cond_some : (b : Bool) (ss r : List Symbol) (o : Option (List Symbol)) → cond b (Some ss) o ≡ Some r → ((b ≡ true) × (ss ≡ r)) ⊎ (o ≡ Some r)
cases_cond_some true ss r o e = inl (refl, cc)
cases_cond_some false ss r o e = inr e

Is-more-posts : (t : TokenContent) (ts : List TokenContent) (r : List Symbol) → first posts t ≡ Some r → Expects r ts → Is posts (t ∷ ts)
Is-more-posts t ts r e q =
    elim (cases_cond_some (is_sign CloseBrace t) [] r (option_map (λ s. s ++ (posts_end ∷ [])) (first_of_atom t)) e) [
      | inl (b, same) ↦
          let u : t ≡ Mark CloseBrace = is_sign-true CloseBrace t b in
          let n : ts ≡ [] = at_same [] r ts same q in
          ([], [], ap (λ (v : TokenContent). v ∷ ts) u ∙ ap (λ (l : List TokenContent). Mark CloseBrace ∷ l) n, refl)
      | inr d ↦
          let m = map_some (λ s. s ++ (posts_end ∷ [])) (first_of_atom t) r d in
          let s = Expects-split m.0 (posts_end ∷ []) ts (at_same (m.0 ++ (posts_end ∷ [])) r ts m.2 q) in
          let x = Is-more-atom t s.0 m.0 m.1 s.3 in
          any_from_closed (t ∷ ts) (subst (λ (w : List TokenContent). Closed IsAtomText CloseBrace (t ∷ w)) (sym s.2) (Closed-join IsAtomText CloseBrace (t ∷ s.0) s.1 x.0 x.1 (Is-from_one posts_end s.1 s.4)))
    ]

Is-more-body_end : (t : TokenContent) (ts : List TokenContent) (r : List Symbol) → first body_end t ≡ Some r → Expects r ts → Rest IsAtomText (t ∷ ts)
Is-more-body_end t ts r e q =
    let h = when_some (is_sign Comma t) (atom ∷ body_end ∷ []) r e in
    let two = Is-from_two atom body_end ts (at_same (atom ∷ body_end ∷ []) r ts h.1 q) in
    let c = Rest-join IsAtomText two.0 two.1 two.3.0 two.3.1 two.4 in
    inr (ts, two.3.0 ∷ c.0, ap (λ (u : TokenContent). u ∷ ts) (is_sign-true Comma t h.0), subst (λ (w : List TokenContent). Separated IsAtomText w (two.3.0 ∷ c.0)) (sym two.2) c.1)

Is-more-body : (t : TokenContent) (ts : List TokenContent) (r : List Symbol) → first body t ≡ Some r → Expects r ts → Is body (t ∷ ts)
Is-more-body t ts r e q =
    let m = map_some (λ s. s ++ (body_end ∷ [])) (first_of_atom t) r e in
    let s = Expects-split m.0 (body_end ∷ []) ts (at_same (m.0 ++ (body_end ∷ [])) r ts m.2 q) in
    let x = Is-more-atom t s.0 m.0 m.1 s.3 in
    let c = Rest-join IsAtomText (t ∷ s.0) s.1 x.0 x.1 (Is-from_one body_end s.1 s.4) in
    (x.0 ∷ c.0, subst (λ (w : List TokenContent). Separated IsAtomText (t ∷ w) (x.0 ∷ c.0)) (sym s.2) c.1)

pub query_from_expected : (ts : List TokenContent) → Expects query_symbols ts → IsLoneQuery ts
query_from_expected ts (f2, r2, e2, i2, (f3, r3, e3, (inner, xs, i3, m), (f4, r4, e4, i4, (f5, r5, e5, i5, more)))) =
    let c = Closed-join IsAtomText Arrow f4 f5 i4.0 i4.1 i5 in
    let b = Is-from_one body r5 more in
    let rest : r3 ≡ c.0 ++ (Mark Arrow ∷ r5) = e4 ∙ ap (λ (l : List TokenContent). f4 ++ l) e5 ∙ sym (append_assoc f4 f5 r5) ∙ ap (λ (l : List TokenContent). l ++ r5) c.2 ∙ append_assoc c.0 (Mark Arrow ∷ []) r5 in
    let back : r2 ≡ inner ++ (Mark CloseBrace ∷ (c.0 ++ (Mark Arrow ∷ r5))) = e3 ∙ ap (λ (l : List TokenContent). l ++ r3) i3 ∙ append_assoc inner (Mark CloseBrace ∷ []) r3 ∙ ap (λ (l : List TokenContent). inner ++ (Mark CloseBrace ∷ l)) rest in
    (record { posts = xs; heads = c.1; body = b.0 }, (inner, c.0, r5, e2 ∙ ap (λ (l : List TokenContent). l ++ r2) i2 ∙ ap (λ (l : List TokenContent). Mark OpenBrace ∷ l) back, m, c.3, b.1))

Is-more-post : (ts : List TokenContent) → Expects (name ∷ query_symbols) ts → IsCommandText (Word (codes "post") ∷ ts)
Is-more-post ts (f, r, e, (w, i), more) =
    let q = query_from_expected r more in
    inl (Edit (Post w q.0), (r, ap (λ (l : List TokenContent). Word (codes "post") ∷ l) (e ∙ ap (λ (l : List TokenContent). l ++ r) i), q.1))

pub row_from_expected : (ts : List TokenContent) → Expects row_symbols ts → IsLoneRow ts
row_from_expected ts (f, r, e, (w, i, u), (f2, r2, e2, i2, more)) =
    let two = Is-from_two value values_end r2 more in
    let c = Closed-join IsConstant CloseParen two.0 two.1 two.3.0 two.3.1 two.4 in
    let inside : r ≡ Mark OpenParen ∷ (c.0 ++ (Mark CloseParen ∷ [])) = e2 ∙ ap (λ (l : List TokenContent). l ++ r2) i2 ∙ ap (λ (l : List TokenContent). Mark OpenParen ∷ l) (two.2 ∙ c.2) in
    (record { relation = w; values = c.1 }, (c.0, e ∙ ap (λ (l : List TokenContent). l ++ r) i ∙ ap (λ (l : List TokenContent). Word w ∷ l) inside, u, c.3))

Is-more-relation : (ts : List TokenContent) → Expects (upper ∷ number ∷ []) ts → IsCommandText (Word (codes "relation") ∷ ts)
Is-more-relation ts q =
    let two = Is-from_two upper number ts q in
    let w = two.3.0 in
    let n = two.4.0 in
    let tokens : ts ≡ Word w ∷ Literal (Number n) ∷ [] = two.2 ∙ ap (λ (l : List TokenContent). l ++ two.1) two.3.1 ∙ ap (λ (l : List TokenContent). Word w ∷ l) two.4.1 in
    inl (Setup (Relation w (count_of n)), (n, ap (λ (l : List TokenContent). Word (codes "relation") ∷ l) tokens, two.3.2, refl))

Is-more-limits : (ts : List TokenContent) → Expects (number ∷ number ∷ []) ts → IsCommandText (Word (codes "limits") ∷ ts)
Is-more-limits ts q =
    let two = Is-from_two number number ts q in
    let m = two.3.0 in
    let n = two.4.0 in
    let tokens : ts ≡ Literal (Number m) ∷ Literal (Number n) ∷ [] = two.2 ∙ ap (λ (l : List TokenContent). l ++ two.1) two.3.1 ∙ ap (λ (l : List TokenContent). Literal (Number m) ∷ l) two.4.1 in
    inl (Setup (Limits (count_of m) (count_of n)), (m, n, ap (λ (l : List TokenContent). Word (codes "limits") ∷ l) tokens, refl, refl))

-- a command word, and what its symbols stand for
command_from_expected : (k : CommandWord) (ts : List TokenContent) → Expects (after_command k) ts → IsCommandText (Word (bytes_of k) ∷ ts)
command_from_expected words.Relation ts q = Is-more-relation ts q
command_from_expected words.Board ts q = let i = Is-from_one number ts q in inr (i.0, ap (λ (l : List TokenContent). Word (codes "board") ∷ l) i.1)
command_from_expected words.Limits ts q = Is-more-limits ts q
command_from_expected words.Post ts q = Is-more-post ts q
command_from_expected words.Withdraw ts q = let i = Is-from_one name ts q in inl (Edit (Withdraw i.0), ap (λ (l : List TokenContent). Word (codes "withdraw") ∷ l) i.1)
command_from_expected words.Insert ts q = let r = row_from_expected ts q in inl (Edit (Insert r.0), (ts, refl, r.1))
command_from_expected words.Delete ts q = let r = row_from_expected ts q in inl (Edit (Delete r.0), (ts, refl, r.1))
command_from_expected words.Publish ts q = inl (Publish, ap (λ (l : List TokenContent). Word (codes "publish") ∷ l) q)
command_from_expected words.Show ts q = inl (Show, ap (λ (l : List TokenContent). Word (codes "show") ∷ l) q)

map_word : (o : Option CommandWord) (r : List Symbol) → option_map after_command o ≡ Some r → (k : CommandWord) × (o ≡ Some k) × (after_command k ≡ r)
map_word None r e = absurd cc
map_word (Some k) r e = (k, refl, cc)

Is-more-command : (t : TokenContent) (ts : List TokenContent) (r : List Symbol) → first_command t ≡ Some r → Expects r ts → Is command (t ∷ ts)
Is-more-command (Word w) ts r e q =
    let m = map_word (command_word w) r e in
    subst (λ (v : List ℕ). IsCommandText (Word v ∷ ts)) (sym (command_word-is w m.0 m.1)) (command_from_expected m.0 ts (at_same (after_command m.0) r ts m.2 q))
Is-more-command (Literal v) ts r e q = absurd cc
Is-more-command (Mark s) ts r e q = absurd cc
Is-more-command (Bad kind) ts r e q = absurd cc
Is-more-command Finish ts r e q = absurd cc

pub Is-more : (x : Symbol) (t : TokenContent) (ts : List TokenContent) (r : List Symbol) → first x t ≡ Some r → Expects r ts → Is x (t ∷ ts)
Is-more (mark s) t ts r e q =
    let h = when_some (is_sign s t) [] r e in
    let u : t ≡ Mark s = is_sign-true s t h.0 in
    let n : ts ≡ [] = at_same [] r ts h.1 q in
    ap (λ (v : TokenContent). v ∷ ts) u ∙ ap (λ (l : List TokenContent). Mark s ∷ l) n
Is-more name t ts r e q = Is-more-name t ts r e q
Is-more upper t ts r e q = Is-more-upper t ts r e q
Is-more number t ts r e q = Is-more-number t ts r e q
Is-more value t ts r e q = Is-more-value t ts r e q
Is-more values_end t ts r e q = Is-more-in_list IsConstant value values_end CloseParen t ts r (λ f i. i) (λ f i. i) e q
Is-more term t ts r e q = Is-more-term t ts r e q
Is-more terms_end t ts r e q = Is-more-in_list IsTermText term terms_end CloseParen t ts r (λ f i. i) (λ f i. i) e q
Is-more atom t ts r e q = Is-more-atom t ts r e q
Is-more posts_end t ts r e q = Is-more-in_list IsAtomText atom posts_end CloseBrace t ts r (λ f i. i) (λ f i. i) e q
Is-more heads_end t ts r e q = Is-more-in_list IsAtomText atom heads_end Arrow t ts r (λ f i. i) (λ f i. i) e q
Is-more body_end t ts r e q = Is-more-body_end t ts r e q
Is-more body t ts r e q = Is-more-body t ts r e q
Is-more posts t ts r e q = Is-more-posts t ts r e q
Is-more command t ts r e q = Is-more-command t ts r e q

-- ---- the same for several symbols

-- a token that a symbol begins with is taken
take_first : (x : Symbol) (ss : List Symbol) (t : TokenContent) (r : List Symbol) → first x t ≡ Some r → take_token (x ∷ ss) t ≡ Some (r ++ ss)
take_first x ss t r e = by_end (is_nullable x && is_finish t) refl
  where
    no_finish : (y : Symbol) (u : TokenContent) → (is_nullable y && is_finish u) ≡ true → first y u ≡ Some r → ⊥
    no_finish body_end Finish h k = cc
    no_finish body_end (Mark s) h k = cc
    no_finish body_end (Word w) h k = cc
    no_finish body_end (Literal v) h k = cc
    no_finish body_end (Bad kind) h k = cc
    no_finish body Finish h k = cc
    no_finish body (Mark s) h k = cc
    no_finish body (Word w) h k = cc
    no_finish body (Literal v) h k = cc
    no_finish body (Bad kind) h k = cc
    no_finish y u h k = cc

    by_end : (b : Bool) → (is_nullable x && is_finish t) ≡ b → cond b (Some ss) (option_map (λ w. w ++ ss) (first x t)) ≡ Some (r ++ ss)
    by_end true h = absurd (no_finish x t h e)
    by_end false h = ap (option_map (λ w. w ++ ss)) e

-- nothing is expected after a symbol that stands for nothing
pub nothing_after : (x : Symbol) (ss : List Symbol) → Holds (is_nullable x) → OnlyLast (is_last x) ss → ss ≡ []
nothing_after body_end ss h o = o
nothing_after body ss h o = o
nothing_after x ss h o = absurd h

pub take_token-from_expects : (ss : List Symbol) (t : TokenContent) (ts : List TokenContent) → Ordered ss → Expects ss (t ∷ ts) → (r : List Symbol) × (take_token ss t ≡ Some r) × Expects r ts
take_token-from_expects [] t ts o e = absurd cc
take_token-from_expects (x ∷ ss) t ts o ([], rest, e, i, q) = absurd (nothing (subst (λ (s : List Symbol). Expects s rest) (nothing_after x ss (Is-nothing x i) o.0) q))
  where
    nothing : rest ≡ [] → ⊥
    nothing h = cc
take_token-from_expects (x ∷ ss) t ts o (u ∷ front, rest, e, i, q) =
    let same : t ≡ u = cc in
    let tail : front ++ rest ≡ ts = cc in
    let l = Leaves-from_is x u front i in
    (l.0 ++ ss, ap (take_token (x ∷ ss)) same ∙ take_first x ss u l.0 l.1, subst (λ (w : List TokenContent). Expects (l.0 ++ ss) w) tail (Expects-append l.0 ss front rest l.2 q))

-- what is taken, but for the end
taken_first : (x : Symbol) (ss : List Symbol) (t : TokenContent) (r : List Symbol) → flaw t ≡ None → take_token (x ∷ ss) t ≡ Some r → option_map (λ w. w ++ ss) (first x t) ≡ Some r
taken_first x ss t r f e = by_end (is_nullable x) (is_finish t) (no_end_of t f) e
  where
    no_end_of : (u : TokenContent) → flaw u ≡ None → is_finish u ≡ false
    no_end_of (Mark s) h = refl
    no_end_of (Word w) h = refl
    no_end_of (Literal v) h = refl
    no_end_of (Bad kind) h = absurd cc
    no_end_of Finish h = absurd cc

    by_end : (b c : Bool) → c ≡ false → cond (b && c) (Some ss) (option_map (λ w. w ++ ss) (first x t)) ≡ Some r → option_map (λ w. w ++ ss) (first x t) ≡ Some r
    by_end true true h k = absurd cc
    by_end true false h k = k
    by_end false c h k = k

pub expects_from_take_token : (ss : List Symbol) (t : TokenContent) (ts : List TokenContent) (r : List Symbol) → flaw t ≡ None → take_token ss t ≡ Some r → Expects r ts → Expects ss (t ∷ ts)
expects_from_take_token [] t ts r f e q = absurd cc
expects_from_take_token (x ∷ ss) t ts r f e q =
    let m = map_some (λ s. s ++ ss) (first x t) r (taken_first x ss t r f e) in
    let s = Expects-split m.0 ss ts (at_same (m.0 ++ ss) r ts m.2 q) in
    (t ∷ s.0, s.1, ap (λ (l : List TokenContent). t ∷ l) s.2, Is-more x t s.0 m.0 m.1 s.3, s.4)

-- ---- each symbol stands for something

abbrev an_atom : List TokenContent
an_atom = Word (65 ∷ []) ∷ Mark OpenParen ∷ Literal (Number (pos 0)) ∷ Mark CloseParen ∷ []

an_atom_is : Is atom an_atom
an_atom_is = (record { relation = 65 ∷ []; terms = Constant (Number (pos 0)) ∷ [] }, (Literal (Number (pos 0)) ∷ [], refl, refl, refl))

pub shortest : (x : Symbol) → (ts : List TokenContent) × Is x ts
shortest (mark s) = (Mark s ∷ [], refl)
shortest name = (Word [] ∷ [], ([], refl))
shortest upper = (Word (65 ∷ []) ∷ [], (65 ∷ [], refl, refl))
shortest number = (Literal (Number (pos 0)) ∷ [], (pos 0, refl))
shortest value = (Literal (Number (pos 0)) ∷ [], (Number (pos 0), refl))
shortest values_end = (Mark CloseParen ∷ [], inl refl)
shortest term = (Literal (Number (pos 0)) ∷ [], (Constant (Number (pos 0)), refl))
shortest terms_end = (Mark CloseParen ∷ [], inl refl)
shortest atom = (an_atom, an_atom_is)
shortest posts_end = (Mark CloseBrace ∷ [], inl refl)
shortest heads_end = (Mark Arrow ∷ [], inl refl)
shortest body_end = ([], inl refl)
shortest body = ([], ([], refl))
shortest posts = (Mark CloseBrace ∷ [], ([], [], refl, refl))
shortest command = (Word (codes "show") ∷ [], inl (Show, refl))

pub completion : (ss : List Symbol) → (ts : List TokenContent) × Expects ss ts
completion [] = ([], refl)
completion (x ∷ ss) = let s = shortest x in let r = completion ss in (s.0 ++ r.0, (s.0, r.0, refl, s.1, r.1))
