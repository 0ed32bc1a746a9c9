-- What is read fits the grammar.
use Rattle.std.proofs.Common.{pos, negsuc, ◌≡◌, ℕ, ℤ, zero, suc, ◌≤◌, Bool, true, false, cond, List, [], ◌∷◌, ◌++◌, length, Option, Some, None, Result, Ok, refl, sym, ap, subst, ◌∙◌, append_assoc, arith, inl, inr, ◌⊎◌}
use Rattle.std.specs.Prelude.{nat_lt, nat_le, ◌&&◌, codes}
use Rattle.std.specs.List.{AllByRecursion}
use Rattle.std.proofs.lemmas.Bool.{ltb-false, leb-true}
use Rattle.std.proofs.lemmas.List.{append-nil}
use Rattle.cq_atom.specs.declared.value.Content.TheVariants.{Number, Text}
use Rattle.cq_atom.specs.declared.term.TermKind.TheVariants.{Constant, Variable}
use Rattle.cq_atom.specs.Text.{begins_with_upper, begins_with_lower}
use Rattle.cq_atom.specs.Value.{ValueContent}
use Rattle.cq_atom.specs.Atom.{TermContent, AtomRecord, RowRecord}
use Rattle.cq_text.specs.declared.fault.Kind.{Kind}
use Rattle.cq_text.specs.declared.fault.Kind.TheVariants.{Shape, Limit}
use Rattle.cq_text.specs.declared.fault.TextFault.{TextFault}
use Rattle.cq_text.specs.declared.command.CommandKind.TheVariants.{Setup, Edit, Publish, Show}
use Rattle.cq_text.specs.declared.command.SetupLine.TheVariants.{Relation, Board, Limits}
use Rattle.cq_atom.specs.declared.edit.EditKind.TheVariants.{Post, Withdraw, Insert, Delete}
use Rattle.cq_text.specs.Limits.{max_count, max_form}
use Rattle.cq_text.specs.declared.command.CommandWord.{CommandWord}
use Rattle.cq_text.specs.declared.command.CommandWord.TheVariants as words
use Rattle.cq_text.specs.declared.token.Sign.{Sign}
use Rattle.cq_text.specs.declared.token.Sign.TheVariants.{OpenBrace, CloseBrace, OpenParen, CloseParen, Comma, Arrow}
use Rattle.cq_text.specs.declared.token.Close.{Close}
use Rattle.cq_text.specs.declared.token.Close.TheVariants.{By, End}
use Rattle.cq_text.specs.declared.token.Token.TheVariants.{Mark, Word, Literal, Bad, Finish}
use Rattle.cq_text.specs.Token.{TokenContent, LexemeContent, flaw, tokens_of}
use Rattle.cq_text.specs.Grammar.{count_of, IsConstant, FitsRowGrammar, IsRestrictedCommand, CommandContent, Separated, IsTermText, IsAtomText, AreAtomsIfAny, IsShort, FewTerms, FitsQuery, FitsGrammar, FitsQueryGrammar}
use Rattle.cq_text.specs.Steps.Commands.{command_word, bytes_of, count_in, count_at, relation_at, limits_at, withdraw_at, insert_at, delete_at, word_alone, command_word_in, board_at, form_numbered}
use Rattle.cq_text.specs.Steps.Lexemes.{value_in, Ahead, fault, unless_flawed, ◌>>=◌, next_of, next_at, is_sign, is_finish, short_word, name_in, relation_in, term_in, sign_at, end_at, is_close, goes_on_at}
use Rattle.cq_text.specs.Steps.Lists.{value_at, values_at, row_record, row_at, Item, listed_at, term_at, terms_at, applied_at, atom_record, atom_at, atoms_at, atoms_if_any_at, query_record}
use Rattle.cq_text.proofs.Binds.{bind_ok, guard_ok, guard_not, chosen, ok_is, never_ok}
use Rattle.cq_text.proofs.Loops.{NeedsRoom, term_needs, value_needs, atom_needs}
use Rattle.cq_text.proofs.Words.{and_parts}
use Rattle.cq_text.proofs.Commands.{command_word-is}
use Rattle.cq_text.proofs.Derive.{is_sign-true}
use Rattle.cq_text.proofs.Runs.{QueryParts, parts_at, Parts, posted, whole, post_parts, whole_parts, parts_of, parts_from, command_parts}
use Rattle.cq_text.specs.declared.form.Form.{Form}
use Rattle.cq_text.specs.Forms.{most_terms, most_atoms, number_of_form}

abbrev pub AreShort : List TokenContent → Type 0
AreShort ts = AllByRecursion IsShort ts

AreShort-join : (a b : List TokenContent) → AreShort a → AreShort b → AreShort (a ++ b)
AreShort-join [] b p q = q
AreShort-join (t ∷ a) b p q = (p.0, AreShort-join a b p.1 q)

abbrev pub ahead : Ahead → List TokenContent
ahead a = tokens_of a.lexemes

-- ---- the next token

abbrev Reads : LexemeContent → Ahead → Result (LexemeContent × Ahead) TextFault
Reads l b = Ok (l, b)

pair_is : (m l : LexemeContent) (c b : Ahead) → Reads m c ≡ Reads l b → (m ≡ l) × (c ≡ b)
pair_is m l c b h = let p = ok_is (m, c) (l, b) h in (ap (λ (q : LexemeContent × Ahead). q.0) p, ap (λ (q : LexemeContent × Ahead). q.1) p)

-- what was read next: a lexeme, or the end
pub next_ok : (a : Ahead) (l : LexemeContent) (b : Ahead) → next_at a ≡ Ok (l, b) → ((a.lexemes ≡ l ∷ b.lexemes) × (flaw l.token ≡ None)) ⊎ ((l.token ≡ Finish) × (a.lexemes ≡ []))
unfolding next_at
next_ok a l b e = over a.lexemes refl e
  where
    good : (m : LexemeContent) (ms : List LexemeContent) (f : Option Kind) → flaw m.token ≡ f → unless_flawed {A = LexemeContent × Ahead} f m.at (m, record { lexemes = ms; end = a.end }) ≡ Ok (l, b) → (m ∷ ms ≡ l ∷ b.lexemes) × (flaw l.token ≡ None)
    good m ms None f g =
        let p = pair_is m l (record { lexemes = ms; end = a.end }) b g in
        (ap (λ (k : LexemeContent). k ∷ ms) p.0 ∙ ap (λ (c : Ahead). l ∷ c.lexemes) p.1, ap (λ (k : LexemeContent). flaw k.token) (sym p.0) ∙ f)
    good m ms (Some k) f g = absurd (never_ok k m.at (l, b) g)

    over : (ls : List LexemeContent) → a.lexemes ≡ ls → next_of ls a.end ≡ Ok (l, b) → ((a.lexemes ≡ l ∷ b.lexemes) × (flaw l.token ≡ None)) ⊎ ((l.token ≡ Finish) × (a.lexemes ≡ []))
    over [] d h = inr (ap (λ (k : LexemeContent). k.token) (sym (pair_is (record { at = a.end; token = Finish }) l (record { lexemes = []; end = a.end }) b h).0), d)
    over (m ∷ ms) d h = let g = good m ms (flaw m.token) refl h in inl (d ∙ g.0, g.1)

pub next_lexeme : (a : Ahead) (l : LexemeContent) (b : Ahead) → next_at a ≡ Ok (l, b) → (l.token ≡ Finish → ⊥) → a.lexemes ≡ l ∷ b.lexemes
next_lexeme a l b e n = elim (next_ok a l b e) [ inl h ↦ h.0 | inr h ↦ absurd (n h.0) ]

next_token : (a : Ahead) (l : LexemeContent) (b : Ahead) → next_at a ≡ Ok (l, b) → (l.token ≡ Finish → ⊥) → ahead a ≡ l.token ∷ ahead b
next_token a l b e n = ap tokens_of (next_lexeme a l b e n)

sign_is_not : (s : Sign) (t : TokenContent) → is_sign s t ≡ true → t ≡ Finish → ⊥
sign_is_not s t e f = let h = is_sign-true s t e in cc

next_sign : (s : Sign) (a : Ahead) (l : LexemeContent) (b : Ahead) → next_at a ≡ Ok (l, b) → is_sign s l.token ≡ true → ahead a ≡ Mark s ∷ ahead b
next_sign s a l b e h = next_token a l b e (sign_is_not s l.token h) ∙ ap (λ (t : TokenContent). t ∷ ahead b) (is_sign-true s l.token h)

-- a sign, and its lexeme
pub sign_lexeme : (s : Sign) (a b : Ahead) → sign_at s a ≡ Ok b → (l : LexemeContent) × (a.lexemes ≡ l ∷ b.lexemes) × (l.token ≡ Mark s)
unfolding sign_at
sign_lexeme s a b e =
    let p = bind_ok (next_at a) _ b e in
    let g = guard_ok (is_sign s p.0.0.token) Shape p.0.0.at p.0.1 b p.2 in
    (p.0.0, next_lexeme a p.0.0 p.0.1 p.1 (sign_is_not s p.0.0.token g.0) ∙ ap (λ (r : Ahead). p.0.0 ∷ r.lexemes) g.1, is_sign-true s p.0.0.token g.0)

pub sign_ok : (s : Sign) (a b : Ahead) → sign_at s a ≡ Ok b → ahead a ≡ Mark s ∷ ahead b
sign_ok s a b e = let l = sign_lexeme s a b e in ap tokens_of l.1 ∙ ap (λ (t : TokenContent). t ∷ ahead b) l.2

finish_flawed : (t : TokenContent) → is_finish t ≡ true → flaw t ≡ None → ⊥
finish_flawed Finish e f = cc
finish_flawed (Mark s) e f = cc
finish_flawed (Word w) e f = cc
finish_flawed (Literal v) e f = cc
finish_flawed (Bad k) e f = cc

next_end : (a : Ahead) (l : LexemeContent) (b : Ahead) → next_at a ≡ Ok (l, b) → is_finish l.token ≡ true → ahead a ≡ []
next_end a l b e f = elim (next_ok a l b e) [ inl h ↦ absurd (finish_flawed l.token f h.1) | inr h ↦ ap tokens_of h.1 ]

pub end_ok : (a b : Ahead) → end_at a ≡ Ok b → ahead a ≡ []
unfolding end_at
end_ok a b e =
    let p = bind_ok (next_at a) _ b e in
    let g = guard_ok (is_finish p.0.0.token) Shape p.0.0.at p.0.1 b p.2 in
    next_end a p.0.0 p.0.1 p.1 g.0

-- what stands after a list, and after its items
abbrev pub closing : Close → List TokenContent → List TokenContent
closing (By s) ts = Mark s ∷ ts
closing End ts = []

abbrev pub after : Close → Bool → List TokenContent → List TokenContent
after (By s) more ts = Mark (cond more Comma s) ∷ ts
after End true ts = Mark Comma ∷ ts
after End false ts = []

after_more : (close : Close) (ts : List TokenContent) → after close true ts ≡ Mark Comma ∷ ts
after_more (By s) ts = refl
after_more End ts = refl

after_last : (close : Close) (ts : List TokenContent) → after close false ts ≡ closing close ts
after_last (By s) ts = refl
after_last End ts = refl

goes_on_ok : (close : Close) (a : Ahead) (m : Bool × Ahead) → goes_on_at close a ≡ Ok m → ahead a ≡ after close m.0 (ahead m.1)
unfolding goes_on_at
goes_on_ok (By close) a m e =
    let p = bind_ok (next_at a) _ m e in
    elim (chosen (is_sign Comma p.0.0.token) _ _ m p.2) [
      | inl (h, k) ↦ next_sign Comma a p.0.0 p.0.1 p.1 h ∙ ap (λ (n : Bool × Ahead). Mark (cond n.0 Comma close) ∷ ahead n.1) (ok_is (true, p.0.1) m k)
      | inr (h, k) ↦
          let g = guard_ok (is_sign close p.0.0.token) Shape p.0.0.at (false, p.0.1) m k in
          next_sign close a p.0.0 p.0.1 p.1 g.0 ∙ ap (λ (n : Bool × Ahead). Mark (cond n.0 Comma close) ∷ ahead n.1) g.1
    ]
goes_on_ok End a m e =
    let p = bind_ok (next_at a) _ m e in
    elim (chosen (is_sign Comma p.0.0.token) _ _ m p.2) [
      | inl (h, k) ↦ next_sign Comma a p.0.0 p.0.1 p.1 h ∙ ap (λ (n : Bool × Ahead). after End n.0 (ahead n.1)) (ok_is (true, p.0.1) m k)
      | inr (h, k) ↦
          let g = guard_ok (is_finish p.0.0.token) Shape p.0.0.at (false, p.0.1) m k in
          next_end a p.0.0 p.0.1 p.1 g.0 ∙ ap (λ (n : Bool × Ahead). after End n.0 (ahead n.1)) g.1
    ]

-- ---- words and terms

short_ok : (w v : List ℕ) (at : ℕ) → short_word w at ≡ Ok v → (length w ≤ 32) × (w ≡ v)
short_ok w v at e = let g = guard_not (nat_lt 32 (length w)) Limit at w v e in (ltb-false 32 (length w) g.0, g.1)

record IsWord (t : TokenContent) (w : List ℕ) : Type 0 where
  pub is : t ≡ Word w
  pub short : length w ≤ 32

word_not_finish : (t : TokenContent) (w : List ℕ) → t ≡ Word w → t ≡ Finish → ⊥
word_not_finish t w e f = cc

name_ok : (t : TokenContent) (at : ℕ) (v : List ℕ) → name_in t at ≡ Ok v → IsWord t v
name_ok (Word w) at v e = let s = short_ok w v at e in record { is = ap (λ (u : List ℕ). Word u) s.1; short = subst (λ (u : List ℕ). length u ≤ 32) s.1 s.0 }
name_ok (Mark s) at v e = absurd (never_ok Shape at v e)
name_ok (Literal n) at v e = absurd (never_ok Shape at v e)
name_ok (Bad k) at v e = absurd (never_ok Shape at v e)
name_ok Finish at v e = absurd (never_ok Shape at v e)

record IsUpper (t : TokenContent) (w : List ℕ) : Type 0 where
  pub is : t ≡ Word w
  pub short : length w ≤ 32
  pub upper : begins_with_upper w ≡ true

relation_ok : (t : TokenContent) (at : ℕ) (v : List ℕ) → relation_in t at ≡ Ok v → IsUpper t v
relation_ok (Word w) at v e = by_case (chosen (begins_with_upper w) (short_word w at) (fault Shape at) v e)
  where
    by_case : ((begins_with_upper w ≡ true) × (short_word w at ≡ Ok v)) ⊎ ((begins_with_upper w ≡ false) × (fault Shape at ≡ Ok v)) → IsUpper (Word w) v
    by_case (inl (u, h)) = let s = short_ok w v at h in record { is = ap (λ (z : List ℕ). Word z) s.1; short = subst (λ (z : List ℕ). length z ≤ 32) s.1 s.0; upper = subst (λ (z : List ℕ). begins_with_upper z ≡ true) s.1 u }
    by_case (inr (u, h)) = absurd (never_ok Shape at v h)
relation_ok (Mark s) at v e = absurd (never_ok Shape at v e)
relation_ok (Literal n) at v e = absurd (never_ok Shape at v e)
relation_ok (Bad k) at v e = absurd (never_ok Shape at v e)
relation_ok Finish at v e = absurd (never_ok Shape at v e)

record IsTerm (t : TokenContent) (x : TermContent) : Type 0 where
  pub is : IsTermText (t ∷ []) x
  pub short : AreShort (t ∷ [])
  pub no_end : t ≡ Finish → ⊥

upper_term : (w : List ℕ) (at : ℕ) (x : TermContent) → begins_with_upper w ≡ true → (short_word w at >>= λ v. Ok (Constant (Text v))) ≡ Ok x → IsTerm (Word w) x
upper_term w at x u e =
    let p = bind_ok (short_word w at) _ x e in
    let s = short_ok w p.0 at p.1 in
    let made : IsTerm (Word w) (Constant (Text w)) = record { is = inr (refl, u); short = (s.0, tt); no_end = λ h. cc } in
    subst (λ (y : TermContent). IsTerm (Word w) y) (ap (λ (v : List ℕ). Constant (Text v)) s.1 ∙ ok_is (Constant (Text p.0)) x p.2) made

lower_term : (w : List ℕ) (at : ℕ) (x : TermContent) → begins_with_lower w ≡ true → (short_word w at >>= λ v. Ok (Variable v)) ≡ Ok x → IsTerm (Word w) x
lower_term w at x u e =
    let p = bind_ok (short_word w at) _ x e in
    let s = short_ok w p.0 at p.1 in
    let made : IsTerm (Word w) (Variable w) = record { is = (refl, u); short = (s.0, tt); no_end = λ h. cc } in
    subst (λ (y : TermContent). IsTerm (Word w) y) (ap (λ (v : List ℕ). Variable v) s.1 ∙ ok_is (Variable p.0) x p.2) made

term_in_ok : (t : TokenContent) (at : ℕ) (x : TermContent) → term_in t at ≡ Ok x → IsTerm t x
term_in_ok (Word w) at x e = elim (chosen (begins_with_upper w) _ _ x e) [
  | inl (u, h) ↦ upper_term w at x u h
  | inr (u, h) ↦ elim (chosen (begins_with_lower w) _ _ x h) [
    | inl (l, k) ↦ lower_term w at x l k
    | inr (l, k) ↦ absurd (never_ok Shape at x k)
  ]
]
term_in_ok (Literal v) at x e = subst (λ (y : TermContent). IsTerm (Literal v) y) (ok_is (Constant v) x e) (record { is = literal v; short = (tt, tt); no_end = λ h. cc })
  where
    literal : (v : _) → IsTermText (Literal v ∷ []) (Constant v)
    literal (Number n) = refl
    literal (Text w) = inl refl
term_in_ok (Mark s) at x e = absurd (never_ok Shape at x e)
term_in_ok (Bad k) at x e = absurd (never_ok Shape at x e)
term_in_ok Finish at x e = absurd (never_ok Shape at x e)

-- ---- lists

-- an item that was read, with what stands after it
pub record ItemRead {A : Type 0} (P : List TokenContent → A → Type 0) (Q : A → Type 0) (close : Close) (a : Ahead) (i : A × Bool × Ahead) : Type 0 where
  pub front : List TokenContent
  pub parts : ahead a ≡ front ++ after close i.1 (ahead i.2)
  pub is : P front i.0
  pub short : AreShort front
  pub fits : Q i.0

-- the items that were read, up to what closes the list
pub record Listed {A : Type 0} (P : List TokenContent → A → Type 0) (Q : A → Type 0) (close : Close) (n : ℕ) (a : Ahead) (r : List A × Ahead) : Type 0 where
  pub inner : List TokenContent
  pub parts : ahead a ≡ inner ++ closing close (ahead r.1)
  pub separated : Separated P inner r.0
  pub short : AreShort inner
  pub few : length r.0 ≤ n
  pub fits : AllByRecursion Q r.0

one_item : {A : Type 0} (P : List TokenContent → A → Type 0) (Q : A → Type 0) (close : Close) (n : ℕ) (a : Ahead) (i : A × Bool × Ahead) → ItemRead P Q close a i → i.1 ≡ false → Listed P Q close (suc n) a (i.0 ∷ [], i.2)
one_item P Q close n a i r e = record {
  inner = r.front;
  parts = r.parts ∙ ap (λ (b : Bool). r.front ++ after close b (ahead i.2)) e ∙ ap (λ (m : List TokenContent). r.front ++ m) (after_last close (ahead i.2));
  separated = r.is;
  short = r.short;
  few = omega arith;
  fits = (r.fits, tt);
}

more_items : {A : Type 0} (P : List TokenContent → A → Type 0) (Q : A → Type 0) (close : Close) (n : ℕ) (a : Ahead) (i : A × Bool × Ahead) (xs : List A) (b : Ahead) → ItemRead P Q close a i → i.1 ≡ true → Listed P Q close n i.2 (xs, b) → Listed P Q close (suc n) a (i.0 ∷ xs, b)
more_items P Q close n a i [] b r e l = absurd l.separated
more_items P Q close n a i (y ∷ ys) b r e l = record {
  inner = r.front ++ (Mark Comma ∷ l.inner);
  parts = r.parts ∙ ap (λ (c : Bool). r.front ++ after close c (ahead i.2)) e ∙ ap (λ (m : List TokenContent). r.front ++ m) (after_more close (ahead i.2)) ∙ ap (λ (m : List TokenContent). r.front ++ (Mark Comma ∷ m)) l.parts ∙ sym (append_assoc r.front (Mark Comma ∷ l.inner) (closing close (ahead b)));
  separated = (r.front, l.inner, refl, r.is, l.separated);
  short = AreShort-join r.front (Mark Comma ∷ l.inner) r.short (tt, l.short);
  few = let h = l.few in omega arith;
  fits = (r.fits, l.fits);
}

listed_ok : {A : Type 0} (P : List TokenContent → A → Type 0) (Q : A → Type 0) (close : Close) (item : Item A) (n : ℕ) (a : Ahead) (r : List A × Ahead)
    → ((b : Ahead) (i : A × Bool × Ahead) → item true b ≡ Ok i → ItemRead P Q close b i) → NeedsRoom item → listed_at item n a ≡ Ok r → Listed P Q close n a r
unfolding listed_at
listed_ok P Q close item zero a r one needs e = let p = bind_ok (item false a) _ r e in absurd (needs a p.0 p.1)
listed_ok {A} P Q close item (suc n) a r one needs e =
    let p = bind_ok (item true a) _ r e in
    elim (chosen p.0.1 _ _ r p.2) [
      | inl (h, m) ↦
          let q = bind_ok (listed_at item n p.0.2) _ r m in
          subst (λ (z : List A × Ahead). Listed P Q close (suc n) a z) (ok_is (p.0.0 ∷ q.0.0, q.0.1) r q.2)
          (more_items P Q close n a p.0 q.0.0 q.0.1 (one a p.0 p.1) h (listed_ok P Q close item n p.0.2 q.0 one needs q.1))
      | inr (h, m) ↦ subst (λ (z : List A × Ahead). Listed P Q close (suc n) a z) (ok_is (p.0.0 ∷ [], p.0.2) r m) (one_item P Q close n a p.0 (one a p.0 p.1) h)
    ]

abbrev AnyTerm : TermContent → Type 0
AnyTerm x = Unit {0}

abbrev TermRead : Ahead → TermContent × Bool × Ahead → Type 0
TermRead a i = ItemRead IsTermText AnyTerm (By CloseParen) a i

term_ok : (a : Ahead) (i : TermContent × Bool × Ahead) → term_at true a ≡ Ok i → TermRead a i
unfolding term_at
term_ok a i e =
    let p = bind_ok (next_at a) _ i e in
    let q = bind_ok (term_in p.0.0.token p.0.0.at) _ i p.2 in
    let m = bind_ok (goes_on_at (By CloseParen) p.0.1) _ i q.2 in
    let t = term_in_ok p.0.0.token p.0.0.at q.0 q.1 in
    subst (λ (z : TermContent × Bool × Ahead). TermRead a z) (ok_is (q.0, m.0.0, m.0.1) i m.2)
    (record { front = p.0.0.token ∷ []; parts = next_token a p.0.0 p.0.1 p.1 t.no_end ∙ ap (λ (ts : List TokenContent). p.0.0.token ∷ ts) (goes_on_ok (By CloseParen) p.0.1 m.0 m.1); is = t.is; short = t.short; fits = tt })

terms_ok : (form : Form) → (a : Ahead) (r : List TermContent × Ahead) → terms_at form a ≡ Ok r → Listed IsTermText AnyTerm (By CloseParen) (most_terms form) a r
unfolding terms_at
terms_ok form a r e = listed_ok IsTermText AnyTerm (By CloseParen) term_at (most_terms form) a r term_ok term_needs e

-- ---- ground atoms

record IsValueText (t : TokenContent) (v : ValueContent) : Type 0 where
  pub is : IsConstant (t ∷ []) v
  pub short : AreShort (t ∷ [])
  pub no_end : t ≡ Finish → ⊥

upper_value : (w : List ℕ) (at : ℕ) (v : ValueContent) → begins_with_upper w ≡ true → (short_word w at >>= λ x. Ok (Text x)) ≡ Ok v → IsValueText (Word w) v
upper_value w at v u e =
    let p = bind_ok (short_word w at) _ v e in
    let s = short_ok w p.0 at p.1 in
    let made : IsValueText (Word w) (Text w) = record { is = inr (refl, u); short = (s.0, tt); no_end = λ h. cc } in
    subst (λ (y : ValueContent). IsValueText (Word w) y) (ap (λ (x : List ℕ). Text x) s.1 ∙ ok_is (Text p.0) v p.2) made

value_in_ok : (t : TokenContent) (at : ℕ) (v : ValueContent) → value_in t at ≡ Ok v → IsValueText t v
value_in_ok (Word w) at v e = elim (chosen (begins_with_upper w) _ _ v e) [ inl (u, h) ↦ upper_value w at v u h | inr (u, h) ↦ absurd (never_ok Shape at v h) ]
value_in_ok (Literal n) at v e = subst (λ (y : ValueContent). IsValueText (Literal n) y) (ok_is n v e) (record { is = literal n; short = (tt, tt); no_end = λ h. cc })
  where
    literal : (n : _) → IsConstant (Literal n ∷ []) n
    literal (Number k) = refl
    literal (Text w) = inl refl
value_in_ok (Mark s) at v e = absurd (never_ok Shape at v e)
value_in_ok (Bad k) at v e = absurd (never_ok Shape at v e)
value_in_ok Finish at v e = absurd (never_ok Shape at v e)

abbrev AnyValue : ValueContent → Type 0
AnyValue v = Unit {0}

abbrev ValueRead : Ahead → ValueContent × Bool × Ahead → Type 0
ValueRead a i = ItemRead IsConstant AnyValue (By CloseParen) a i

value_ok : (a : Ahead) (i : ValueContent × Bool × Ahead) → value_at true a ≡ Ok i → ValueRead a i
unfolding value_at
value_ok a i e =
    let p = bind_ok (next_at a) _ i e in
    let q = bind_ok (value_in p.0.0.token p.0.0.at) _ i p.2 in
    let m = bind_ok (goes_on_at (By CloseParen) p.0.1) _ i q.2 in
    let v = value_in_ok p.0.0.token p.0.0.at q.0 q.1 in
    subst (λ (z : ValueContent × Bool × Ahead). ValueRead a z) (ok_is (q.0, m.0.0, m.0.1) i m.2)
    (record { front = p.0.0.token ∷ []; parts = next_token a p.0.0 p.0.1 p.1 v.no_end ∙ ap (λ (ts : List TokenContent). p.0.0.token ∷ ts) (goes_on_ok (By CloseParen) p.0.1 m.0 m.1); is = v.is; short = v.short; fits = tt })

values_ok : (form : Form) → (a : Ahead) (r : List ValueContent × Ahead) → values_at form a ≡ Ok r → Listed IsConstant AnyValue (By CloseParen) (most_terms form) a r
unfolding values_at
values_ok form a r e = listed_ok IsConstant AnyValue (By CloseParen) value_at (most_terms form) a r value_ok value_needs e

pub row_ok : (form : Form) → (a : Ahead) (row : RowRecord) → row_at form a ≡ Ok row → FitsRowGrammar form a.lexemes row
unfolding row_at
row_ok form a row e =
    let p = bind_ok (next_at a) _ row e in
    let q = bind_ok (relation_in p.0.0.token p.0.0.at) _ row p.2 in
    let s = bind_ok (sign_at OpenParen p.0.1) _ row q.2 in
    let v = bind_ok (values_at form s.0) _ row s.2 in
    let f = bind_ok (end_at v.0.1) _ row v.2 in
    let u = relation_ok p.0.0.token p.0.0.at q.0 q.1 in
    let l = values_ok form s.0 v.0 v.1 in
    let first : ahead a ≡ Word q.0 ∷ ahead p.0.1 = next_token a p.0.0 p.0.1 p.1 (word_not_finish p.0.0.token q.0 u.is) ∙ ap (λ (t : TokenContent). t ∷ ahead p.0.1) u.is in
    let inside : ahead p.0.1 ≡ Mark OpenParen ∷ (l.inner ++ (Mark CloseParen ∷ [])) =
    sign_ok OpenParen p.0.1 s.0 s.1 ∙ ap (λ (ts : List TokenContent). Mark OpenParen ∷ ts) (l.parts ∙ ap (λ (ts : List TokenContent). l.inner ++ (Mark CloseParen ∷ ts)) (end_ok v.0.1 f.0 f.1))
    in
    let tokens : ahead a ≡ Word q.0 ∷ Mark OpenParen ∷ (l.inner ++ (Mark CloseParen ∷ [])) = first ∙ ap (λ (ts : List TokenContent). Word q.0 ∷ ts) inside in
    subst (λ (z : RowRecord). FitsRowGrammar form a.lexemes z) (ok_is (row_record q.0 v.0.0) row f.2)
    (record { sentence = (l.inner, tokens, u.upper, l.separated); short = subst AreShort (sym tokens) (u.short, (tt, AreShort-join l.inner (Mark CloseParen ∷ []) l.short (tt, tt))); fits = l.few })

-- ---- counts

record IsCount (most : ℕ) (t : TokenContent) (n : ℕ) : Type 0 where
  pub number : ℤ
  pub is : t ≡ Literal (Number number)
  pub count : n ≡ count_of number
  pub some : 1 ≤ n
  pub few : n ≤ most

count_in_ok : (most : ℕ) (t : TokenContent) (at : ℕ) (n : ℕ) → count_in most t at ≡ Ok n → IsCount most t n
count_in_ok most (Literal (Number k)) at n e =
    let g = guard_ok (nat_le 1 (count_of k) && nat_le (count_of k) most) Limit at (count_of k) n e in
    let b = and_parts (nat_le 1 (count_of k)) (nat_le (count_of k) most) g.0 in
    record { number = k; is = refl; count = sym g.1; some = subst (λ (m : ℕ). 1 ≤ m) g.1 (leb-true 1 (count_of k) b.0); few = subst (λ (m : ℕ). m ≤ most) g.1 (leb-true (count_of k) most b.1) }
count_in_ok most (Literal (Text w)) at n e = absurd (never_ok Shape at n e)
count_in_ok most (Word w) at n e = absurd (never_ok Shape at n e)
count_in_ok most (Mark s) at n e = absurd (never_ok Shape at n e)
count_in_ok most (Bad k) at n e = absurd (never_ok Shape at n e)
count_in_ok most Finish at n e = absurd (never_ok Shape at n e)

record CountRead (most : ℕ) (a : Ahead) (n : ℕ × Ahead) : Type 0 where
  pub number : ℤ
  pub parts : ahead a ≡ Literal (Number number) ∷ ahead n.1
  pub count : n.0 ≡ count_of number
  pub some : 1 ≤ n.0
  pub few : n.0 ≤ most

literal_not_finish : (t : TokenContent) (v : ValueContent) → t ≡ Literal v → t ≡ Finish → ⊥
literal_not_finish t v e f = cc

count_ok : (most : ℕ) (a : Ahead) (n : ℕ × Ahead) → count_at most a ≡ Ok n → CountRead most a n
unfolding count_at
count_ok most a n e =
    let p = bind_ok (next_at a) _ n e in
    let q = bind_ok (count_in most p.0.0.token p.0.0.at) _ n p.2 in
    let k = count_in_ok most p.0.0.token p.0.0.at q.0 q.1 in
    subst (λ (z : ℕ × Ahead). CountRead most a z) (ok_is (q.0, p.0.1) n q.2)
    (record { number = k.number; parts = next_token a p.0.0 p.0.1 p.1 (literal_not_finish p.0.0.token (Number k.number) k.is) ∙ ap (λ (t : TokenContent). t ∷ ahead p.0.1) k.is; count = k.count; some = k.some; few = k.few })

-- ---- atoms

record Applied (form : Form) (w : List ℕ) (a : Ahead) (x : AtomRecord × Ahead) : Type 0 where
  pub inner : List TokenContent
  pub parts : ahead a ≡ Mark OpenParen ∷ (inner ++ (Mark CloseParen ∷ ahead x.1))
  pub relation : w ≡ x.0.relation
  pub separated : Separated IsTermText inner x.0.terms
  pub short : AreShort inner
  pub few : (FewTerms form) x.0

applied_ok : (form : Form) → (w : List ℕ) (a : Ahead) (x : AtomRecord × Ahead) → applied_at form w a ≡ Ok x → Applied form w a x
unfolding applied_at
applied_ok form w a x e =
    let p = bind_ok (sign_at OpenParen a) _ x e in
    let q = bind_ok (terms_at form p.0) _ x p.2 in
    let l = terms_ok form p.0 q.0 q.1 in
    subst (λ (z : AtomRecord × Ahead). Applied form w a z) (ok_is (atom_record w q.0.0, q.0.1) x q.2)
    (record { inner = l.inner; parts = sign_ok OpenParen a p.0 p.1 ∙ ap (λ (ts : List TokenContent). Mark OpenParen ∷ ts) l.parts; relation = refl; separated = l.separated; short = l.short; few = l.few })

abbrev AtomRead : (form : Form) → Close → Ahead → AtomRecord × Bool × Ahead → Type 0
AtomRead form close a i = ItemRead IsAtomText (FewTerms form) close a i

atom_ok : (form : Form) → (close : Close) (a : Ahead) (i : AtomRecord × Bool × Ahead) → atom_at form close true a ≡ Ok i → AtomRead form close a i
unfolding atom_at
atom_ok form close a i e =
    let p = bind_ok (next_at a) _ i e in
    let q = bind_ok (relation_in p.0.0.token p.0.0.at) _ i p.2 in
    let s = bind_ok (applied_at form q.0 p.0.1) _ i q.2 in
    let m = bind_ok (goes_on_at close s.0.1) _ i s.2 in
    let u = relation_ok p.0.0.token p.0.0.at q.0 q.1 in
    let x = applied_ok form q.0 p.0.1 s.0 s.1 in
    let first : ahead a ≡ Word q.0 ∷ ahead p.0.1 = next_token a p.0.0 p.0.1 p.1 (word_not_finish p.0.0.token q.0 u.is) ∙ ap (λ (t : TokenContent). t ∷ ahead p.0.1) u.is in
    let tail : ahead p.0.1 ≡ Mark OpenParen ∷ (x.inner ++ (Mark CloseParen ∷ after close m.0.0 (ahead m.0.1))) =
    x.parts ∙ ap (λ (ts : List TokenContent). Mark OpenParen ∷ (x.inner ++ (Mark CloseParen ∷ ts))) (goes_on_ok close s.0.1 m.0 m.1)
    in
    subst (λ (z : AtomRecord × Bool × Ahead). AtomRead form close a z) (ok_is (s.0.0, m.0.0, m.0.1) i m.2)
    (record {
      front = Word q.0 ∷ Mark OpenParen ∷ (x.inner ++ (Mark CloseParen ∷ []));
      parts = first ∙ ap (λ (ts : List TokenContent). Word q.0 ∷ ts) (tail ∙ ap (λ (ts : List TokenContent). Mark OpenParen ∷ ts) (sym (append_assoc x.inner (Mark CloseParen ∷ []) (after close m.0.0 (ahead m.0.1)))));
      is = (x.inner, ap (λ (w : List ℕ). Word w ∷ Mark OpenParen ∷ (x.inner ++ (Mark CloseParen ∷ []))) x.relation, subst (λ (w : List ℕ). begins_with_upper w ≡ true) x.relation u.upper, x.separated);
      short = (u.short, (tt, AreShort-join x.inner (Mark CloseParen ∷ []) x.short (tt, tt)));
      fits = x.few;
    })

abbrev pub AtomsRead : (form : Form) → Close → Ahead → List AtomRecord × Ahead → Type 0
AtomsRead form close a r = Listed IsAtomText (FewTerms form) close (most_atoms form) a r

pub atoms_ok : (form : Form) → (close : Close) (a : Ahead) (r : List AtomRecord × Ahead) → atoms_at form close a ≡ Ok r → AtomsRead form close a r
unfolding atoms_at
atoms_ok form close a r e = listed_ok IsAtomText (FewTerms form) close (atom_at form close) (most_atoms form) a r (atom_ok form close) (atom_needs form close) e

-- atoms, if any
pub record AtomsIfAnyRead (form : Form) (close : Close) (a : Ahead) (r : List AtomRecord × Ahead) : Type 0 where
  pub inner : List TokenContent
  pub parts : ahead a ≡ inner ++ closing close (ahead r.1)
  pub are : AreAtomsIfAny inner r.0
  pub short : AreShort inner
  pub few : length r.0 ≤ most_atoms form
  pub fits : AllByRecursion (FewTerms form) r.0

from_atoms : (form : Form) → (close : Close) (a : Ahead) (xs : List AtomRecord) (b : Ahead) → AtomsRead form close a (xs, b) → AtomsIfAnyRead form close a (xs, b)
from_atoms form close a [] b l = absurd l.separated
from_atoms form close a (x ∷ xs) b l = record { inner = l.inner; parts = l.parts; are = l.separated; short = l.short; few = l.few; fits = l.fits }

next_close : (close : Close) (a : Ahead) (l : LexemeContent) (b : Ahead) → next_at a ≡ Ok (l, b) → is_close close l.token ≡ true → ahead a ≡ closing close (ahead b)
next_close (By s) a l b e h = next_sign s a l b e h
next_close End a l b e h = next_end a l b e h

atoms_if_any_ok : (form : Form) → (close : Close) (a : Ahead) (r : List AtomRecord × Ahead) → atoms_if_any_at form close a ≡ Ok r → AtomsIfAnyRead form close a r
unfolding atoms_if_any_at
atoms_if_any_ok form close a r e =
    let p = bind_ok (next_at a) _ r e in
    elim (chosen (is_close close p.0.0.token) _ _ r p.2) [
      | inl (h, m) ↦
          subst (λ (z : List AtomRecord × Ahead). AtomsIfAnyRead form close a z) (ok_is ([], p.0.1) r m)
          (record { inner = []; parts = next_close close a p.0.0 p.0.1 p.1 h; are = refl; short = tt; few = omega arith; fits = tt })
      | inr (h, m) ↦ from_atoms form close a r.0 r.1 (atoms_ok form close a r m)
    ]

-- ---- queries and commands

pub record QueryRead (form : Form) (a : Ahead) (q : QueryParts) : Type 0 where
  pub posts : List TokenContent
  pub heads : List TokenContent
  pub body : List TokenContent
  pub brace : LexemeContent
  pub is_brace : brace.token ≡ Mark OpenBrace
  pub behind : a.lexemes ≡ brace ∷ q.3.lexemes
  pub parts : ahead q.3 ≡ posts ++ (Mark CloseBrace ∷ (heads ++ (Mark Arrow ∷ body)))
  pub are_posts : AreAtomsIfAny posts q.0
  pub are_heads : Separated IsAtomText heads q.1
  pub are_body : AreAtomsIfAny body q.2
  pub short_posts : AreShort posts
  pub short_heads : AreShort heads
  pub short_body : AreShort body
  pub fits : (FitsQuery form) (query_record q.0 q.1 q.2)

pub parts_ok : (form : Form) → (a : Ahead) (q : QueryParts) → parts_at form a ≡ Ok q → QueryRead form a q
unfolding parts_at
parts_ok form a q e =
    let s = bind_ok (sign_at OpenBrace a) _ q e in
    let ps = bind_ok (atoms_if_any_at form (By CloseBrace) s.0) _ q s.2 in
    let hs = bind_ok (atoms_at form (By Arrow) ps.0.1) _ q ps.2 in
    let bs = bind_ok (atoms_if_any_at form End hs.0.1) _ q hs.2 in
    let l = sign_lexeme OpenBrace a s.0 s.1 in
    let x = atoms_if_any_ok form (By CloseBrace) s.0 ps.0 ps.1 in
    let y = atoms_ok form (By Arrow) ps.0.1 hs.0 hs.1 in
    let z = atoms_if_any_ok form End hs.0.1 bs.0 bs.1 in
    subst (λ (z : QueryParts). QueryRead form a z) (ok_is (ps.0.0, hs.0.0, bs.0.0, s.0) q bs.2)
    (record {
      posts = x.inner;
      heads = y.inner;
      body = z.inner;
      brace = l.0;
      is_brace = l.2;
      behind = l.1;
      parts = x.parts ∙ ap (λ (ts : List TokenContent). x.inner ++ (Mark CloseBrace ∷ ts)) (y.parts ∙ ap (λ (ts : List TokenContent). y.inner ++ (Mark Arrow ∷ ts)) (z.parts ∙ append-nil z.inner));
      are_posts = x.are;
      are_heads = y.separated;
      are_body = z.are;
      short_posts = x.short;
      short_heads = y.short;
      short_body = z.short;
      fits = (x.few, y.few, z.few, x.fits, y.fits, z.fits);
    })

query_tokens : (form : Form) → (a : Ahead) (q : QueryParts) (r : (QueryRead form) a q) → ahead a ≡ Mark OpenBrace ∷ (r.posts ++ (Mark CloseBrace ∷ (r.heads ++ (Mark Arrow ∷ r.body))))
query_tokens form a q r = ap tokens_of r.behind ∙ ap (λ (t : TokenContent). t ∷ ahead q.3) r.is_brace ∙ ap (λ (ts : List TokenContent). Mark OpenBrace ∷ ts) r.parts

query_short : (form : Form) → (a : Ahead) (q : QueryParts) (r : (QueryRead form) a q) → AreShort (ahead a)
query_short form a q r = subst AreShort (sym (query_tokens form a q r)) (tt, AreShort-join r.posts (Mark CloseBrace ∷ (r.heads ++ (Mark Arrow ∷ r.body))) r.short_posts (tt, AreShort-join r.heads (Mark Arrow ∷ r.body) r.short_heads (tt, r.short_body)))

pub query_fits : (form : Form) → (a : Ahead) (q : QueryParts) → QueryRead form a q → FitsQueryGrammar form a.lexemes (query_record q.0 q.1 q.2)
query_fits form a q r = record {
  sentence = (r.posts, r.heads, r.body, query_tokens form a q r, r.are_posts, r.are_heads, r.are_body);
  short = query_short form a q r;
  fits = r.fits;
}

-- what is read as a command's parts
pub record PostRead (form : Form) (ls : List LexemeContent) (w : List ℕ) (q : QueryParts) : Type 0 where
  pub word : LexemeContent
  pub name : LexemeContent
  pub rest : Ahead
  pub split : ls ≡ word ∷ name ∷ rest.lexemes
  pub is_word : word.token ≡ Word (codes "post")
  pub is_name : name.token ≡ Word w
  pub short : length w ≤ 32
  pub query : (QueryRead form) rest q

-- what is read as a whole command
pub record WholeRead (form : Form) (ls : List LexemeContent) (c : CommandContent) : Type 0 where
  pub fits : (FitsGrammar form) ls c
  pub restricted : IsRestrictedCommand c

abbrev pub PartsRead : (form : Form) → List LexemeContent → Parts → Type 0
PartsRead form ls (posted w q) = PostRead form ls w q
PartsRead form ls (whole c) = WholeRead form ls c

post_ok : (form : Form) → (l : LexemeContent) (a : Ahead) (p : Parts) → l.token ≡ Word (codes "post") → post_parts form a ≡ Ok p → PartsRead form (l ∷ a.lexemes) p
unfolding post_parts
post_ok form l a p is e =
    let n = bind_ok (next_at a) _ p e in
    let w = bind_ok (name_in n.0.0.token n.0.0.at) _ p n.2 in
    let q = bind_ok (parts_at form n.0.1) _ p w.2 in
    let k = name_ok n.0.0.token n.0.0.at w.0 w.1 in
    subst (λ (z : Parts). PartsRead form (l ∷ a.lexemes) z) (ok_is (posted w.0 q.0) p q.2)
    (record {
      word = l;
      name = n.0.0;
      rest = n.0.1;
      split = ap (λ (ls : List LexemeContent). l ∷ ls) (next_lexeme a n.0.0 n.0.1 n.1 (word_not_finish n.0.0.token w.0 k.is));
      is_word = is;
      is_name = k.is;
      short = k.short;
      query = parts_ok form n.0.1 q.0 q.1;
    })

relation_read : (form : Form) → (l : LexemeContent) (a : Ahead) (c : CommandContent) → l.token ≡ Word (codes "relation") → relation_at form a ≡ Ok c → WholeRead form (l ∷ a.lexemes) c
unfolding relation_at
relation_read form l a c is e =
    let p = bind_ok (next_at a) _ c e in
    let q = bind_ok (relation_in p.0.0.token p.0.0.at) _ c p.2 in
    let n = bind_ok (count_at (most_terms form) p.0.1) _ c q.2 in
    let f = bind_ok (end_at n.0.1) _ c n.2 in
    let u = relation_ok p.0.0.token p.0.0.at q.0 q.1 in
    let k = count_ok (most_terms form) p.0.1 n.0 n.1 in
    let first : ahead a ≡ Word q.0 ∷ ahead p.0.1 = next_token a p.0.0 p.0.1 p.1 (word_not_finish p.0.0.token q.0 u.is) ∙ ap (λ (t : TokenContent). t ∷ ahead p.0.1) u.is in
    let rest : ahead p.0.1 ≡ Literal (Number k.number) ∷ [] = k.parts ∙ ap (λ (ts : List TokenContent). Literal (Number k.number) ∷ ts) (end_ok n.0.1 f.0 f.1) in
    let tokens : l.token ∷ ahead a ≡ Word (codes "relation") ∷ Word q.0 ∷ Literal (Number k.number) ∷ [] =
    ap (λ (t : TokenContent). t ∷ ahead a) is ∙ ap (λ (ts : List TokenContent). Word (codes "relation") ∷ ts) (first ∙ ap (λ (ts : List TokenContent). Word q.0 ∷ ts) rest)
    in
    subst (λ (z : CommandContent). WholeRead form (l ∷ a.lexemes) z) (ok_is (Setup (Relation q.0 n.0.0)) c f.2)
    (record { fits = record { sentence = (k.number, tokens, u.upper, k.count); short = subst AreShort (sym tokens) (omega arith, (u.short, (tt, tt))); fits = (k.some, k.few) }; restricted = tt })

-- a number from 1 to 2 is that of its form
number_named : (n : ℤ) (k : ℕ) → k ≡ count_of n → 1 ≤ k → k ≤ 2 → n ≡ pos (number_of_form (form_numbered k))
number_named (negsuc m) k e some few = absurd (let never : ⊥ = omega (arith, e) in never)
number_named (pos zero) k e some few = absurd (let never : ⊥ = omega (arith, e) in never)
number_named (pos (suc zero)) k e some few = rw e refl
number_named (pos (suc (suc zero))) k e some few = rw e refl
number_named (pos (suc (suc (suc m)))) k e some few = absurd (let never : ⊥ = omega (arith, e) in never)

board_read : (form : Form) → (l : LexemeContent) (a : Ahead) (c : CommandContent) → l.token ≡ Word (codes "board") → board_at a ≡ Ok c → WholeRead form (l ∷ a.lexemes) c
unfolding board_at
board_read form l a c is e =
    let n = bind_ok (count_at max_form a) _ c e in
    let f = bind_ok (end_at n.0.1) _ c n.2 in
    let k = count_ok max_form a n.0 n.1 in
    let named = number_named k.number n.0.0 k.count k.some k.few in
    let tokens : l.token ∷ ahead a ≡ Word (codes "board") ∷ Literal (Number (pos (number_of_form (form_numbered n.0.0)))) ∷ [] =
    ap (λ (t : TokenContent). t ∷ ahead a) is ∙ ap (λ (ts : List TokenContent). Word (codes "board") ∷ ts) (k.parts ∙ ap (λ (ts : List TokenContent). Literal (Number k.number) ∷ ts) (end_ok n.0.1 f.0 f.1) ∙ ap (λ (m : ℤ). Literal (Number m) ∷ []) named)
    in
    subst (λ (z : CommandContent). WholeRead form (l ∷ a.lexemes) z) (ok_is (Setup (Board (form_numbered n.0.0))) c f.2)
    (record { fits = record { sentence = tokens; short = subst AreShort (sym tokens) (omega arith, (tt, tt)); fits = tt }; restricted = tt })

limits_read : (form : Form) → (l : LexemeContent) (a : Ahead) (c : CommandContent) → l.token ≡ Word (codes "limits") → limits_at a ≡ Ok c → WholeRead form (l ∷ a.lexemes) c
unfolding limits_at
limits_read form l a c is e =
    let m = bind_ok (count_at max_count a) _ c e in
    let n = bind_ok (count_at max_count m.0.1) _ c m.2 in
    let f = bind_ok (end_at n.0.1) _ c n.2 in
    let pool = count_ok max_count a m.0 m.1 in
    let journal = count_ok max_count m.0.1 n.0 n.1 in
    let rest : ahead m.0.1 ≡ Literal (Number journal.number) ∷ [] = journal.parts ∙ ap (λ (ts : List TokenContent). Literal (Number journal.number) ∷ ts) (end_ok n.0.1 f.0 f.1) in
    let tokens : l.token ∷ ahead a ≡ Word (codes "limits") ∷ Literal (Number pool.number) ∷ Literal (Number journal.number) ∷ [] =
    ap (λ (t : TokenContent). t ∷ ahead a) is ∙ ap (λ (ts : List TokenContent). Word (codes "limits") ∷ ts) (pool.parts ∙ ap (λ (ts : List TokenContent). Literal (Number pool.number) ∷ ts) rest)
    in
    subst (λ (z : CommandContent). WholeRead form (l ∷ a.lexemes) z) (ok_is (Setup (Limits m.0.0 n.0.0)) c f.2)
    (record { fits = record { sentence = (pool.number, journal.number, tokens, pool.count, journal.count); short = subst AreShort (sym tokens) (omega arith, (tt, (tt, tt))); fits = (pool.some, pool.few, journal.some, journal.few) }; restricted = tt })

withdraw_read : (form : Form) → (l : LexemeContent) (a : Ahead) (c : CommandContent) → l.token ≡ Word (codes "withdraw") → withdraw_at a ≡ Ok c → WholeRead form (l ∷ a.lexemes) c
unfolding withdraw_at
withdraw_read form l a c is e =
    let p = bind_ok (next_at a) _ c e in
    let w = bind_ok (name_in p.0.0.token p.0.0.at) _ c p.2 in
    let f = bind_ok (end_at p.0.1) _ c w.2 in
    let k = name_ok p.0.0.token p.0.0.at w.0 w.1 in
    let rest : ahead a ≡ Word w.0 ∷ [] = next_token a p.0.0 p.0.1 p.1 (word_not_finish p.0.0.token w.0 k.is) ∙ ap (λ (t : TokenContent). t ∷ ahead p.0.1) k.is ∙ ap (λ (ts : List TokenContent). Word w.0 ∷ ts) (end_ok p.0.1 f.0 f.1) in
    let tokens : l.token ∷ ahead a ≡ Word (codes "withdraw") ∷ Word w.0 ∷ [] = ap (λ (t : TokenContent). t ∷ ahead a) is ∙ ap (λ (ts : List TokenContent). Word (codes "withdraw") ∷ ts) rest in
    subst (λ (z : CommandContent). WholeRead form (l ∷ a.lexemes) z) (ok_is (Edit (Withdraw w.0)) c f.2)
    (record { fits = record { sentence = tokens; short = subst AreShort (sym tokens) (omega arith, (k.short, tt)); fits = tt }; restricted = tt })

insert_read : (form : Form) → (l : LexemeContent) (a : Ahead) (c : CommandContent) → l.token ≡ Word (codes "insert") → insert_at form a ≡ Ok c → WholeRead form (l ∷ a.lexemes) c
unfolding insert_at
insert_read form l a c is e =
    let r = bind_ok (row_at form a) _ c e in
    let f = row_ok form a r.0 r.1 in
    let tokens : l.token ∷ ahead a ≡ Word (codes "insert") ∷ ahead a = ap (λ (t : TokenContent). t ∷ ahead a) is in
    subst (λ (z : CommandContent). WholeRead form (l ∷ a.lexemes) z) (ok_is (Edit (Insert r.0)) c r.2)
    (record { fits = record { sentence = (ahead a, tokens, f.sentence); short = subst AreShort (sym tokens) (omega arith, f.short); fits = f.fits }; restricted = tt })

delete_read : (form : Form) → (l : LexemeContent) (a : Ahead) (c : CommandContent) → l.token ≡ Word (codes "delete") → delete_at form a ≡ Ok c → WholeRead form (l ∷ a.lexemes) c
unfolding delete_at
delete_read form l a c is e =
    let r = bind_ok (row_at form a) _ c e in
    let f = row_ok form a r.0 r.1 in
    let tokens : l.token ∷ ahead a ≡ Word (codes "delete") ∷ ahead a = ap (λ (t : TokenContent). t ∷ ahead a) is in
    subst (λ (z : CommandContent). WholeRead form (l ∷ a.lexemes) z) (ok_is (Edit (Delete r.0)) c r.2)
    (record { fits = record { sentence = (ahead a, tokens, f.sentence); short = subst AreShort (sym tokens) (omega arith, f.short); fits = f.fits }; restricted = tt })

alone_end : (c d : CommandContent) (a : Ahead) → word_alone c a ≡ Ok d → (ahead a ≡ []) × (c ≡ d)
unfolding word_alone
alone_end c d a e = let f = bind_ok (end_at a) _ d e in (end_ok a f.0 f.1, ok_is c d f.2)

publish_read : (form : Form) → (l : LexemeContent) (a : Ahead) (c : CommandContent) → l.token ≡ Word (codes "publish") → word_alone Publish a ≡ Ok c → WholeRead form (l ∷ a.lexemes) c
publish_read form l a c is e =
    let f = alone_end Publish c a e in
    let tokens : l.token ∷ ahead a ≡ Word (codes "publish") ∷ [] = ap (λ (t : TokenContent). t ∷ ahead a) is ∙ ap (λ (ts : List TokenContent). Word (codes "publish") ∷ ts) f.0 in
    subst (λ (z : CommandContent). WholeRead form (l ∷ a.lexemes) z) f.1
    (record { fits = record { sentence = tokens; short = subst AreShort (sym tokens) (omega arith, tt); fits = tt }; restricted = tt })

show_read : (form : Form) → (l : LexemeContent) (a : Ahead) (c : CommandContent) → l.token ≡ Word (codes "show") → word_alone Show a ≡ Ok c → WholeRead form (l ∷ a.lexemes) c
show_read form l a c is e =
    let f = alone_end Show c a e in
    let tokens : l.token ∷ ahead a ≡ Word (codes "show") ∷ [] = ap (λ (t : TokenContent). t ∷ ahead a) is ∙ ap (λ (ts : List TokenContent). Word (codes "show") ∷ ts) f.0 in
    subst (λ (z : CommandContent). WholeRead form (l ∷ a.lexemes) z) f.1
    (record { fits = record { sentence = tokens; short = subst AreShort (sym tokens) (omega arith, tt); fits = tt }; restricted = tt })

whole_ok : (form : Form) → (ls : List LexemeContent) (r : Result CommandContent TextFault) (p : Parts) → ((c : CommandContent) → r ≡ Ok c → WholeRead form ls c) → whole_parts r ≡ Ok p → PartsRead form ls p
whole_ok form ls r p read e = let c = bind_ok r (λ c. Ok (whole c)) p e in subst (λ (z : Parts). PartsRead form ls z) (ok_is (whole c.0) p c.2) (read c.0 c.1)

-- what stands after a command word
parts_of_ok : (form : Form) → (word : CommandWord) (l : LexemeContent) (a : Ahead) (p : Parts) → l.token ≡ Word (bytes_of word) → parts_of form word a ≡ Ok p → PartsRead form (l ∷ a.lexemes) p
parts_of_ok form words.Relation l a p is e = whole_ok form (l ∷ a.lexemes) (relation_at form a) p (λ c h. relation_read form l a c is h) e
parts_of_ok form words.Board l a p is e = whole_ok form (l ∷ a.lexemes) (board_at a) p (λ c h. board_read form l a c is h) e
parts_of_ok form words.Limits l a p is e = whole_ok form (l ∷ a.lexemes) (limits_at a) p (λ c h. limits_read form l a c is h) e
parts_of_ok form words.Post l a p is e = post_ok form l a p is e
parts_of_ok form words.Withdraw l a p is e = whole_ok form (l ∷ a.lexemes) (withdraw_at a) p (λ c h. withdraw_read form l a c is h) e
parts_of_ok form words.Insert l a p is e = whole_ok form (l ∷ a.lexemes) (insert_at form a) p (λ c h. insert_read form l a c is h) e
parts_of_ok form words.Delete l a p is e = whole_ok form (l ∷ a.lexemes) (delete_at form a) p (λ c h. delete_read form l a c is h) e
parts_of_ok form words.Publish l a p is e = whole_ok form (l ∷ a.lexemes) (word_alone Publish a) p (λ c h. publish_read form l a c is h) e
parts_of_ok form words.Show l a p is e = whole_ok form (l ∷ a.lexemes) (word_alone Show a) p (λ c h. show_read form l a c is h) e

parts_from_ok : (form : Form) → (l : LexemeContent) (a : Ahead) (p : Parts) (t : TokenContent) → l.token ≡ t → parts_from form (command_word_in t) l.at a ≡ Ok p → PartsRead form (l ∷ a.lexemes) p
parts_from_ok form l a p (Word w) is e = by_case (command_word w) refl e
  where
    by_case : (o : Option CommandWord) → command_word w ≡ o → parts_from form o l.at a ≡ Ok p → PartsRead form (l ∷ a.lexemes) p
    by_case None d h = absurd (never_ok Shape l.at p h)
    by_case (Some word) d h = parts_of_ok form word l a p (is ∙ ap (λ (v : List ℕ). Word v) (command_word-is w word d)) h
parts_from_ok form l a p (Mark s) is e = absurd (never_ok Shape l.at p e)
parts_from_ok form l a p (Literal v) is e = absurd (never_ok Shape l.at p e)
parts_from_ok form l a p (Bad k) is e = absurd (never_ok Shape l.at p e)
parts_from_ok form l a p Finish is e = absurd (never_ok Shape l.at p e)

finish_fails : (form : Form) → (t : TokenContent) (at : ℕ) (b : Ahead) (p : Parts) → parts_from form (command_word_in t) at b ≡ Ok p → t ≡ Finish → ⊥
finish_fails form t at b p e f = never_ok Shape at p (ap (λ (u : TokenContent). parts_from form (command_word_in u) at b) (sym f) ∙ e)

pub command_parts_ok : (form : Form) → (a : Ahead) (p : Parts) → command_parts form a ≡ Ok p → PartsRead form a.lexemes p
unfolding command_parts
command_parts_ok form a p e =
    let n = bind_ok (next_at a) _ p e in
    let split = next_lexeme a n.0.0 n.0.1 n.1 (finish_fails form n.0.0.token n.0.0.at n.0.1 p n.2) in
    subst (λ (ls : List LexemeContent). PartsRead form ls p) (sym split) (parts_from_ok form n.0.0 n.0.1 p n.0.0.token refl n.2)

-- a post that was read fits the grammar
pub post_fits : (form : Form) → (ls : List LexemeContent) (w : List ℕ) (q : QueryParts) → PostRead form ls w q → FitsGrammar form ls (Edit (Post w (query_record q.0 q.1 q.2)))
post_fits form ls w q r =
    let f = query_fits form r.rest q r.query in
    let tokens : tokens_of ls ≡ Word (codes "post") ∷ Word w ∷ ahead r.rest = ap tokens_of r.split ∙ ap (λ (t : TokenContent). t ∷ r.name.token ∷ ahead r.rest) r.is_word ∙ ap (λ (t : TokenContent). Word (codes "post") ∷ t ∷ ahead r.rest) r.is_name in
    record { sentence = (ahead r.rest, tokens, f.sentence); short = subst AreShort (sym tokens) (omega arith, (r.short, f.short)); fits = f.fits }
