-- Reading stops where the scan does, with the same fault.
use Rattle.std.proofs.Common.{◌≡◌, ℕ, zero, suc, ◌+◌, ◌<◌, Bool, true, false, cond, List, [], ◌∷◌, ◌++◌, length, Option, Some, None, Result, Ok, Err, option_map, refl, sym, ap, subst, ◌∙◌, append_assoc, arith}
use Rattle.std.specs.Prelude.{nat_lt, nat_le, not, ◌||◌, ◌&&◌, codes}
use Rattle.std.specs.Str.{bytes_eq}
use Rattle.std.proofs.lemmas.Bool.{lt-leb}
use Rattle.cq_atom.specs.declared.value.Content.TheVariants.{Number, Text}
use Rattle.cq_atom.specs.declared.term.TermKind.TheVariants.{Constant, Variable}
use Rattle.cq_atom.specs.Text.{begins_with_upper, begins_with_lower}
use Rattle.cq_atom.specs.Value.{ValueContent}
use Rattle.cq_atom.specs.Atom.{TermContent, AtomRecord}
use Rattle.cq_atom.specs.Query.{QueryRecord}
use Rattle.cq_text.specs.declared.fault.Kind.{Kind}
use Rattle.cq_text.specs.declared.fault.Kind.TheVariants.{Shape, Limit}
use Rattle.cq_text.specs.declared.fault.TextFault.{TextFault}
use Rattle.cq_text.specs.Limits.{max_count, max_form}
use Rattle.cq_text.specs.declared.command.CommandKind.TheVariants.{Edit, Publish, Show}
use Rattle.cq_atom.specs.declared.edit.EditKind.TheVariants.{Post}
use Rattle.cq_text.specs.declared.command.CommandWord.{CommandWord}
use Rattle.cq_text.specs.declared.command.CommandWord.TheVariants as words
use Rattle.cq_text.specs.declared.token.Sign.{Sign}
use Rattle.cq_text.specs.declared.token.Sign.TheVariants.{OpenBrace, CloseBrace, OpenParen, CloseParen, Comma, Arrow}
use Rattle.cq_text.specs.declared.token.Close.{Close}
use Rattle.cq_text.specs.declared.token.Close.TheVariants.{By, End}
use Rattle.cq_text.specs.declared.token.Token.TheVariants.{Mark, Word, Literal, Bad, Finish}
use Rattle.cq_text.specs.Token.{TokenContent, LexemeContent, flaw}
use Rattle.cq_text.specs.Grammar.{CommandContent, count_of}
use Rattle.cq_text.specs.Fault.{Place, opening, most_behind, behind_token, is_over}
use Rattle.cq_text.specs.Steps.Commands.{command_word, bytes_of, count_in, count_at, relation_at, limits_at, withdraw_at, insert_at, delete_at, command_of, command_word_in, post_at, word_alone, command_from, command_at, board_at}
use Rattle.cq_text.specs.Steps.Lexemes.{value_in, Ahead, fault, unless_flawed, ◌>>=◌, next_of, next_at, is_sign, is_finish, name_in, relation_in, term_in, sign_at, end_at, goes_on_at}
use Rattle.cq_text.specs.Steps.Lists.{value_at, values_at, row_at, Item, listed_at, term_at, terms_at, applied_at, atom_at, atoms_at, atoms_if_any_at, bound_query, query_at}
use Rattle.cq_text.proofs.Binds.{bind_assoc, bind_same, bind_cond, bind_never, bind_ok_same}
use Rattle.cq_text.proofs.Commands.{bytes_eq-true, command_word-is}
use Rattle.cq_text.proofs.Loops.{NeedsRoom, term_needs, value_needs, atom_needs, atoms_to_end}
use Rattle.cq_text.proofs.Machine.{upper, number, value, values_end, row_symbols, Symbol, mark, name, term, terms_end, atom, posts_end, heads_end, posts, command, atom_symbols, query_symbols, when, first, first_of_atom, first_in_list, take_token, body_end, body, is_nullable}
use Rattle.cq_text.proofs.Derive.{is_sign-true, is_sign-same}
use Rattle.cq_text.proofs.Scan.{Checked, on_token, after_flaw, scan, finish_first, at_end}
use Rattle.cq_text.specs.declared.form.Form.{Form}
use Rattle.cq_text.specs.declared.form.Form.TheVariants.{One, Two}
use Rattle.cq_text.specs.Forms.{most_terms, most_atoms}

abbrev pub run : (form : Form) → List Symbol → Place → Ahead → Checked
run form ss p a = scan form ss p a.lexemes a.end

-- what a token makes of the symbols
abbrev meets : (form : Form) → List Symbol → Place → LexemeContent × Ahead → Checked
meets form ss p l = on_token (take_token ss l.0.token) (is_over form p l.0.token) l.0.at (λ rs. run form rs (behind_token form p l.0.token) l.1)

run_next : (form : Form) → (x : Symbol) (ss : List Symbol) (p : Place) (a : Ahead) → run form (x ∷ ss) p a ≡ (next_at a >>= meets form (x ∷ ss) p)
unfolding next_at scan
run_next form x ss p a = over a.lexemes a.end
  where
    flaws : {A : Type 0} (f : Option Kind) (at : ℕ) (v : A) (k : A → Checked) → after_flaw f at (k v) ≡ (unless_flawed f at v >>= k)
    flaws None at v k = refl
    flaws (Some kind) at v k = refl

    ended : (b : Bool) (f : Option (List Symbol)) (end : ℕ) → f ≡ None
        → cond b (at_end ss end) (fault Shape end) ≡ on_token (cond (b && true) (Some ss) (option_map (λ r. r ++ ss) f)) false end (λ rs. at_end rs end)
    ended true f end e = refl
    ended false f end e = rw e refl

    over : (ls : List LexemeContent) (end : ℕ) → scan form (x ∷ ss) p ls end ≡ (next_of ls end >>= meets form (x ∷ ss) p)
    over [] end = ended (is_nullable x) (first x Finish) end (finish_first x)
    over (l ∷ ls) end = flaws (flaw l.token) l.at (l, record { lexemes = ls; end = end }) (meets form (x ∷ ss) p)

-- a token that the first symbol takes, and no more
run_by : (form : Form) → (x : Symbol) (ss : List Symbol) (p : Place) (a : Ahead) (k : LexemeContent × Ahead → Checked) → ((l : LexemeContent × Ahead) → meets form (x ∷ ss) p l ≡ k l) → run form (x ∷ ss) p a ≡ (next_at a >>= k)
run_by form x ss p a k h = run_next form x ss p a ∙ bind_same (next_at a) (meets form (x ∷ ss) p) k h

-- a token in the place of the first symbol
abbrev meet : (form : Form) → List Symbol → Place → TokenContent → ℕ → Ahead → Checked
meet form ss p t at r = on_token (take_token ss t) (is_over form p t) at (λ rs. run form rs (behind_token form p t) r)

abbrev place : ℕ → ℕ → Option ℕ → Place
place c d m = record { commas = c; atoms = d; most = m }

-- room for a term after so many commas
abbrev Low : Form → ℕ → Type 0
Low form c = nat_le (most_terms form) c ≡ false

-- room for an atom after so many
abbrev Few : Form → ℕ → Type 0
Few form d = nat_le (most_atoms form) d ≡ false

low_from : (form : Form) (c : ℕ) → c < most_terms form → Low form c
low_from form c lt = lt-leb (most_terms form) c lt

few_from : (form : Form) (d : ℕ) → d < most_atoms form → Few form d
few_from form d lt = lt-leb (most_atoms form) d lt

full_of_terms : (form : Form) → nat_le (most_terms form) (most_terms form) ≡ true
full_of_terms One = refl
full_of_terms Two = refl

full_of_atoms : (form : Form) → nat_le (most_atoms form) (most_atoms form) ≡ true
full_of_atoms One = refl
full_of_atoms Two = refl

low_at_first : (form : Form) → Low form 0
low_at_first One = refl
low_at_first Two = refl

low_at_second : (form : Form) → Low form 1
low_at_second One = refl
low_at_second Two = refl

few_at_first : (form : Form) → Few form 0
few_at_first One = refl
few_at_first Two = refl

or_false : (b : Bool) → ((b || false) || false) ≡ b
or_false true = refl
or_false false = refl

or_true : (a b : Bool) → ((a || true) || b) ≡ true
or_true true b = refl
or_true false b = refl

or_last : (a b : Bool) → ((a || b) || true) ≡ true
or_last true b = refl
or_last false true = refl
or_last false false = refl

word_over : (form : Form) (c d n : ℕ) → Low form c → Few form d → ((nat_lt 32 n || nat_le (most_terms form) c) || nat_le (most_atoms form) d) ≡ nat_lt 32 n
word_over form c d n p q = rw (p, q) (or_false (nat_lt 32 n))

-- ---- signs and the end

meet_sign : (form : Form) → (s : Sign) (ss : List Symbol) (p : Place) (t : TokenContent) (at : ℕ) (r : Ahead) (b : Bool) → is_sign s t ≡ b
    → meet form (mark s ∷ ss) p t at r ≡ (cond (is_sign s t) (Ok r) (fault Shape at) >>= λ v. run form ss (behind_token form p (Mark s)) v)
meet_sign form s ss p t at r true e =
    subst (λ (u : TokenContent). meet form (mark s ∷ ss) p u at r ≡ (cond (is_sign s u) (Ok r) (fault Shape at) >>= λ v. run form ss (behind_token form p (Mark s)) v)) (sym (is_sign-true s t e)) (rw (is_sign-same s) refl)
meet_sign form s ss p t at r false e = rw e refl

run_sign : (form : Form) → (s : Sign) (ss : List Symbol) (p : Place) (a : Ahead) → run form (mark s ∷ ss) p a ≡ (sign_at s a >>= λ r. run form ss (behind_token form p (Mark s)) r)
unfolding sign_at
run_sign form s ss p a =
    run_by form (mark s) ss p a (λ l. cond (is_sign s l.0.token) (Ok l.1) (fault Shape l.0.at) >>= λ r. run form ss (behind_token form p (Mark s)) r) (λ l. meet_sign form s ss p l.0.token l.0.at l.1 (is_sign s l.0.token) refl)
    ∙ sym (bind_assoc (next_at a) _ _)

run_end : (form : Form) → (p : Place) (a : Ahead) → run form [] p a ≡ (end_at a >>= λ r. Ok tt)
unfolding end_at next_at scan
run_end form p a = over a.lexemes a.end
  where
    token_end : (t : TokenContent) (at : ℕ) (r : Ahead) → after_flaw (flaw t) at (fault Shape at) ≡ (unless_flawed (flaw t) at (record { at = at; token = t }, r) >>= λ (l : LexemeContent × Ahead). cond (is_finish l.0.token) (Ok l.1) (fault Shape l.0.at) >>= λ (v : Ahead). Ok tt)
    token_end (Mark s) at r = refl
    token_end (Word w) at r = refl
    token_end (Literal v) at r = refl
    token_end (Bad kind) at r = refl
    token_end Finish at r = refl

    over : (ls : List LexemeContent) (end : ℕ) → scan form [] p ls end ≡ (next_of ls end >>= (λ l. cond (is_finish l.0.token) (Ok l.1) (fault Shape l.0.at)) >>= λ r. Ok tt)
    over [] end = refl
    over (l ∷ ls) end = token_end l.token l.at (record { lexemes = ls; end = end }) ∙ sym (bind_assoc (unless_flawed (flaw l.token) l.at (l, record { lexemes = ls; end = end })) _ _)

-- ---- words

word_alike : (ss : List Symbol) (b : Bool) (at : ℕ) (f : List Symbol → Checked) (k : List ℕ → Checked) (w : List ℕ) → f ss ≡ k w → on_token (Some ss) b at f ≡ (cond b (fault Limit at) (Ok w) >>= k)
word_alike ss true at f k w h = refl
word_alike ss false at f k w h = h

meet_name : (form : Form) → (ss : List Symbol) (p : Place) (t : TokenContent) (at : ℕ) (r : Ahead) (k : List ℕ → Checked) → Low form p.commas → Few form p.atoms → ((w : List ℕ) (m : Option ℕ) → run form ss (place p.commas p.atoms m) r ≡ k w) → meet form (name ∷ ss) p t at r ≡ (name_in t at >>= k)
meet_name form ss p (Word w) at r k c d h = rw (word_over form p.commas p.atoms (length w) c d) (word_alike ss (nat_lt 32 (length w)) at (λ rs. run form rs (behind_token form p (Word w)) r) k w (h w (most_behind form w p.most)))
meet_name form ss p (Mark s) at r k c d h = refl
meet_name form ss p (Literal v) at r k c d h = refl
meet_name form ss p (Bad kind) at r k c d h = refl
meet_name form ss p Finish at r k c d h = refl

upper_word : (ss : List Symbol) (u b : Bool) (at : ℕ) (f : List Symbol → Checked) (k : List ℕ → Checked) (w : List ℕ) → (u ≡ true → f ss ≡ k w)
    → on_token (option_map (λ r. r ++ ss) (when u [])) b at f ≡ (cond u (cond b (fault Limit at) (Ok w)) (fault Shape at) >>= k)
upper_word ss true true at f k w h = refl
upper_word ss true false at f k w h = h refl
upper_word ss false b at f k w h = refl

meet_upper : (form : Form) → (ss : List Symbol) (p : Place) (t : TokenContent) (at : ℕ) (r : Ahead) (k : List ℕ → Checked) → Low form p.commas → Few form p.atoms → ((w : List ℕ) → begins_with_upper w ≡ true → run form ss (place p.commas p.atoms (most_behind form w p.most)) r ≡ k w) → meet form (upper ∷ ss) p t at r ≡ (relation_in t at >>= k)
meet_upper form ss p (Word w) at r k c d h = rw (word_over form p.commas p.atoms (length w) c d) (upper_word ss (begins_with_upper w) (nat_lt 32 (length w)) at (λ rs. run form rs (behind_token form p (Word w)) r) k w (h w))
meet_upper form ss p (Mark s) at r k c d h = refl
meet_upper form ss p (Literal v) at r k c d h = refl
meet_upper form ss p (Bad kind) at r k c d h = refl
meet_upper form ss p Finish at r k c d h = refl

-- an upper-case identifier is no command word, so it sets no range
upper_most : (form : Form) → (w : List ℕ) (most : Option ℕ) → begins_with_upper w ≡ true → most_behind form w most ≡ most
upper_most form w most u = by_case (bytes_eq w (codes "relation")) (bytes_eq w (codes "limits")) (bytes_eq w (codes "board")) refl refl refl
  where
    no_relation : begins_with_upper (codes "relation") ≡ true → ⊥
    no_relation h = cc

    no_limits : begins_with_upper (codes "limits") ≡ true → ⊥
    no_limits h = cc

    no_board : begins_with_upper (codes "board") ≡ true → ⊥
    no_board h = cc

    by_case : (x y z : Bool) → bytes_eq w (codes "relation") ≡ x → bytes_eq w (codes "limits") ≡ y → bytes_eq w (codes "board") ≡ z → most_behind form w most ≡ most
    by_case true y z e f g = absurd (no_relation (subst (λ (v : List ℕ). begins_with_upper v ≡ true) (bytes_eq-true w (codes "relation") e) u))
    by_case false true z e f g = absurd (no_limits (subst (λ (v : List ℕ). begins_with_upper v ≡ true) (bytes_eq-true w (codes "limits") f) u))
    by_case false false true e f g = absurd (no_board (subst (λ (v : List ℕ). begins_with_upper v ≡ true) (bytes_eq-true w (codes "board") g) u))
    by_case false false false e f g = rw (e, f, g) refl

-- ---- counts

counted : (ss : List Symbol) (g : Bool) (at : ℕ) (f : List Symbol → Checked) (k : ℕ → Checked) (n : ℕ) → f ss ≡ k n → on_token (Some ss) (not g) at f ≡ (cond g (Ok n) (fault Limit at) >>= k)
counted ss true at f k n h = h
counted ss false at f k n h = refl

meet_number : (form : Form) → (ss : List Symbol) (c d most : ℕ) (t : TokenContent) (at : ℕ) (r : Ahead) (k : ℕ → Checked) → Low form c → ((n : ℕ) → run form ss (place c d (Some most)) r ≡ k n) → meet form (number ∷ ss) (place c d (Some most)) t at r ≡ (count_in most t at >>= k)
meet_number form ss c d most (Literal (Number n)) at r k p h =
    rw p (counted ss (nat_le 1 (count_of n) && nat_le (count_of n) most) at (λ rs. run form rs (place c d (Some most)) r) k (count_of n) (h (count_of n)))
meet_number form ss c d most (Literal (Text w)) at r k p h = refl
meet_number form ss c d most (Word w) at r k p h = refl
meet_number form ss c d most (Mark s) at r k p h = refl
meet_number form ss c d most (Bad kind) at r k p h = refl
meet_number form ss c d most Finish at r k p h = refl

run_count : (form : Form) → (ss : List Symbol) (c d most : ℕ) (a : Ahead) → Low form c → run form (number ∷ ss) (place c d (Some most)) a ≡ (count_at most a >>= λ n. run form ss (place c d (Some most)) n.1)
unfolding count_at
run_count form ss c d most a p =
    run_by form number ss (place c d (Some most)) a _ (λ l. meet_number form ss c d most l.0.token l.0.at l.1 (λ n. run form ss (place c d (Some most)) l.1) p (λ n. refl))
    ∙ sym (simp bind_assoc)

-- ---- terms

term_word : (ss : List Symbol) (u l b : Bool) (at : ℕ) (f : List Symbol → Checked) (k : Checked) (w : List ℕ) → f ss ≡ k
    → on_token (option_map (λ r. r ++ ss) (when (u || l) [])) b at f
    ≡ (cond u (cond b (fault Limit at) (Ok w) >>= λ v. Ok (Constant (Text v))) (cond l (cond b (fault Limit at) (Ok w) >>= λ v. Ok (Variable v)) (fault Shape at)) >>= λ (x : TermContent). k)
term_word ss true l true at f k w h = refl
term_word ss true l false at f k w h = h
term_word ss false true true at f k w h = refl
term_word ss false true false at f k w h = h
term_word ss false false b at f k w h = refl

meet_term : (form : Form) → (ss : List Symbol) (c d : ℕ) (t : TokenContent) (at : ℕ) (r : Ahead) (k : Checked) → Low form c → Few form d → ((m : Option ℕ) → run form ss (place c d m) r ≡ k) → meet form (term ∷ ss) (place c d None) t at r ≡ (term_in t at >>= λ x. k)
meet_term form ss c d (Word w) at r k p q h = rw (word_over form c d (length w) p q) (term_word ss (begins_with_upper w) (begins_with_lower w) (nat_lt 32 (length w)) at (λ rs. run form rs (behind_token form (place c d None) (Word w)) r) k w (h (most_behind form w None)))
meet_term form ss c d (Literal v) at r k p q h = rw p (h None)
meet_term form ss c d (Mark s) at r k p q h = refl
meet_term form ss c d (Bad kind) at r k p q h = refl
meet_term form ss c d Finish at r k p q h = refl

ninth_word : (ss : List Symbol) (u l b : Bool) (at : ℕ) (f : List Symbol → Checked) (w : List ℕ)
    → on_token (option_map (λ r. r ++ ss) (when (u || l) [])) true at f
    ≡ (cond u (cond b (fault Limit at) (Ok w) >>= λ v. Ok (Constant (Text v))) (cond l (cond b (fault Limit at) (Ok w) >>= λ v. Ok (Variable v)) (fault Shape at)) >>= λ (x : TermContent). fault Limit at)
ninth_word ss true l true at f w = refl
ninth_word ss true l false at f w = refl
ninth_word ss false true true at f w = refl
ninth_word ss false true false at f w = refl
ninth_word ss false false b at f w = refl

-- a ninth term
meet_ninth : (form : Form) → (ss : List Symbol) (d : ℕ) (t : TokenContent) (at : ℕ) (r : Ahead) → meet form (term ∷ ss) (place (most_terms form) d None) t at r ≡ (term_in t at >>= λ x. fault Limit at)
meet_ninth form ss d (Word w) at r = rw (full_of_terms form, or_true (nat_lt 32 (length w)) (nat_le (most_atoms form) d)) (ninth_word ss (begins_with_upper w) (begins_with_lower w) (nat_lt 32 (length w)) at _ w)
meet_ninth form ss d (Literal v) at r = rw (full_of_terms form) refl
meet_ninth form ss d (Mark s) at r = refl
meet_ninth form ss d (Bad kind) at r = refl
meet_ninth form ss d Finish at r = refl

-- ---- lists

-- a sign closes no symbol that the end closes
never_closed : (x : Symbol) (close : Sign) (r : List Symbol) → is_sign Comma (Mark close) ≡ false → first x (Mark close) ≡ Some r → is_nullable x ≡ false
never_closed body_end close r apart e = let n : when (is_sign Comma (Mark close)) (atom ∷ body_end ∷ []) ≡ None = ap (λ (b : Bool). when b (atom ∷ body_end ∷ [])) apart in absurd cc
never_closed body close r apart e = absurd cc
never_closed x close r apart e = refl

list_not_nullable : (item again x : Symbol) (close : Sign) → ((u : TokenContent) → first x u ≡ first_in_list item again close u) → is_sign Comma (Mark close) ≡ false → is_nullable x ≡ false
list_not_nullable item again x close f apart = never_closed x close [] apart (f (Mark close) ∙ rw (apart, is_sign-same close) refl)

-- a comma and more, or the sign that closes a list
meet_in_list : (form : Form) → (item again x : Symbol) (close : Sign) (ss : List Symbol) (p : Place) (t : TokenContent) (at : ℕ) (r : Ahead) (a b : Bool)
    → ((u : TokenContent) → first x u ≡ first_in_list item again close u) → is_sign Comma (Mark close) ≡ false → is_sign Comma t ≡ a → is_sign close t ≡ b
    → meet form (x ∷ ss) p t at r ≡ cond (is_sign Comma t) (run form (item ∷ again ∷ ss) (behind_token form p (Mark Comma)) r) (cond (is_sign close t) (run form ss (behind_token form p (Mark close)) r) (fault Shape at))
meet_in_list form item again x close ss p t at r true b f apart e g =
    subst (λ (u : TokenContent). meet form (x ∷ ss) p u at r ≡ cond (is_sign Comma u) (run form (item ∷ again ∷ ss) (behind_token form p (Mark Comma)) r) (cond (is_sign close u) (run form ss (behind_token form p (Mark close)) r) (fault Shape at)))
    (sym (is_sign-true Comma t e)) (rw (list_not_nullable item again x close f apart, f (Mark Comma)) refl)
meet_in_list form item again x close ss p t at r false true f apart e g =
    subst (λ (u : TokenContent). meet form (x ∷ ss) p u at r ≡ cond (is_sign Comma u) (run form (item ∷ again ∷ ss) (behind_token form p (Mark Comma)) r) (cond (is_sign close u) (run form ss (behind_token form p (Mark close)) r) (fault Shape at)))
    (sym (is_sign-true close t g)) (rw (list_not_nullable item again x close f apart, f (Mark close), apart, is_sign-same close) refl)
meet_in_list form item again x close ss p t at r false false f apart e g = rw (list_not_nullable item again x close f apart, f t, e, g) refl

-- after an item
run_in_list : (form : Form) → (item again x : Symbol) (close : Sign) (ss : List Symbol) (p next done : Place) (a : Ahead)
    → ((u : TokenContent) → first x u ≡ first_in_list item again close u) → is_sign Comma (Mark close) ≡ false → behind_token form p (Mark Comma) ≡ next → behind_token form p (Mark close) ≡ done
    → run form (x ∷ ss) p a ≡ (goes_on_at (By close) a >>= λ m. cond m.0 (run form (item ∷ again ∷ ss) next m.1) (run form ss done m.1))
unfolding goes_on_at
run_in_list form item again x close ss p next done a f apart n d =
    run_by form x ss p a (λ s. cond (is_sign Comma s.0.token) (run form (item ∷ again ∷ ss) next s.1) (cond (is_sign close s.0.token) (run form ss done s.1) (fault Shape s.0.at)))
    (λ s. meet_in_list form item again x close ss p s.0.token s.0.at s.1 _ _ f apart refl refl
    ∙ ap (λ (q : Place). cond (is_sign Comma s.0.token) (run form (item ∷ again ∷ ss) q s.1) (cond (is_sign close s.0.token) (run form ss (behind_token form p (Mark close)) s.1) (fault Shape s.0.at))) n
    ∙ ap (λ (q : Place). cond (is_sign Comma s.0.token) (run form (item ∷ again ∷ ss) next s.1) (cond (is_sign close s.0.token) (run form ss q s.1) (fault Shape s.0.at))) d)
    ∙ sym (simp (bind_assoc, bind_cond))

-- how a list is run, item by item: where the item after j others begins, and where the list ends
pub record Runs (form : Form) {A : Type 0} (item_at : Item A) (most : ℕ) (stack ss : List Symbol) (begins : ℕ → Place) (done : Place) : Type 0 where
  pub room : (j : ℕ) (a : Ahead) → j < most → run form stack (begins j) a ≡ (item_at true a >>= λ i. cond i.1 (run form stack (begins (suc j)) i.2) (run form ss done i.2))
  pub full : (a : Ahead) → run form stack (begins most) a ≡ (item_at false a >>= λ i. Ok tt)
  pub needs : NeedsRoom item_at

run_listed : (form : Form) → {A : Type 0} (item_at : Item A) (most : ℕ) (stack ss : List Symbol) (begins : ℕ → Place) (done : Place) (n j : ℕ) (a : Ahead) → Runs form item_at most stack ss begins done → n + j ≡ most
    → run form stack (begins j) a ≡ (listed_at item_at n a >>= λ r. run form ss done r.1)
unfolding listed_at
run_listed form item_at most stack ss begins done zero j a k e =
    let all : j ≡ most = omega arith in
    ap (λ (i : ℕ). run form stack (begins i) a) all ∙ k.full a ∙ bind_never (item_at false a) _ _ (k.needs a) ∙ sym (bind_assoc (item_at false a) _ _)
run_listed form {A} item_at most stack ss begins done (suc n) j a k e =
    let lt : j < most = omega arith in
    let sum : n + suc j ≡ most = omega arith in
    k.room j a lt
    ∙ bind_same (item_at true a) _ _ (λ i. more i.1 i (run_listed form item_at most stack ss begins done n (suc j) i.2 k sum))
    ∙ sym (bind_assoc (item_at true a) _ _)
  where
    more : (b : Bool) (i : A × Bool × Ahead) → run form stack (begins (suc j)) i.2 ≡ (listed_at item_at n i.2 >>= λ r. run form ss done r.1)
        → cond b (run form stack (begins (suc j)) i.2) (run form ss done i.2) ≡ ◌>>=◌ {A = List A × Ahead} (cond b (listed_at item_at n i.2 >>= λ xs. Ok (i.0 ∷ xs.0, xs.1)) (Ok (i.0 ∷ [], i.2))) (λ r. run form ss done r.1)
    more true i h = h ∙ sym (bind_assoc (listed_at item_at n i.2) _ _)
    more false i h = refl

-- ---- terms and atoms

terms_run : (form : Form) → (ss : List Symbol) (d : ℕ) → Few form d → Runs form term_at (most_terms form) (term ∷ terms_end ∷ ss) ss (λ j. place j d None) (place 0 (d + 1) None)
unfolding term_at
terms_run form ss d q = record {
  room = λ j a lt.
      let next : place (j + 1) d None ≡ place (suc j) d None = let e : j + 1 ≡ suc j = omega arith in ap (λ (c : ℕ). place c d None) e in
      run_by form term (terms_end ∷ ss) (place j d None) a _ (λ l. meet_term form (terms_end ∷ ss) j d l.0.token l.0.at l.1 _ (low_from form j lt) q
      (λ m. run_in_list form term terms_end terms_end CloseParen ss (place j d m) (place (suc j) d None) (place 0 (d + 1) None) l.1 (λ u. refl) refl next refl))
      ∙ sym (simp bind_assoc);
  full = λ a.
      run_by form term (terms_end ∷ ss) (place (most_terms form) d None) a _ (λ l. meet_ninth form (terms_end ∷ ss) d l.0.token l.0.at l.1)
      ∙ sym (simp bind_assoc);
  needs = term_needs;
}

run_terms : (form : Form) → (ss : List Symbol) (d : ℕ) (a : Ahead) → Few form d → run form (term ∷ terms_end ∷ ss) (place 0 d None) a ≡ (terms_at form a >>= λ r. run form ss (place 0 (d + 1) None) r.1)
unfolding terms_at
run_terms form ss d a q = run_listed form term_at (most_terms form) (term ∷ terms_end ∷ ss) ss (λ j. place j d None) (place 0 (d + 1) None) (most_terms form) 0 a (terms_run form ss d q) (omega arith)

-- what stands after a relation's name
run_applied : (form : Form) → (ss : List Symbol) (c d : ℕ) (m : Option ℕ) (w : List ℕ) (a : Ahead) → Few form d → run form (mark OpenParen ∷ term ∷ terms_end ∷ ss) (place c d m) a ≡ (applied_at form w a >>= λ x. run form ss (place 0 (d + 1) None) x.1)
unfolding applied_at
run_applied form ss c d m w a q =
    run_sign form OpenParen (term ∷ terms_end ∷ ss) (place c d m) a
    ∙ bind_same (sign_at OpenParen a) _ _ (λ r. run_terms form ss d r q)
    ∙ sym (simp bind_assoc)

-- ---- ground atoms

value_word : (ss : List Symbol) (u b : Bool) (at : ℕ) (f : List Symbol → Checked) (k : Checked) (w : List ℕ) → f ss ≡ k
    → on_token (option_map (λ r. r ++ ss) (when u [])) b at f ≡ (cond u (cond b (fault Limit at) (Ok w) >>= λ v. Ok (Text v)) (fault Shape at) >>= λ (x : ValueContent). k)
value_word ss true true at f k w h = refl
value_word ss true false at f k w h = h
value_word ss false b at f k w h = refl

meet_value : (form : Form) → (ss : List Symbol) (c d : ℕ) (t : TokenContent) (at : ℕ) (r : Ahead) (k : Checked) → Low form c → Few form d → ((m : Option ℕ) → run form ss (place c d m) r ≡ k) → meet form (value ∷ ss) (place c d None) t at r ≡ (value_in t at >>= λ x. k)
meet_value form ss c d (Word w) at r k p q h = rw (word_over form c d (length w) p q) (value_word ss (begins_with_upper w) (nat_lt 32 (length w)) at (λ rs. run form rs (behind_token form (place c d None) (Word w)) r) k w (h (most_behind form w None)))
meet_value form ss c d (Literal v) at r k p q h = rw p (h None)
meet_value form ss c d (Mark s) at r k p q h = refl
meet_value form ss c d (Bad kind) at r k p q h = refl
meet_value form ss c d Finish at r k p q h = refl

ninth_word_value : (ss : List Symbol) (u b : Bool) (at : ℕ) (f : List Symbol → Checked) (w : List ℕ)
    → on_token (option_map (λ r. r ++ ss) (when u [])) true at f ≡ (cond u (cond b (fault Limit at) (Ok w) >>= λ v. Ok (Text v)) (fault Shape at) >>= λ (x : ValueContent). fault Limit at)
ninth_word_value ss true true at f w = refl
ninth_word_value ss true false at f w = refl
ninth_word_value ss false b at f w = refl

-- a ninth value
meet_ninth_value : (form : Form) → (ss : List Symbol) (d : ℕ) (t : TokenContent) (at : ℕ) (r : Ahead) → meet form (value ∷ ss) (place (most_terms form) d None) t at r ≡ (value_in t at >>= λ x. fault Limit at)
meet_ninth_value form ss d (Word w) at r = rw (full_of_terms form, or_true (nat_lt 32 (length w)) (nat_le (most_atoms form) d)) (ninth_word_value ss (begins_with_upper w) (nat_lt 32 (length w)) at _ w)
meet_ninth_value form ss d (Literal v) at r = rw (full_of_terms form) refl
meet_ninth_value form ss d (Mark s) at r = refl
meet_ninth_value form ss d (Bad kind) at r = refl
meet_ninth_value form ss d Finish at r = refl

values_run : (form : Form) → (ss : List Symbol) (d : ℕ) → Few form d → Runs form value_at (most_terms form) (value ∷ values_end ∷ ss) ss (λ j. place j d None) (place 0 (d + 1) None)
unfolding value_at
values_run form ss d q = record {
  room = λ j a lt.
      let next : place (j + 1) d None ≡ place (suc j) d None = let e : j + 1 ≡ suc j = omega arith in ap (λ (c : ℕ). place c d None) e in
      run_by form value (values_end ∷ ss) (place j d None) a _ (λ l. meet_value form (values_end ∷ ss) j d l.0.token l.0.at l.1 _ (low_from form j lt) q
      (λ m. run_in_list form value values_end values_end CloseParen ss (place j d m) (place (suc j) d None) (place 0 (d + 1) None) l.1 (λ u. refl) refl next refl))
      ∙ sym (simp bind_assoc);
  full = λ a.
      run_by form value (values_end ∷ ss) (place (most_terms form) d None) a _ (λ l. meet_ninth_value form (values_end ∷ ss) d l.0.token l.0.at l.1)
      ∙ sym (simp bind_assoc);
  needs = value_needs;
}

run_values : (form : Form) → (ss : List Symbol) (d : ℕ) (a : Ahead) → Few form d → run form (value ∷ values_end ∷ ss) (place 0 d None) a ≡ (values_at form a >>= λ r. run form ss (place 0 (d + 1) None) r.1)
unfolding values_at
run_values form ss d a q = run_listed form value_at (most_terms form) (value ∷ values_end ∷ ss) ss (λ j. place j d None) (place 0 (d + 1) None) (most_terms form) 0 a (values_run form ss d q) (omega arith)

pub run_row : (form : Form) → (a : Ahead) → run form row_symbols opening a ≡ (row_at form a >>= λ row. Ok tt)
unfolding row_at
run_row form a =
    run_by form upper (mark OpenParen ∷ value ∷ values_end ∷ []) opening a _ (λ l. meet_upper form (mark OpenParen ∷ value ∷ values_end ∷ []) opening l.0.token l.0.at l.1 _ (low_at_first form) (few_at_first form)
    (λ w u. run_sign form OpenParen (value ∷ values_end ∷ []) (place 0 0 (most_behind form w None)) l.1
    ∙ bind_same (sign_at OpenParen l.1) _ _ (λ r. run_values form [] 0 r (few_at_first form)
    ∙ bind_same (values_at form r) _ _ (λ v. run_end form (place 0 1 None) v.1))))
    ∙ sym (simp bind_assoc)

-- ---- atoms

relation_word : (ss : List Symbol) (u b : Bool) (at : ℕ) (f : List Symbol → Checked) (k : List ℕ → Checked) (w : List ℕ) → f (atom_symbols ++ ss) ≡ k w
    → on_token (option_map (λ r. r ++ ss) (when u atom_symbols)) b at f ≡ (cond u (cond b (fault Limit at) (Ok w)) (fault Shape at) >>= k)
relation_word ss true true at f k w h = refl
relation_word ss true false at f k w h = h
relation_word ss false b at f k w h = refl

meet_relation : (form : Form) → (ss : List Symbol) (c d : ℕ) (t : TokenContent) (at : ℕ) (r : Ahead) (k : List ℕ → Checked) → Low form c → Few form d → ((w : List ℕ) (m : Option ℕ) → run form (atom_symbols ++ ss) (place c d m) r ≡ k w) → meet form (atom ∷ ss) (place c d None) t at r ≡ (relation_in t at >>= k)
meet_relation form ss c d (Word w) at r k p q h = rw (word_over form c d (length w) p q) (relation_word ss (begins_with_upper w) (nat_lt 32 (length w)) at (λ rs. run form rs (behind_token form (place c d None) (Word w)) r) k w (h w (most_behind form w None)))
meet_relation form ss c d (Mark s) at r k p q h = refl
meet_relation form ss c d (Literal v) at r k p q h = refl
meet_relation form ss c d (Bad kind) at r k p q h = refl
meet_relation form ss c d Finish at r k p q h = refl

ninth_relation : (ss : List Symbol) (u b : Bool) (at : ℕ) (f : List Symbol → Checked) (w : List ℕ)
    → on_token (option_map (λ r. r ++ ss) (when u atom_symbols)) true at f ≡ (cond u (cond b (fault Limit at) (Ok w)) (fault Shape at) >>= λ (v : List ℕ). fault Limit at)
ninth_relation ss true true at f w = refl
ninth_relation ss true false at f w = refl
ninth_relation ss false b at f w = refl

-- a ninth atom
meet_ninth_atom : (form : Form) → (ss : List Symbol) (c : ℕ) (t : TokenContent) (at : ℕ) (r : Ahead) → meet form (atom ∷ ss) (place c (most_atoms form) None) t at r ≡ (relation_in t at >>= λ w. fault Limit at)
meet_ninth_atom form ss c (Word w) at r = rw (full_of_atoms form, or_last (nat_lt 32 (length w)) (nat_le (most_terms form) c)) (ninth_relation ss (begins_with_upper w) (nat_lt 32 (length w)) at _ w)
meet_ninth_atom form ss c (Mark s) at r = refl
meet_ninth_atom form ss c (Literal v) at r = refl
meet_ninth_atom form ss c (Bad kind) at r = refl
meet_ninth_atom form ss c Finish at r = refl

-- where the atom after j others begins: after a comma, but for the first
abbrev atom_begins : ℕ → Place
atom_begins zero = opening
atom_begins (suc j) = place 1 (suc j) None

-- what closes atoms: counts begin anew after it
record Closes (form : Form) (x : Symbol) (close : Close) (ss : List Symbol) : Type 0 where
  pub behind : (d : ℕ) (next : Place) (a : Ahead) → place 1 (d + 1) None ≡ next → run form (x ∷ ss) (place 0 (d + 1) None) a ≡ (goes_on_at close a >>= λ m. cond m.0 (run form (atom ∷ x ∷ ss) next m.1) (run form ss opening m.1))

closes_posts : (form : Form) → (ss : List Symbol) → Closes form posts_end (By CloseBrace) ss
closes_posts form ss = record { behind = λ d next a n. run_in_list form atom posts_end posts_end CloseBrace ss (place 0 (d + 1) None) next opening a (λ u. refl) refl n refl }

closes_heads : (form : Form) → (ss : List Symbol) → Closes form heads_end (By Arrow) ss
closes_heads form ss = record { behind = λ d next a n. run_in_list form atom heads_end heads_end Arrow ss (place 0 (d + 1) None) next opening a (λ u. refl) refl n refl }

finish_is : (t : TokenContent) → is_finish t ≡ true → t ≡ Finish
finish_is Finish e = refl
finish_is (Mark s) e = absurd cc
finish_is (Word w) e = absurd cc
finish_is (Literal v) e = absurd cc
finish_is (Bad kind) e = absurd cc

-- where nothing is expected, no limit counts
nothing_more : (form : Form) → (p q : Place) (a : Ahead) → run form [] p a ≡ run form [] q a
unfolding scan
nothing_more form p q a = over a.lexemes
  where
    over : (ls : List LexemeContent) → scan form [] p ls a.end ≡ scan form [] q ls a.end
    over [] = refl
    over (l ∷ ls) = refl

meet_in_body : (form : Form) → (p next : Place) (t : TokenContent) (at : ℕ) (r : Ahead) (a b : Bool) → behind_token form p (Mark Comma) ≡ next → is_sign Comma t ≡ a → is_finish t ≡ b
    → meet form (body_end ∷ []) p t at r ≡ cond (is_sign Comma t) (run form (atom ∷ body_end ∷ []) next r) (cond (is_finish t) (run form [] opening r) (fault Shape at))
meet_in_body form p next t at r true b n e g =
    subst (λ (u : TokenContent). meet form (body_end ∷ []) p u at r ≡ cond (is_sign Comma u) (run form (atom ∷ body_end ∷ []) next r) (cond (is_finish u) (run form [] opening r) (fault Shape at)))
    (sym (is_sign-true Comma t e)) (ap (λ (q : Place). run form (atom ∷ body_end ∷ []) q r) n)
meet_in_body form p next t at r false true n e g =
    subst (λ (u : TokenContent). meet form (body_end ∷ []) p u at r ≡ cond (is_sign Comma u) (run form (atom ∷ body_end ∷ []) next r) (cond (is_finish u) (run form [] opening r) (fault Shape at)))
    (sym (finish_is t g)) (nothing_more form p opening r)
meet_in_body form p next t at r false false n e g = rw (e, g) refl

closes_body : (form : Form) → Closes form body_end End []
unfolding goes_on_at
closes_body form = record {
  behind = λ d next a n.
      run_by form body_end [] (place 0 (d + 1) None) a _ (λ s. meet_in_body form (place 0 (d + 1) None) next s.0.token s.0.at s.1 _ _ n refl refl)
      ∙ sym (simp (bind_assoc, bind_cond));
}

run_atom : (form : Form) → (x : Symbol) (close : Close) (ss : List Symbol) (c d : ℕ) (next : Place) (a : Ahead) → Closes form x close ss → Low form c → Few form d → place 1 (d + 1) None ≡ next
    → run form (atom ∷ x ∷ ss) (place c d None) a ≡ (atom_at form close true a >>= λ i. cond i.1 (run form (atom ∷ x ∷ ss) next i.2) (run form ss opening i.2))
unfolding atom_at
run_atom form x close ss c d next a k p q n =
    run_by form atom (x ∷ ss) (place c d None) a _ (λ l. meet_relation form (x ∷ ss) c d l.0.token l.0.at l.1 _ p q
    (λ w m. run_applied form (x ∷ ss) c d m w l.1 q
    ∙ bind_same (applied_at form w l.1) _ _ (λ y. k.behind d next y.1 n)))
    ∙ sym (simp bind_assoc)

begins_full : (form : Form) → atom_begins (most_atoms form) ≡ place 1 (most_atoms form) None
begins_full One = refl
begins_full Two = refl

atoms_run : (form : Form) → (x : Symbol) (close : Close) (ss : List Symbol) → Closes form x close ss → Runs form (atom_at form close) (most_atoms form) (atom ∷ x ∷ ss) ss atom_begins opening
unfolding atom_at
atoms_run form x close ss k = record {
  room = λ j a lt. room j a lt;
  full = λ a. full a;
  needs = atom_needs form close;
}
  where
    room : (j : ℕ) (a : Ahead) → j < most_atoms form → run form (atom ∷ x ∷ ss) (atom_begins j) a ≡ (atom_at form close true a >>= λ i. cond i.1 (run form (atom ∷ x ∷ ss) (atom_begins (suc j)) i.2) (run form ss opening i.2))
    room zero a lt = run_atom form x close ss 0 0 (atom_begins 1) a k (low_at_first form) (few_at_first form) refl
    room (suc j) a lt =
        let e : suc j + 1 ≡ suc (suc j) = omega arith in
        run_atom form x close ss 1 (suc j) (atom_begins (suc (suc j))) a k (low_at_second form) (few_from form (suc j) lt) (ap (λ (n : ℕ). place 1 n None) e)

    full : (a : Ahead) → run form (atom ∷ x ∷ ss) (atom_begins (most_atoms form)) a ≡ (atom_at form close false a >>= λ i. Ok tt)
    full a = ap (λ (q : Place). run form (atom ∷ x ∷ ss) q a) (begins_full form) ∙ run_by form atom (x ∷ ss) (place 1 (most_atoms form) None) a _ (λ l. meet_ninth_atom form (x ∷ ss) 1 l.0.token l.0.at l.1) ∙ sym (simp bind_assoc)

run_atoms : (form : Form) → (x : Symbol) (close : Close) (ss : List Symbol) (a : Ahead) → Closes form x close ss → run form (atom ∷ x ∷ ss) opening a ≡ (atoms_at form close a >>= λ r. run form ss opening r.1)
unfolding atoms_at
run_atoms form x close ss a k = run_listed form (atom_at form close) (most_atoms form) (atom ∷ x ∷ ss) ss atom_begins opening (most_atoms form) 0 a (atoms_run form x close ss k) (omega arith)

-- ---- postconditions, bodies, queries and commands

-- to look at the next token first, and then to read from there
look_first : {A B : Type 0} (r : Result A TextFault) (c : A → Bool) (f g : A → Result B TextFault) → (r >>= λ x. cond (c x) (f x) (g x)) ≡ (r >>= λ x. cond (c x) (f x) (r >>= g))
look_first (Ok x) c f g = refl
look_first (Err e) c f g = refl

meets_posts : (form : Form) → (ss : List Symbol) (l : LexemeContent × Ahead) (b : Bool) → is_sign CloseBrace l.0.token ≡ b → meets form (posts ∷ ss) opening l ≡ cond (is_sign CloseBrace l.0.token) (run form ss opening l.1) (meets form (atom ∷ posts_end ∷ ss) opening l)
meets_posts form ss l true e =
    subst (λ (u : TokenContent). meet form (posts ∷ ss) opening u l.0.at l.1 ≡ cond (is_sign CloseBrace u) (run form ss opening l.1) (meet form (atom ∷ posts_end ∷ ss) opening u l.0.at l.1)) (sym (is_sign-true CloseBrace l.0.token e)) refl
meets_posts form ss l false e = rw e (same (first_of_atom l.0.token))
  where
    same : (o : Option (List Symbol)) → on_token (option_map (λ r. r ++ ss) (option_map (λ r. r ++ (posts_end ∷ [])) o)) (is_over form opening l.0.token) l.0.at (λ rs. run form rs (behind_token form opening l.0.token) l.1) ≡ on_token (option_map (λ r. r ++ (posts_end ∷ ss)) o) (is_over form opening l.0.token) l.0.at (λ rs. run form rs (behind_token form opening l.0.token) l.1)
    same None = refl
    same (Some r) = ap (λ (w : List Symbol). on_token (Some w) (is_over form opening l.0.token) l.0.at (λ rs. run form rs (behind_token form opening l.0.token) l.1)) (append_assoc r (posts_end ∷ []) ss)

run_posts : (form : Form) → (ss : List Symbol) (a : Ahead) → run form (posts ∷ ss) opening a ≡ (atoms_if_any_at form (By CloseBrace) a >>= λ r. run form ss opening r.1)
unfolding atoms_if_any_at
run_posts form ss a =
    run_by form posts ss opening a _ (λ l. meets_posts form ss l _ refl)
    ∙ look_first (next_at a) (λ l. is_sign CloseBrace l.0.token) (λ l. run form ss opening l.1) (meets form (atom ∷ posts_end ∷ ss) opening)
    ∙ bind_same (next_at a) _ _ (λ l. ap (λ (c : Checked). cond (is_sign CloseBrace l.0.token) (run form ss opening l.1) c) (sym (run_next form atom (posts_end ∷ ss) opening a) ∙ run_atoms form posts_end (By CloseBrace) ss a (closes_posts form ss)))
    ∙ sym (simp (bind_assoc, bind_cond))

meets_body : (form : Form) → (l : LexemeContent × Ahead) (b : Bool) → is_finish l.0.token ≡ b → meets form (body ∷ []) opening l ≡ cond (is_finish l.0.token) (run form [] opening l.1) (meets form (atom ∷ body_end ∷ []) opening l)
meets_body form l true e =
    subst (λ (u : TokenContent). meet form (body ∷ []) opening u l.0.at l.1 ≡ cond (is_finish u) (run form [] opening l.1) (meet form (atom ∷ body_end ∷ []) opening u l.0.at l.1)) (sym (finish_is l.0.token e)) refl
meets_body form l false e = rw e (same (first_of_atom l.0.token))
  where
    same : (o : Option (List Symbol)) → on_token (option_map (λ r. r ++ []) (option_map (λ r. r ++ (body_end ∷ [])) o)) (is_over form opening l.0.token) l.0.at (λ rs. run form rs (behind_token form opening l.0.token) l.1) ≡ on_token (option_map (λ r. r ++ (body_end ∷ [])) o) (is_over form opening l.0.token) l.0.at (λ rs. run form rs (behind_token form opening l.0.token) l.1)
    same None = refl
    same (Some r) = ap (λ (w : List Symbol). on_token (Some w) (is_over form opening l.0.token) l.0.at (λ rs. run form rs (behind_token form opening l.0.token) l.1)) (append_assoc r (body_end ∷ []) [])

run_body : (form : Form) → (a : Ahead) → run form (body ∷ []) opening a ≡ (atoms_if_any_at form End a >>= λ r. run form [] opening r.1)
unfolding atoms_if_any_at
run_body form a =
    run_by form body [] opening a _ (λ l. meets_body form l _ refl)
    ∙ look_first (next_at a) (λ l. is_finish l.0.token) (λ l. run form [] opening l.1) (meets form (atom ∷ body_end ∷ []) opening)
    ∙ bind_same (next_at a) _ _ (λ l. ap (λ (c : Checked). cond (is_finish l.0.token) (run form [] opening l.1) c) (sym (run_next form atom (body_end ∷ []) opening a) ∙ run_atoms form body_end End [] a (closes_body form)))
    ∙ sym (simp (bind_assoc, bind_cond))

-- what is read up to the end leaves nothing
body_ends : (form : Form) → (a : Ahead) → (atoms_if_any_at form End a >>= λ r. run form [] opening r.1) ≡ (atoms_if_any_at form End a >>= λ r. Ok tt)
unfolding scan
body_ends form a = bind_ok_same (atoms_if_any_at form End a) _ _ (λ r e. rw (atoms_to_end form a r e) refl)

-- the parts of a query, and what is ahead after its brace
abbrev pub QueryParts : Type 0
QueryParts = List AtomRecord × List AtomRecord × List AtomRecord × Ahead

unfoldable pub parts_at : (form : Form) → Ahead → Result QueryParts TextFault
parts_at form a = do
  inner ← sign_at OpenBrace a
  ps ← atoms_if_any_at form (By CloseBrace) inner
  hs ← atoms_at form (By Arrow) ps.1
  bs ← atoms_if_any_at form End hs.1
  Ok (ps.0, hs.0, bs.0, inner)

pub query_by_parts : (form : Form) → (a : Ahead) → query_at form a ≡ (parts_at form a >>= λ q. bound_query q.0 q.1 q.2 q.3)
unfolding query_at parts_at
query_by_parts form a = sym (simp bind_assoc)

pub run_query : (form : Form) → (p : Place) (a : Ahead) → run form query_symbols p a ≡ (parts_at form a >>= λ q. Ok tt)
unfolding parts_at
run_query form p a =
    run_sign form OpenBrace (posts ∷ atom ∷ heads_end ∷ body ∷ []) p a
    ∙ bind_same (sign_at OpenBrace a) _ _ (λ inner. run_posts form (atom ∷ heads_end ∷ body ∷ []) inner
    ∙ bind_same (atoms_if_any_at form (By CloseBrace) inner) _ _ (λ ps. run_atoms form heads_end (By Arrow) (body ∷ []) ps.1 (closes_heads form (body ∷ []))
    ∙ bind_same (atoms_at form (By Arrow) ps.1) _ _ (λ hs. run_body form hs.1 ∙ body_ends form hs.1)))
    ∙ sym (simp bind_assoc)

-- a command's parts: those of a post, or the whole command
pub data Parts : Type 0 where
  posted : List ℕ → QueryParts → Parts
  whole : CommandContent → Parts

abbrev pub command_of_parts : Parts → Result CommandContent TextFault
command_of_parts (posted w q) = bound_query q.0 q.1 q.2 q.3 >>= λ query. Ok (Edit (Post w query))
command_of_parts (whole c) = Ok c

unfoldable pub post_parts : (form : Form) → Ahead → Result Parts TextFault
post_parts form a = do
  l ← next_at a
  w ← name_in l.0.token l.0.at
  q ← parts_at form l.1
  Ok (posted w q)

abbrev pub whole_parts : Result CommandContent TextFault → Result Parts TextFault
whole_parts r = r >>= λ c. Ok (whole c)

abbrev pub parts_of : (form : Form) → CommandWord → Ahead → Result Parts TextFault
parts_of form words.Relation a = whole_parts (relation_at form a)
parts_of form words.Board a = whole_parts (board_at a)
parts_of form words.Limits a = whole_parts (limits_at a)
parts_of form words.Post a = post_parts form a
parts_of form words.Withdraw a = whole_parts (withdraw_at a)
parts_of form words.Insert a = whole_parts (insert_at form a)
parts_of form words.Delete a = whole_parts (delete_at form a)
parts_of form words.Publish a = whole_parts (word_alone Publish a)
parts_of form words.Show a = whole_parts (word_alone Show a)

abbrev pub parts_from : (form : Form) → Option CommandWord → ℕ → Ahead → Result Parts TextFault
parts_from form None at a = fault Shape at
parts_from form (Some word) at a = parts_of form word a

unfoldable pub command_parts : (form : Form) → Ahead → Result Parts TextFault
command_parts form a = next_at a >>= λ l. parts_from form (command_word_in l.0.token) l.0.at l.1

post_by_parts : (form : Form) → (a : Ahead) → post_at form a ≡ (post_parts form a >>= command_of_parts)
unfolding post_at post_parts
post_by_parts form a =
    bind_same (next_at a) _ _ (λ l. bind_same (name_in l.0.token l.0.at) _ _ (λ w. ap (λ (r : Result QueryRecord TextFault). r >>= λ query. Ok (Edit (Post w query))) (query_by_parts form l.1) ∙ bind_assoc (parts_at form l.1) _ _))
    ∙ sym (simp bind_assoc)

whole_by_parts : (r : Result CommandContent TextFault) → r ≡ (whole_parts r >>= command_of_parts)
whole_by_parts (Ok c) = refl
whole_by_parts (Err e) = refl

word_by_parts : (form : Form) → (word : CommandWord) (a : Ahead) → command_of form word a ≡ (parts_of form word a >>= command_of_parts)
word_by_parts form words.Relation a = whole_by_parts (relation_at form a)
word_by_parts form words.Board a = whole_by_parts (board_at a)
word_by_parts form words.Limits a = whole_by_parts (limits_at a)
word_by_parts form words.Post a = post_by_parts form a
word_by_parts form words.Withdraw a = whole_by_parts (withdraw_at a)
word_by_parts form words.Insert a = whole_by_parts (insert_at form a)
word_by_parts form words.Delete a = whole_by_parts (delete_at form a)
word_by_parts form words.Publish a = whole_by_parts (word_alone Publish a)
word_by_parts form words.Show a = whole_by_parts (word_alone Show a)

pub command_by_parts : (form : Form) → (a : Ahead) → command_at form a ≡ (command_parts form a >>= command_of_parts)
unfolding command_at command_parts
command_by_parts form a = bind_same (next_at a) _ _ (λ l. from (command_word_in l.0.token) l.0.at l.1) ∙ sym (bind_assoc (next_at a) _ _)
  where
    from : (o : Option CommandWord) (at : ℕ) (b : Ahead) → command_from form o at b ≡ (parts_from form o at b >>= command_of_parts)
    from None at b = refl
    from (Some word) at b = word_by_parts form word b

run_post : (form : Form) → (a : Ahead) → run form (name ∷ query_symbols) opening a ≡ (post_parts form a >>= λ r. Ok tt)
unfolding post_parts
run_post form a =
    run_by form name query_symbols opening a _ (λ l. meet_name form query_symbols opening l.0.token l.0.at l.1 _ (low_at_first form) (few_at_first form) (λ w m. run_query form (place 0 0 m) l.1))
    ∙ sym (simp bind_assoc)

run_whole : (form : Form) → (ss : List Symbol) (p : Place) (a : Ahead) (r : Result CommandContent TextFault) → run form ss p a ≡ (r >>= λ c. Ok tt) → run form ss p a ≡ (whole_parts r >>= λ x. Ok tt)
run_whole form ss p a r e = e ∙ sym (bind_assoc r _ _)

run_relation : (form : Form) → (a : Ahead) → run form (upper ∷ number ∷ []) (place 0 0 (Some (most_terms form))) a ≡ (relation_at form a >>= λ c. Ok tt)
unfolding relation_at
run_relation form a =
    run_by form upper (number ∷ []) (place 0 0 (Some (most_terms form))) a _ (λ l. meet_upper form (number ∷ []) (place 0 0 (Some (most_terms form))) l.0.token l.0.at l.1 _ (low_at_first form) (few_at_first form)
    (λ w u. ap (λ (m : Option ℕ). run form (number ∷ []) (place 0 0 m) l.1) (upper_most form w (Some (most_terms form)) u)
    ∙ run_count form [] 0 0 (most_terms form) l.1 (low_at_first form)
    ∙ bind_same (count_at (most_terms form) l.1) _ _ (λ n. run_end form (place 0 0 (Some (most_terms form))) n.1)))
    ∙ sym (simp bind_assoc)

run_board : (form : Form) → (a : Ahead) → run form (number ∷ []) (place 0 0 (Some max_form)) a ≡ (board_at a >>= λ c. Ok tt)
unfolding board_at
run_board form a =
    run_count form [] 0 0 max_form a (low_at_first form)
    ∙ bind_same (count_at max_form a) _ _ (λ n. run_end form (place 0 0 (Some max_form)) n.1)
    ∙ sym (simp bind_assoc)

run_limits : (form : Form) → (a : Ahead) → run form (number ∷ number ∷ []) (place 0 0 (Some max_count)) a ≡ (limits_at a >>= λ c. Ok tt)
unfolding limits_at
run_limits form a =
    run_count form (number ∷ []) 0 0 max_count a (low_at_first form)
    ∙ bind_same (count_at max_count a) _ _ (λ m. run_count form [] 0 0 max_count m.1 (low_at_first form)
    ∙ bind_same (count_at max_count m.1) _ _ (λ n. run_end form (place 0 0 (Some max_count)) n.1))
    ∙ sym (simp bind_assoc)

run_withdraw : (form : Form) → (a : Ahead) → run form (name ∷ []) opening a ≡ (withdraw_at a >>= λ c. Ok tt)
unfolding withdraw_at
run_withdraw form a =
    run_by form name [] opening a _ (λ l. meet_name form [] opening l.0.token l.0.at l.1 _ (low_at_first form) (few_at_first form) (λ w m. run_end form (place 0 0 m) l.1))
    ∙ sym (simp bind_assoc)

run_insert : (form : Form) → (a : Ahead) → run form row_symbols opening a ≡ (insert_at form a >>= λ c. Ok tt)
unfolding insert_at
run_insert form a = run_row form a ∙ sym (bind_assoc (row_at form a) _ _)

run_delete : (form : Form) → (a : Ahead) → run form row_symbols opening a ≡ (delete_at form a >>= λ c. Ok tt)
unfolding delete_at
run_delete form a = run_row form a ∙ sym (bind_assoc (row_at form a) _ _)

run_alone : (form : Form) → (c : CommandContent) (a : Ahead) → run form [] opening a ≡ (word_alone c a >>= λ c. Ok tt)
unfolding word_alone
run_alone form c a = run_end form opening a ∙ sym (bind_assoc (end_at a) _ _)

abbrev AtWord : (form : Form) → List ℕ → ℕ → Ahead → Type 0
AtWord form w at a = meet form (command ∷ []) opening (Word w) at a ≡ (parts_from form (command_word w) at a >>= λ r. Ok tt)

-- a command word is no longer than a name
opened : (form : Form) (w : List ℕ) (at : ℕ) (a : Ahead) → nat_lt 32 (length w) ≡ false
    → meet form (command ∷ []) opening (Word w) at a ≡ on_token (take_token (command ∷ []) (Word w)) false at (λ rs. run form rs (behind_token form opening (Word w)) a)
opened form w at a e = ap (λ (b : Bool). on_token (take_token (command ∷ []) (Word w)) b at (λ rs. run form rs (behind_token form opening (Word w)) a)) (word_over form 0 0 (length w) (low_at_first form) (few_at_first form) ∙ e)

meet_word : (form : Form) → (word : CommandWord) (at : ℕ) (a : Ahead) → AtWord form (bytes_of word) at a
meet_word form words.Relation at a = opened form (codes "relation") at a refl ∙ run_whole form (upper ∷ number ∷ []) (place 0 0 (Some (most_terms form))) a (relation_at form a) (run_relation form a)
meet_word form words.Board at a = opened form (codes "board") at a refl ∙ run_whole form (number ∷ []) (place 0 0 (Some max_form)) a (board_at a) (run_board form a)
meet_word form words.Limits at a = opened form (codes "limits") at a refl ∙ run_whole form (number ∷ number ∷ []) (place 0 0 (Some max_count)) a (limits_at a) (run_limits form a)
meet_word form words.Post at a = opened form (codes "post") at a refl ∙ run_post form a
meet_word form words.Withdraw at a = opened form (codes "withdraw") at a refl ∙ run_whole form (name ∷ []) opening a (withdraw_at a) (run_withdraw form a)
meet_word form words.Insert at a = opened form (codes "insert") at a refl ∙ run_whole form row_symbols opening a (insert_at form a) (run_insert form a)
meet_word form words.Delete at a = opened form (codes "delete") at a refl ∙ run_whole form row_symbols opening a (delete_at form a) (run_delete form a)
meet_word form words.Publish at a = opened form (codes "publish") at a refl ∙ run_whole form [] opening a (word_alone Publish a) (run_alone form Publish a)
meet_word form words.Show at a = opened form (codes "show") at a refl ∙ run_whole form [] opening a (word_alone Show a) (run_alone form Show a)

meet_command : (form : Form) → (t : TokenContent) (at : ℕ) (a : Ahead) → meet form (command ∷ []) opening t at a ≡ (parts_from form (command_word_in t) at a >>= λ r. Ok tt)
meet_command form (Word w) at a = by_case (command_word w) refl
  where
    by_case : (o : Option CommandWord) → command_word w ≡ o → AtWord form w at a
    by_case None e = rw e refl
    by_case (Some word) e = subst (λ (v : List ℕ). AtWord form v at a) (sym (command_word-is w word e)) (meet_word form word at a)
meet_command form (Mark s) at a = refl
meet_command form (Literal v) at a = refl
meet_command form (Bad kind) at a = refl
meet_command form Finish at a = refl

pub run_command : (form : Form) → (a : Ahead) → run form (command ∷ []) opening a ≡ (command_parts form a >>= λ r. Ok tt)
unfolding command_parts
run_command form a = run_by form command [] opening a _ (λ l. meet_command form l.0.token l.0.at l.1) ∙ sym (simp bind_assoc)
