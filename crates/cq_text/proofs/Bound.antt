-- Which queries have an unbound variable, and where it stands.
use Rattle.std.proofs.Common.{◌≡◌, ℕ, Bool, true, false, List, [], ◌∷◌, ◌++◌, Option, Some, None, Result, Ok, refl, sym, ap, subst, ◌∙◌, append_assoc, arith, inl, inr, ◌⊎◌}
use Rattle.std.specs.Prelude.{not, ◌||◌}
use Rattle.std.specs.Str.{bytes_eq}
use Rattle.std.specs.List.{list_any, AllByRecursion}
use Rattle.std.proofs.lemmas.Bool.Decides.{nat_tests, Decides-eqb}
use Rattle.std.proofs.lemmas.Slice.Eq.{slice_eq-Decides}
use Rattle.cq_atom.specs.declared.value.Content.TheVariants.{Number, Text}
use Rattle.cq_atom.specs.declared.term.TermKind.TheVariants.{Constant, Variable}
use Rattle.cq_atom.specs.Text.{begins_with_upper, begins_with_lower}
use Rattle.cq_atom.specs.Atom.{TermContent, AtomRecord}
use Rattle.cq_atom.specs.Query.{QueryRecord, is_variable, is_bound}
use Rattle.cq_text.specs.declared.fault.Kind.{Kind}
use Rattle.cq_text.specs.declared.fault.Kind.TheVariants.{Unbound}
use Rattle.cq_text.specs.declared.fault.TextFault.{TextFault}
use Rattle.cq_text.specs.declared.token.Sign.TheVariants.{CloseBrace, CloseParen, Comma, Arrow}
use Rattle.cq_text.specs.declared.token.Token.TheVariants.{Mark, Word}
use Rattle.cq_text.specs.Token.{TokenContent, LexemeContent, flaw, tokens_of}
use Rattle.cq_text.specs.Grammar.{Separated, IsTermText, IsAtomText, AreAtomsIfAny, AreBound, IsRestricted}
use Rattle.cq_text.specs.Fault.{Place, is_over, behind_token, is_unbound, first_unbound_at}
use Rattle.cq_text.specs.Steps.Lexemes.{Ahead, fault}
use Rattle.cq_text.specs.Steps.Lists.{first_unbound_of, first_unbound_from, query_record, bound_query}
use Rattle.cq_text.proofs.Refusals.{has_unbound, have_unbound, bound_both}
use Rattle.cq_text.proofs.Machine.{Symbol, take_token}
use Rattle.cq_text.proofs.Scan.{on_token, after_flaw, scan}
use Rattle.cq_text.proofs.Runs.{QueryParts}
use Rattle.cq_text.proofs.Taken.{ahead, QueryRead}
use Rattle.cq_text.specs.declared.form.Form.{Form}

or_same : (b : Bool) → (b || false) ≡ b
or_same true = refl
or_same false = refl

or_assoc : (a b c : Bool) → ((a || b) || c) ≡ (a || (b || c))
or_assoc true b c = refl
or_assoc false b c = refl

or_none : (a b : Bool) → (a || b) ≡ false → (a ≡ false) × (b ≡ false)
or_none true b e = absurd cc
or_none false b e = (refl, e)

-- ---- the range restriction

abbrev lacks : List AtomRecord → TermContent → Bool
lacks body t = not (is_bound body t)

not_bound : (b : Bool) → not b ≡ false → b ≡ true
not_bound true e = refl
not_bound false e = absurd cc

terms_bound : (body : List AtomRecord) (ts : List TermContent) → list_any (lacks body) ts ≡ false → AllByRecursion (λ t. is_bound body t ≡ true) ts
terms_bound body [] e = tt
terms_bound body (t ∷ ts) e = let n = or_none (lacks body t) (list_any (lacks body) ts) e in (not_bound (is_bound body t) n.0, terms_bound body ts n.1)

pub are_bound : (body atoms : List AtomRecord) → have_unbound body atoms ≡ false → AreBound body atoms
are_bound body [] e = tt
are_bound body (a ∷ atoms) e = let n = or_none (has_unbound body a) (have_unbound body atoms) e in (terms_bound body a.terms n.0, are_bound body atoms n.1)

terms_none : (body : List AtomRecord) (ts : List TermContent) → AllByRecursion (λ t. is_bound body t ≡ true) ts → list_any (lacks body) ts ≡ false
terms_none body [] h = refl
terms_none body (t ∷ ts) h = rw h.0 (terms_none body ts h.1)

pub none_unbound : (body atoms : List AtomRecord) → AreBound body atoms → have_unbound body atoms ≡ false
none_unbound body [] h = refl
none_unbound body (a ∷ atoms) h = rw (terms_none body a.terms h.0) (none_unbound body atoms h.1)

-- ---- a body binds its own variables

or_right : (a b : Bool) → b ≡ true → (a || b) ≡ true
or_right true b e = refl
or_right false b e = e

same_name : (x : List ℕ) → bytes_eq x x ≡ true
same_name x = (slice_eq-Decides Decides-eqb x x (bytes_eq x x) refl).1 refl

-- what an atom binds, more atoms before it and after it bind
in_terms : (front ts : List TermContent) (x : List ℕ) → list_any (is_variable x) (front ++ (Variable x ∷ ts)) ≡ true
in_terms [] ts x = rw (same_name x) refl
in_terms (t ∷ front) ts x = or_right (is_variable x t) (list_any (is_variable x) (front ++ (Variable x ∷ ts))) (in_terms front ts x)

in_atoms : (front atoms : List AtomRecord) (a : AtomRecord) (x : List ℕ) → list_any (is_variable x) a.terms ≡ true → list_any (λ b. list_any (is_variable x) b.terms) (front ++ (a ∷ atoms)) ≡ true
in_atoms [] atoms a x e = rw e refl
in_atoms (b ∷ front) atoms a x e = or_right (list_any (is_variable x) b.terms) (list_any (λ b. list_any (is_variable x) b.terms) (front ++ (a ∷ atoms))) (in_atoms front atoms a x e)

own_terms : (before after : List AtomRecord) (a : AtomRecord) (front ts : List TermContent) → a.terms ≡ front ++ ts → AllByRecursion (λ t. is_bound (before ++ (a ∷ after)) t ≡ true) ts
own_terms before after a front [] e = tt
own_terms before after a front (Constant v ∷ ts) e = (refl, own_terms before after a (front ++ (Constant v ∷ [])) ts (e ∙ sym (append_assoc front (Constant v ∷ []) ts)))
own_terms before after a front (Variable x ∷ ts) e = (
  in_atoms before after a x (ap (list_any (is_variable x)) e ∙ in_terms front ts x),
  own_terms before after a (front ++ (Variable x ∷ [])) ts (e ∙ sym (append_assoc front (Variable x ∷ []) ts)),
)

own_atoms : (body before atoms : List AtomRecord) → body ≡ before ++ atoms → AreBound body atoms
own_atoms body before [] e = tt
own_atoms body before (a ∷ atoms) e = (
  subst (λ (b : List AtomRecord). AllByRecursion (λ t. is_bound b t ≡ true) a.terms) (sym e) (own_terms before atoms a [] a.terms refl),
  own_atoms body (before ++ (a ∷ [])) atoms (e ∙ sym (append_assoc before (a ∷ []) atoms)),
)

own_bound : (body : List AtomRecord) → have_unbound body body ≡ false
own_bound body = none_unbound body body (own_atoms body [] body refl)

-- ---- tokens

abbrev any : List AtomRecord → List TokenContent → Bool
any body ts = list_any (is_unbound body) ts

any_append : (body : List AtomRecord) (a b : List TokenContent) → any body (a ++ b) ≡ (any body a || any body b)
any_append body [] b = refl
any_append body (t ∷ a) b = ap (λ (c : Bool). is_unbound body t || c) (any_append body a b) ∙ sym (or_assoc (is_unbound body t) (any body a) (any body b))

upper_not_lower : (w : List ℕ) → begins_with_upper w ≡ true → begins_with_lower w ≡ false
upper_not_lower [] e = absurd cc
upper_not_lower (b ∷ w) e = grind (arith, nat_tests)

upper_bound : (body : List AtomRecord) (w : List ℕ) → begins_with_upper w ≡ true → is_unbound body (Word w) ≡ false
upper_bound body w e = rw (upper_not_lower w e) refl

term_any : (body : List AtomRecord) (ts : List TokenContent) (x : TermContent) → IsTermText ts x → any body ts ≡ lacks body x
term_any body ts (Constant (Number n)) e = ap (any body) e
term_any body ts (Constant (Text w)) (inl e) = ap (any body) e
term_any body ts (Constant (Text w)) (inr (e, u)) = ap (any body) e ∙ rw (upper_not_lower w u) refl
term_any body ts (Variable x) (e, u) = ap (any body) e ∙ rw u (or_same (lacks body (Variable x)))

separated_any : {A : Type 0} (body : List AtomRecord) (P : List TokenContent → A → Type 0) (f : A → Bool) (ts : List TokenContent) (xs : List A) → ((u : List TokenContent) (x : A) → P u x → any body u ≡ f x) → Separated P ts xs → any body ts ≡ list_any f xs
separated_any body P f ts [] one p = absurd p
separated_any body P f ts (x ∷ []) one p = one ts x p ∙ sym (or_same (f x))
separated_any body P f ts (x ∷ y ∷ xs) one (front, rest, e, p, q) =
    ap (any body) e ∙ any_append body front (Mark Comma ∷ rest) ∙ ap (λ (b : Bool). b || any body rest) (one front x p) ∙ ap (λ (b : Bool). f x || b) (separated_any body P f rest (y ∷ xs) one q)

atom_any : (body : List AtomRecord) (ts : List TokenContent) (x : AtomRecord) → IsAtomText ts x → any body ts ≡ has_unbound body x
atom_any body ts x (inner, e, u, sep) =
    ap (any body) e ∙ ap (λ (b : Bool). b || any body (inner ++ (Mark CloseParen ∷ []))) (upper_bound body x.relation u) ∙ any_append body inner (Mark CloseParen ∷ []) ∙ or_same (any body inner)
    ∙ separated_any body IsTermText (lacks body) inner x.terms (term_any body) sep

if_any : (body : List AtomRecord) (ts : List TokenContent) (xs : List AtomRecord) → AreAtomsIfAny ts xs → any body ts ≡ have_unbound body xs
if_any body ts [] e = ap (any body) e
if_any body ts (x ∷ xs) p = separated_any body IsAtomText (has_unbound body) ts (x ∷ xs) (atom_any body) p

abbrev pub some_lack : QueryParts → Bool
some_lack q = have_unbound q.2 q.0 || have_unbound q.2 q.1

query_any : (form : Form) → (a : Ahead) (q : QueryParts) → QueryRead form a q → any q.2 (ahead q.3) ≡ some_lack q
query_any form a q r =
    let body : any q.2 r.body ≡ false = if_any q.2 r.body q.2 r.are_body ∙ own_bound q.2 in
    let heads : any q.2 (r.heads ++ (Mark Arrow ∷ r.body)) ≡ have_unbound q.2 q.1 =
    any_append q.2 r.heads (Mark Arrow ∷ r.body) ∙ ap (λ (b : Bool). any q.2 r.heads || b) body ∙ or_same (any q.2 r.heads) ∙ separated_any q.2 IsAtomText (has_unbound q.2) r.heads q.1 (atom_any q.2) r.are_heads
    in
    ap (any q.2) r.parts ∙ any_append q.2 r.posts (Mark CloseBrace ∷ (r.heads ++ (Mark Arrow ∷ r.body))) ∙ ap (λ (b : Bool). b || any q.2 (r.heads ++ (Mark Arrow ∷ r.body))) (if_any q.2 r.posts q.0 r.are_posts)
    ∙ ap (λ (b : Bool). have_unbound q.2 q.0 || b) heads

-- ---- lexemes

abbrev pub AreGood : List LexemeContent → Type 0
AreGood ls = AllByRecursion (λ l. flaw l.token ≡ None) ls

scan_step : (f : Option Kind) (at : ℕ) (k : Result (Unit {0}) TextFault) → after_flaw f at k ≡ Ok tt → (f ≡ None) × (k ≡ Ok tt)
scan_step None at k e = (refl, e)
scan_step (Some kind) at k e = absurd cc

token_step : (o : Option (List Symbol)) (b : Bool) (at : ℕ) (k : List Symbol → Result (Unit {0}) TextFault) → on_token o b at k ≡ Ok tt → (rs : List Symbol) × (k rs ≡ Ok tt)
token_step None b at k e = absurd cc
token_step (Some rs) true at k e = absurd cc
token_step (Some rs) false at k e = (rs, e)

pub scan_good : (form : Form) → (ss : List Symbol) (p : Place) (ls : List LexemeContent) (end : ℕ) → scan form ss p ls end ≡ Ok tt → AreGood ls
unfolding scan
scan_good form ss p [] end e = tt
scan_good form ss p (l ∷ ls) end e =
    let f = scan_step (flaw l.token) l.at _ e in
    let t = token_step (take_token ss l.token) (is_over form p l.token) l.at _ f.1 in
    (f.0, scan_good form t.0 (behind_token form p l.token) ls end t.1)

walk_none : (body : List AtomRecord) (ls : List LexemeContent) → any body (tokens_of ls) ≡ false → first_unbound_at body ls ≡ None
walk_none body [] e = refl
walk_none body (l ∷ ls) e = let n = or_none (is_unbound body l.token) (any body (tokens_of ls)) e in rw n.0 (walk_none body ls n.1)

walk_some : (body : List AtomRecord) (ls : List LexemeContent) (end : ℕ) → any body (tokens_of ls) ≡ true → AreGood ls → (off : ℕ) × (first_unbound_at body ls ≡ Some off) × (first_unbound_of body ls end ≡ Ok off)
walk_some body [] end e g = absurd cc
walk_some body (l ∷ ls) end e g = by_case (is_unbound body l.token) refl e (λ h. walk_some body ls end h g.1)
  where
    by_case : (b : Bool) → is_unbound body l.token ≡ b → (b || any body (tokens_of ls)) ≡ true → (any body (tokens_of ls) ≡ true → (off : ℕ) × (first_unbound_at body ls ≡ Some off) × (first_unbound_of body ls end ≡ Ok off))
        → (off : ℕ) × (first_unbound_at body (l ∷ ls) ≡ Some off) × (first_unbound_of body (l ∷ ls) end ≡ Ok off)
    by_case true h k more = (l.at, rw h refl, rw (g.0, h) refl)
    by_case false h k more = let m = more k in (m.0, rw h m.1, rw (g.0, h) m.2)

-- ---- what becomes of the parts of a query

abbrev pub record_of : QueryParts → QueryRecord
record_of q = query_record q.0 q.1 q.2

pub record AllBound (q : QueryParts) : Type 0 where
  pub read : bound_query q.0 q.1 q.2 q.3 ≡ Ok (record_of q)
  pub restricted : IsRestricted (record_of q)
  pub nowhere : first_unbound_at q.2 q.3.lexemes ≡ None

pub record SomeUnbound (q : QueryParts) : Type 0 where
  pub offset : ℕ
  pub read : bound_query q.0 q.1 q.2 q.3 ≡ fault Unbound offset
  pub not_restricted : IsRestricted (record_of q) → ⊥
  pub first : first_unbound_at q.2 q.3.lexemes ≡ Some offset

all_bound : (q : QueryParts) → any q.2 (ahead q.3) ≡ some_lack q → some_lack q ≡ false → AllBound q
all_bound q e b =
    let n = or_none (have_unbound q.2 q.0) (have_unbound q.2 q.1) b in
    record { read = rw (bound_both q.2 q.0 q.1, b) refl; restricted = (are_bound q.2 q.0 n.0, are_bound q.2 q.1 n.1); nowhere = walk_none q.2 q.3.lexemes (e ∙ b) }

unbound_read : (q : QueryParts) (offset : ℕ) → some_lack q ≡ true → first_unbound_of q.2 q.3.lexemes q.3.end ≡ Ok offset → bound_query q.0 q.1 q.2 q.3 ≡ fault Unbound offset
unfolding first_unbound_from
unbound_read q offset b w = rw (bound_both q.2 q.0 q.1, b, w) refl

contradiction : (q : QueryParts) → some_lack q ≡ true → have_unbound q.2 q.0 ≡ false → have_unbound q.2 q.1 ≡ false → ⊥
contradiction q b x y = true_false (sym b ∙ rw (x, y) refl)
  where
    true_false : true ≡ false → ⊥
    true_false h = cc

some_unbound : (q : QueryParts) → AreGood q.3.lexemes → any q.2 (ahead q.3) ≡ some_lack q → some_lack q ≡ true → SomeUnbound q
some_unbound q good e b =
    let w = walk_some q.2 q.3.lexemes q.3.end (e ∙ b) good in
    record { offset = w.0; read = unbound_read q w.0 b w.2; not_restricted = λ r. contradiction q b (none_unbound q.2 q.0 r.0) (none_unbound q.2 q.1 r.1); first = w.1 }

pub bound_or_not : (form : Form) → (a : Ahead) (q : QueryParts) → QueryRead form a q → AreGood q.3.lexemes → AllBound q ⊎ SomeUnbound q
bound_or_not form a q r good = by_case (some_lack q) refl
  where
    by_case : (b : Bool) → some_lack q ≡ b → AllBound q ⊎ SomeUnbound q
    by_case true e = inr (some_unbound q good (query_any form a q r) e)
    by_case false e = inl (all_bound q (query_any form a q r) e)
