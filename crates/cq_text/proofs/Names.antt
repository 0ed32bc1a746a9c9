-- What stands after a name that was read.
use Rattle.std.proofs.Common.{◌≡◌, ℕ, Bool, true, false, List, Some, None, Ok, refl, sym, ap, subst, ◌∙◌, Result, Err}
use Rattle.std.specs.Prelude.{if◌then◌else◌}
use Rattle.cq_atom.specs.Atom.{TermContent, AtomRecord}
use Rattle.cq_atom.specs.Query.{QueryRecord}
use Rattle.cq_atom.specs.Value.{ValueContent}
use Rattle.cq_text.specs.declared.command.CommandKind.TheVariants.{Setup, Edit}
use Rattle.cq_text.specs.declared.command.SetupLine.TheVariants.{Relation}
use Rattle.cq_atom.specs.declared.edit.EditKind.TheVariants.{Post, Withdraw}
use Rattle.cq_text.specs.declared.token.Close.{Close}
use Rattle.cq_text.specs.declared.token.Close.TheVariants.{By}
use Rattle.cq_text.specs.declared.token.Sign.TheVariants.{OpenParen, CloseParen}
use Rattle.cq_text.specs.Steps.Lexemes.{Ahead, ◌>>=◌, sign_at, end_at, goes_on_at, name_at, relation_name_at, Gives, Fails, fault}
use Rattle.cq_text.specs.Steps.Lists.{next_term_at, term_at, next_value_at, value_at, next_unbound_at, unbound_at, applied_at, atom_at, values_at, row_record, row_at, query_at, atom_record, terms_at}
use Rattle.cq_text.specs.Steps.Commands.{count_at, relation_at, post_at, withdraw_at}
use Rattle.cq_text.specs.declared.fault.Kind.{Kind}
use Rattle.cq_text.specs.declared.fault.Kind.TheVariants.{Limit, Shape}
use Rattle.cq_text.specs.declared.fault.TextFault.TheVariants.{At, NoMemory}
use Rattle.cq_text.specs.declared.fault.TextFault.{TextFault}
use Rattle.cq_text.proofs.Binds.{bind_assoc, ok_is}
use Rattle.cq_text.specs.declared.form.Form.{Form}
use Rattle.cq_text.specs.Forms.{most_terms}

-- steps after one that fails fail
pub fails_on : {A B : Type 0} (d : TextFault) (r : Result A TextFault) (f : A → Result B TextFault) → Fails d r → Fails d (r >>= f)
fails_on NoMemory r f h = tt
fails_on {A} (At kind offset) r f h = ap (λ (x : Result A TextFault). x >>= f) h

never_err : {A : Type 0} (kind : Kind) (offset : ℕ) (x : A) → ◌≡◌ {A = Result A TextFault} (Ok x) (Err (At kind offset)) → ⊥
never_err kind offset x e = cc

-- what gives a value fails only where memory runs out
pub fails_any : {A B : Type 0} (d : TextFault) (x : A) (r : Result B TextFault) → Fails d (Ok x) → Fails d r
fails_any NoMemory x r h = tt
fails_any (At kind offset) x r h = absurd (never_err kind offset x h)

atom_by_name : (form : Form) → (close : Close) (a : Ahead) → atom_at form close true a ≡ (relation_name_at a >>= λ n. applied_at form n.0 n.2 >>= λ x. goes_on_at close x.1 >>= λ m. Ok (x.0, m.0, m.1))
unfolding atom_at relation_name_at
atom_by_name form close a = sym (simp bind_assoc)

pub atom_read : (form : Form) → (close : Close) (room : Bool) (a b c d : Ahead) (w : List ℕ) (at : ℕ) (x : AtomRecord) (more : Bool) → room ≡ true → relation_name_at a ≡ Ok (w, at, b) → applied_at form w b ≡ Ok (x, c) → goes_on_at close c ≡ Ok (more, d) → atom_at form close room a ≡ Ok (x, more, d)
atom_read form close room a b c d w at x more r e f g = rw r (atom_by_name form close a ∙ rw (e, f, g) refl)

pub atom_fails_inside : (d : TextFault) (form : Form) (close : Close) (room : Bool) (a b : Ahead) (w : List ℕ) (at : ℕ) → room ≡ true → relation_name_at a ≡ Ok (w, at, b) → Fails d (applied_at form w b) → Fails d (atom_at form close room a)
atom_fails_inside d form close room a b w at r e h = rw (r, atom_by_name form close a, e) (fails_on d (applied_at form w b) _ h)

pub atom_fails_behind : (d : TextFault) (form : Form) (close : Close) (room : Bool) (a b c : Ahead) (w : List ℕ) (at : ℕ) (x : AtomRecord) → room ≡ true → relation_name_at a ≡ Ok (w, at, b) → applied_at form w b ≡ Ok (x, c) → Fails d (goes_on_at close c) → Fails d (atom_at form close room a)
atom_fails_behind d form close room a b c w at x r e f h = rw (r, atom_by_name form close a, e, f) (fails_on d (goes_on_at close c) _ h)

term_by_next : (room : Bool) (a : Ahead) → term_at room a ≡ (next_term_at a >>= λ x. if room then (goes_on_at (By CloseParen) x.2 >>= λ m. Ok (x.0, m.0, m.1)) else fault Limit x.1)
unfolding term_at next_term_at
term_by_next room a = sym (simp bind_assoc)

pub term_fails : (d : TextFault) (room : Bool) (a : Ahead) → Fails d (next_term_at a) → Fails d (term_at room a)
term_fails d room a h = rw (term_by_next room a) (fails_on d (next_term_at a) _ h)

pub term_fails_behind : (d : TextFault) (room : Bool) (a b : Ahead) (x : TermContent) (at : ℕ) → room ≡ true → next_term_at a ≡ Ok (x, at, b) → Fails d (goes_on_at (By CloseParen) b) → Fails d (term_at room a)
term_fails_behind d room a b x at r e h = rw (term_by_next room a, r, e) (fails_on d (goes_on_at (By CloseParen) b) _ h)

row_by_name : (form : Form) → (a : Ahead) → row_at form a ≡ (relation_name_at a >>= λ n. sign_at OpenParen n.2 >>= λ i. values_at form i >>= λ v. end_at v.1 >>= λ r. Ok (row_record n.0 v.0))
unfolding row_at relation_name_at
row_by_name form a = sym (simp bind_assoc)

pub row_read : (form : Form) → (a b c d e : Ahead) (w : List ℕ) (at : ℕ) (values : List ValueContent) → relation_name_at a ≡ Ok (w, at, b) → sign_at OpenParen b ≡ Ok c → values_at form c ≡ Ok (values, d) → end_at d ≡ Ok e → row_at form a ≡ Ok (row_record w values)
row_read form a b c d e w at values n s v f = row_by_name form a ∙ rw (n, s, v, f) refl

pub row_fails_inside : (d : TextFault) (form : Form) (a b c : Ahead) (w : List ℕ) (at : ℕ) → relation_name_at a ≡ Ok (w, at, b) → sign_at OpenParen b ≡ Ok c → Fails d (values_at form c) → Fails d (row_at form a)
row_fails_inside d form a b c w at n s h = rw (row_by_name form a, n, s) (fails_on d (values_at form c) _ h)

pub row_fails_behind : (d : TextFault) (form : Form) (a b c e : Ahead) (w : List ℕ) (at : ℕ) (values : List ValueContent) → relation_name_at a ≡ Ok (w, at, b) → sign_at OpenParen b ≡ Ok c → values_at form c ≡ Ok (values, e) → Fails d (end_at e) → Fails d (row_at form a)
row_fails_behind d form a b c e w at values n s v h = rw (row_by_name form a, n, s, v) (fails_on d (end_at e) _ h)

relation_by_name : (form : Form) → (a : Ahead) → relation_at form a ≡ (relation_name_at a >>= λ n. count_at (most_terms form) n.2 >>= λ k. end_at k.1 >>= λ r. Ok (Setup (Relation n.0 k.0)))
unfolding relation_at relation_name_at
relation_by_name form a = sym (simp bind_assoc)

pub relation_read : (form : Form) → (a b c d : Ahead) (w v : List ℕ) (at arity : ℕ) → relation_name_at a ≡ Ok (w, at, b) → count_at (most_terms form) b ≡ Ok (arity, c) → end_at c ≡ Ok d → ◌≡◌ {A = Result (List ℕ) TextFault} (Ok w) (Ok v) → relation_at form a ≡ Ok (Setup (Relation v arity))
relation_read form a b c d w v at arity n k f e = relation_by_name form a ∙ rw (n, k, f) (ap (λ (u : List ℕ). Ok (Setup (Relation u arity))) (ok_is w v e))

pub relation_fails_behind : (d : TextFault) (form : Form) (most : ℕ) (a b c : Ahead) (w : List ℕ) (at arity : ℕ) → most ≡ most_terms form → relation_name_at a ≡ Ok (w, at, b) → count_at most b ≡ Ok (arity, c) → Fails d (end_at c) → Fails d (relation_at form a)
relation_fails_behind d form most a b c w at arity m n k h = rw (relation_by_name form a, n, ← m, k) (fails_on d (end_at c) _ h)

post_by_name : (form : Form) → (a : Ahead) → post_at form a ≡ (name_at a >>= λ n. query_at form n.1 >>= λ q. Ok (Edit (Post n.0 q)))
unfolding post_at name_at
post_by_name form a = sym (simp bind_assoc)

pub post_read : (form : Form) → (a b : Ahead) (w : List ℕ) (q : QueryRecord) → name_at a ≡ Ok (w, b) → query_at form b ≡ Ok q → post_at form a ≡ Ok (Edit (Post w q))
post_read form a b w q n r = post_by_name form a ∙ rw (n, r) refl

applied_by : (form : Form) → (w : List ℕ) (a b c : Ahead) (terms : List TermContent) → sign_at OpenParen a ≡ Ok b → terms_at form b ≡ Ok (terms, c) → applied_at form w a ≡ Ok (atom_record w terms, c)
unfolding applied_at
applied_by form w a b c terms s t = rw (s, t) refl

with_rest : {A B : Type 0} (r : Result A TextFault) (x : A) (c : B) → Gives (λ (y : A). y) r (Ok x) → Gives {Y = A × B} (λ (y : A). (y, c)) r (Ok (x, c))
with_rest {A} (Ok y) x c e = ap (λ (z : Result A TextFault). z >>= λ v. Ok (v, c)) e
with_rest (Err NoMemory) x c e = tt
with_rest (Err (At kind offset)) x c e = absurd (never_err kind offset x e)

pub applied_read : (form : Form) → (w : List ℕ) (a b c : Ahead) (terms : List TermContent) (r : Result AtomRecord TextFault) → sign_at OpenParen a ≡ Ok b → terms_at form b ≡ Ok (terms, c) → Gives (λ (atom : AtomRecord). atom) r (Ok (atom_record w terms)) → Gives (λ (atom : AtomRecord). (atom, c)) r (applied_at form w a)
applied_read form w a b c terms r s t g = rw (applied_by form w a b c terms s t) (with_rest r (atom_record w terms) c g)

-- ---- a relation

pub relation_fails : (d : TextFault) (form : Form) (a : Ahead) → Fails d (relation_name_at a) → Fails d (relation_at form a)
relation_fails d form a h = subst (Fails d) (sym (relation_by_name form a)) (fails_on d (relation_name_at a) _ h)

pub relation_fails_inside : (d : TextFault) (form : Form) (most : ℕ) (a b : Ahead) (w : List ℕ) (at : ℕ) → most ≡ most_terms form → relation_name_at a ≡ Ok (w, at, b) → Fails d (count_at most b) → Fails d (relation_at form a)
relation_fails_inside d form most a b w at m n h = rw (relation_by_name form a, n, ← m) (fails_on d (count_at most b) _ h)

-- ---- a term

pub term_read : (room : Bool) (a b c : Ahead) (x : TermContent) (at : ℕ) (more : Bool) → room ≡ true → next_term_at a ≡ Ok (x, at, b) → goes_on_at (By CloseParen) b ≡ Ok (more, c) → term_at room a ≡ Ok (x, more, c)
term_read room a b c x at more r e f = term_by_next room a ∙ rw (r, e, f) refl

pub term_without_room : (room : Bool) (a b : Ahead) (x : TermContent) (at : ℕ) → room ≡ false → next_term_at a ≡ Ok (x, at, b) → term_at room a ≡ fault Limit at
term_without_room room a b x at r e = term_by_next room a ∙ rw (r, e) refl

-- ---- a withdrawal

withdraw_by_name : (a : Ahead) → withdraw_at a ≡ (name_at a >>= λ n. end_at n.1 >>= λ r. Ok (Edit (Withdraw n.0)))
unfolding withdraw_at name_at
withdraw_by_name a = sym (simp bind_assoc)

pub withdraw_read : (a b c : Ahead) (w : List ℕ) → name_at a ≡ Ok (w, b) → end_at b ≡ Ok c → withdraw_at a ≡ Ok (Edit (Withdraw w))
withdraw_read a b c w n e = withdraw_by_name a ∙ rw (n, e) refl

pub withdraw_fails : (d : TextFault) (a : Ahead) → Fails d (name_at a) → Fails d (withdraw_at a)
withdraw_fails d a h = subst (Fails d) (sym (withdraw_by_name a)) (fails_on d (name_at a) _ h)

pub withdraw_fails_behind : (d : TextFault) (a b : Ahead) (w : List ℕ) → name_at a ≡ Ok (w, b) → Fails d (end_at b) → Fails d (withdraw_at a)
withdraw_fails_behind d a b w n h = rw (withdraw_by_name a, n) (fails_on d (end_at b) _ h)

-- ---- a row

pub row_fails : (d : TextFault) (form : Form) (a : Ahead) → Fails d (relation_name_at a) → Fails d (row_at form a)
row_fails d form a h = subst (Fails d) (sym (row_by_name form a)) (fails_on d (relation_name_at a) _ h)

pub row_fails_open : (d : TextFault) (form : Form) (a b : Ahead) (w : List ℕ) (at : ℕ) → relation_name_at a ≡ Ok (w, at, b) → Fails d (sign_at OpenParen b) → Fails d (row_at form a)
row_fails_open d form a b w at n h = rw (row_by_name form a, n) (fails_on d (sign_at OpenParen b) _ h)

-- ---- a value

value_by_next : (room : Bool) (a : Ahead) → value_at room a ≡ (next_value_at a >>= λ x. if room then (goes_on_at (By CloseParen) x.2 >>= λ m. Ok (x.0, m.0, m.1)) else fault Limit x.1)
unfolding value_at next_value_at
value_by_next room a = sym (simp bind_assoc)

pub value_read : (room : Bool) (a b c : Ahead) (x : ValueContent) (at : ℕ) (more : Bool) → room ≡ true → next_value_at a ≡ Ok (x, at, b) → goes_on_at (By CloseParen) b ≡ Ok (more, c) → value_at room a ≡ Ok (x, more, c)
value_read room a b c x at more r e f = value_by_next room a ∙ rw (r, e, f) refl

pub value_without_room : (room : Bool) (a b : Ahead) (x : ValueContent) (at : ℕ) → room ≡ false → next_value_at a ≡ Ok (x, at, b) → value_at room a ≡ fault Limit at
value_without_room room a b x at r e = value_by_next room a ∙ rw (r, e) refl

pub value_fails : (d : TextFault) (room : Bool) (a : Ahead) → Fails d (next_value_at a) → Fails d (value_at room a)
value_fails d room a h = rw (value_by_next room a) (fails_on d (next_value_at a) _ h)

pub value_fails_behind : (d : TextFault) (room : Bool) (a b : Ahead) (x : ValueContent) (at : ℕ) → room ≡ true → next_value_at a ≡ Ok (x, at, b) → Fails d (goes_on_at (By CloseParen) b) → Fails d (value_at room a)
value_fails_behind d room a b x at r e h = rw (value_by_next room a, r, e) (fails_on d (goes_on_at (By CloseParen) b) _ h)

-- ---- a variable of a head that no atom of the body has

unbound_by_next : (body : List AtomRecord) (a : Ahead) → unbound_at body a ≡ (next_unbound_at body a >>= λ x. if x.0 then Ok (Some x.2, x.3) else (if x.1 then fault Shape x.2 else Ok (None, x.3)))
unfolding unbound_at next_unbound_at
unbound_by_next body a = sym (simp bind_assoc)

pub unbound_fails : (d : TextFault) (body : List AtomRecord) (a : Ahead) → Fails d (next_unbound_at body a) → Fails d (unbound_at body a)
unbound_fails d body a h = rw (unbound_by_next body a) (fails_on d (next_unbound_at body a) _ h)

pub unbound_here : (body : List AtomRecord) (a b : Ahead) (is end : Bool) (at : ℕ) → next_unbound_at body a ≡ Ok (is, end, at, b) → is ≡ true → unbound_at body a ≡ Ok (Some at, b)
unbound_here body a b is end at n t = unbound_by_next body a ∙ rw (n, t) refl

pub unbound_at_end : (body : List AtomRecord) (a b : Ahead) (is end : Bool) (at : ℕ) → next_unbound_at body a ≡ Ok (is, end, at, b) → is ≡ false → end ≡ true → unbound_at body a ≡ fault Shape at
unbound_at_end body a b is end at n f t = unbound_by_next body a ∙ rw (n, f, t) refl

pub unbound_not : (body : List AtomRecord) (a b : Ahead) (is end : Bool) (at : ℕ) → next_unbound_at body a ≡ Ok (is, end, at, b) → is ≡ false → end ≡ false → unbound_at body a ≡ Ok (None, b)
unbound_not body a b is end at n f e = unbound_by_next body a ∙ rw (n, f, e) refl

-- ---- an atom

atom_without : (form : Form) (close : Close) (a : Ahead) → atom_at form close false a ≡ (relation_name_at a >>= λ n. fault Limit n.1)
unfolding atom_at relation_name_at
atom_without form close a = sym (simp bind_assoc)

pub atom_fails : (d : TextFault) (form : Form) (close : Close) (room : Bool) (a : Ahead) → Fails d (relation_name_at a) → Fails d (atom_at form close room a)
atom_fails d form close true a h = rw (atom_by_name form close a) (fails_on d (relation_name_at a) _ h)
atom_fails d form close false a h = rw (atom_without form close a) (fails_on d (relation_name_at a) _ h)

pub atom_without_room : (form : Form) (close : Close) (room : Bool) (a b : Ahead) (w : List ℕ) (at : ℕ) → room ≡ false → relation_name_at a ≡ Ok (w, at, b) → atom_at form close room a ≡ fault Limit at
atom_without_room form close room a b w at r n = rw r (atom_without form close a ∙ rw n refl)

-- ---- a posting

pub post_fails : (d : TextFault) (form : Form) (a : Ahead) → Fails d (name_at a) → Fails d (post_at form a)
post_fails d form a h = rw (post_by_name form a) (fails_on d (name_at a) _ h)

pub post_fails_behind : (d : TextFault) (form : Form) (a b : Ahead) (w : List ℕ) → name_at a ≡ Ok (w, b) → Fails d (query_at form b) → Fails d (post_at form a)
post_fails_behind d form a b w n h = rw (post_by_name form a, n) (fails_on d (query_at form b) _ h)
