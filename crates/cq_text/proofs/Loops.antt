-- Reading a list, as a loop does.
use Rattle.std.proofs.Common.{◌≡◌, ℕ, suc, ◌-◌, ◌+◌, ◌≤◌, ◌<◌, Bool, true, false, cond, nat_lt, List, [], ◌∷◌, ◌++◌, Result, Ok, Err, refl, sym, ap, ◌∙◌, append_assoc, arith, inl, inr, zero, Option, Some, None, IfOk, subst}
use Rattle.std.proofs.lemmas.Bool.{cases_lt, lt-ltb, le-ltb, le-leb}
use Rattle.cq_atom.specs.Atom.{is_arity, AtomRecord}
use Rattle.cq_text.specs.declared.fault.Kind.TheVariants.{Limit, Shape}
use Rattle.cq_text.specs.declared.fault.Kind.{Kind}
use Rattle.cq_text.specs.declared.fault.TextFault.{TextFault}
use Rattle.cq_text.specs.declared.fault.TextFault.TheVariants.{At, NoMemory}
use Rattle.cq_text.specs.Steps.Lexemes.{Ahead, Fails, Gives, ◌>>=◌, next_at, term_in, value_in, relation_in, unless_flawed, next_of, is_sign, is_finish, goes_on_at}
use Rattle.cq_text.specs.Steps.Lists.{Item, listed_at, term_at, value_at, atom_at, applied_at, atoms_at, atoms_if_any_at}
use Rattle.cq_text.proofs.Binds.{bind_never, bind_ok, never_ok, ok_is, guard_ok, chosen}
use Rattle.cq_text.specs.declared.token.Close.{Close}
use Rattle.cq_text.specs.declared.token.Close.TheVariants.{End}
use Rattle.cq_text.specs.declared.token.Sign.TheVariants.{Comma}
use Rattle.cq_text.specs.declared.token.Token.TheVariants.{Mark, Word, Literal, Bad, Finish}
use Rattle.cq_text.specs.Token.{TokenContent, LexemeContent, flaw}
use Rattle.cq_text.specs.declared.form.Form.{Form}
use Rattle.cq_text.specs.declared.form.Form.TheVariants.{One, Two}
use Rattle.cq_text.specs.Forms.{most_terms, most_atoms}
use Rattle.cq_atom.specs.Limits.{max_arity, max_atoms}

-- no item is read where there is no room for it
abbrev pub NeedsRoom : {A : Type 0} → Item A → Type 0
NeedsRoom {A} item = (a : Ahead) (r : A × Bool × Ahead) → item false a ≡ Ok r → ⊥

pub term_needs : NeedsRoom term_at
unfolding term_at
term_needs a r h =
    let p = bind_ok (next_at a) _ r h in
    let q = bind_ok (term_in p.0.0.token p.0.0.at) _ r p.2 in
    never_ok Limit p.0.0.at r q.2

pub value_needs : NeedsRoom value_at
unfolding value_at
value_needs a r h =
    let p = bind_ok (next_at a) _ r h in
    let q = bind_ok (value_in p.0.0.token p.0.0.at) _ r p.2 in
    never_ok Limit p.0.0.at r q.2

pub atom_needs : (form : Form) → (close : Close) → NeedsRoom (atom_at form close)
unfolding atom_at
atom_needs form close a r h =
    let p = bind_ok (next_at a) _ r h in
    let q = bind_ok (relation_in p.0.0.token p.0.0.at) _ r p.2 in
    never_ok Limit p.0.0.at r q.2

-- what was read before, and what is still read
abbrev pub with_front : {A : Type 0} → List A → Result (List A × Ahead) TextFault → Result (List A × Ahead) TextFault
with_front front read = read >>= λ x. Ok (front ++ x.0, x.1)

-- what a step of the loop makes of the rest
abbrev stepped : {A : Type 0} → Item A → ℕ → A × Bool × Ahead → Result (List A × Ahead) TextFault
stepped item n i = cond i.1 (listed_at item n i.2 >>= λ xs. Ok (i.0 ∷ xs.0, xs.1)) (Ok (i.0 ∷ [], i.2))

listed-suc : {A : Type 0} (item : Item A) (n : ℕ) (a : Ahead) → listed_at item (suc n) a ≡ (item true a >>= stepped item n)
unfolding listed_at
listed-suc item n a = refl

listed-zero : {A : Type 0} (item : Item A) (a : Ahead) → NeedsRoom item → listed_at item 0 a ≡ (item false a >>= stepped item 0)
unfolding listed_at
listed-zero item a n = bind_never (item false a) _ _ (n a)

listed-step : {A : Type 0} (item : Item A) (most k : ℕ) (a : Ahead) → NeedsRoom item → k ≤ most → listed_at item (most - k) a ≡ (item (nat_lt k most) a >>= stepped item (most - (k + 1)))
listed-step item most k a n le = elim (cases_lt k most) [
  | inl lt ↦ let e : most - k ≡ suc (most - (k + 1)) = omega arith in rw (e, lt-ltb k most lt) (listed-suc item (most - (k + 1)) a)
  | inr ge ↦ let e : most - k ≡ 0 = omega arith in let d : most - (k + 1) ≡ 0 = omega arith in rw (e, d, le-ltb k most ge) (listed-zero item a n)
]

abbrev pub SoFar : {A : Type 0} → Item A → ℕ → List A → ℕ → Ahead → Result (List A × Ahead) TextFault → Type 0
SoFar item most front k a total = with_front front (listed_at item (most - k) a) ≡ total

-- the loop ends at a fault
pub step_fails : {A : Type 0} (item : Item A) (e : TextFault) (most : ℕ) (front : List A) (k : ℕ) (a : Ahead) (total : Result (List A × Ahead) TextFault) → NeedsRoom item → k ≤ most → SoFar item most front k a total → Fails e (item (nat_lt k most) a) → Fails e total
step_fails item NoMemory most front k a total n le so_far h = tt
step_fails item (At kind offset) most front k a total n le so_far h = sym so_far ∙ ap (with_front front) (listed-step item most k a n le) ∙ rw h refl

regroup : {A : Type 0} (front : List A) (x : A) (r : Result (List A × Ahead) TextFault) → with_front front (r >>= λ xs. Ok (x ∷ xs.0, xs.1)) ≡ with_front (front ++ (x ∷ [])) r
regroup {A} front x (Ok y) = ap (λ (xs : List A). Ok (xs, y.1)) (sym (append_assoc front (x ∷ []) y.0))
regroup front x (Err f) = refl

-- or goes on
pub step_more : {A : Type 0} (item : Item A) (most : ℕ) (front : List A) (k : ℕ) (a b : Ahead) (x : A) (total : Result (List A × Ahead) TextFault) → NeedsRoom item → k ≤ most → SoFar item most front k a total → item (nat_lt k most) a ≡ Ok (x, true, b) → SoFar item most (front ++ (x ∷ [])) (k + 1) b total
step_more item most front k a b x total n le so_far h = sym (sym so_far ∙ ap (with_front front) (listed-step item most k a n le) ∙ rw h (regroup front x (listed_at item (most - (k + 1)) b)))

pub step_done : {A : Type 0} (item : Item A) (most : ℕ) (front : List A) (k : ℕ) (a b : Ahead) (x : A) (total : Result (List A × Ahead) TextFault) → NeedsRoom item → k ≤ most → SoFar item most front k a total → item (nat_lt k most) a ≡ Ok (x, false, b) → total ≡ Ok (front ++ (x ∷ []), b)
step_done item most front k a b x total n le so_far h = sym so_far ∙ ap (with_front front) (listed-step item most k a n le) ∙ rw h refl

-- an item is read only where there is room
pub step_room : {A : Type 0} (item : Item A) (most k : ℕ) (a : Ahead) (r : A × Bool × Ahead) → NeedsRoom item → k ≤ most → item (nat_lt k most) a ≡ Ok r → k < most
step_room item most k a r n le h = elim (cases_lt k most) [ inl lt ↦ lt | inr ge ↦ absurd (n a r (ap (λ (b : Bool). item b a) (sym (le-ltb k most ge)) ∙ h)) ]

-- what a step gives, at the numbers that its test compares
pub at_numbers : {A : Type 0} (item : Item A) (len max k most : ℕ) (a : Ahead) (r : Result (A × Bool × Ahead) TextFault) → len ≡ k → max ≡ most → item (nat_lt len max) a ≡ r → item (nat_lt k most) a ≡ r
at_numbers item len max k most a r e f h = sym (ap (λ (n : ℕ). item (nat_lt n max) a) e ∙ ap (λ (n : ℕ). item (nat_lt k n) a) f) ∙ h

pub fails_at_numbers : {A : Type 0} (item : Item A) (d : TextFault) (len max k most : ℕ) (a : Ahead) → len ≡ k → max ≡ most → Fails d (item (nat_lt len max) a) → Fails d (item (nat_lt k most) a)
fails_at_numbers {A} item d len max k most a e f h = subst (λ (r : Result (A × Bool × Ahead) TextFault). Fails d r) (ap (λ (n : ℕ). item (nat_lt n max) a) e ∙ ap (λ (n : ℕ). item (nat_lt k n) a) f) h

-- no form allows more terms than an atom may have
pub few_terms_of : (form : Form) (n : ℕ) → n ≤ most_terms form → n ≤ max_arity
few_terms_of One n le = omega arith
few_terms_of Two n le = le

-- nor more atoms than a part of a query
pub few_atoms_of : (form : Form) (n : ℕ) → n ≤ most_atoms form → n ≤ max_atoms
few_atoms_of One n le = omega arith
few_atoms_of Two n le = le

pub some_arity : (form : Form) (n : ℕ) → n < most_terms form → is_arity (n + 1) ≡ true
some_arity form n lt =
    let one : 1 ≤ n + 1 = omega arith in
    let few : n + 1 ≤ max_arity = few_terms_of form (n + 1) (omega arith) in
    rw (le-leb 1 (n + 1) one, le-leb (n + 1) max_arity few) refl

with_nothing : {A : Type 0} (r : Result (List A × Ahead) TextFault) → with_front [] r ≡ r
with_nothing (Ok x) = refl
with_nothing (Err e) = refl

pub begins : {A : Type 0} (item : Item A) (most : ℕ) (front : List A) (k : ℕ) (a : Ahead) → front ≡ [] → k ≡ 0 → SoFar item most front k a (listed_at item most a)
begins item most front k a e f = rw (e, f) (let h : most - 0 ≡ most = omega arith in rw h (with_nothing (listed_at item most a)))

-- ---- reading up to the end

-- nothing is after the end
finish_last : (a : Ahead) (l : LexemeContent) (b : Ahead) → next_at a ≡ Ok (l, b) → is_finish l.token ≡ true → b.lexemes ≡ []
unfolding next_at
finish_last a l b e f = over a.lexemes e
  where
    pair_is : (m : LexemeContent) (c : Ahead) → ◌≡◌ {A = Result (LexemeContent × Ahead) TextFault} (Ok (m, c)) (Ok (l, b)) → (m ≡ l) × (c ≡ b)
    pair_is m c h = let p = ok_is (m, c) (l, b) h in (ap (λ (q : LexemeContent × Ahead). q.0) p, ap (λ (q : LexemeContent × Ahead). q.1) p)

    flawed : (t : TokenContent) → is_finish t ≡ true → flaw t ≡ None → ⊥
    flawed Finish h g = cc
    flawed (Mark s) h g = cc
    flawed (Word w) h g = cc
    flawed (Literal v) h g = cc
    flawed (Bad k) h g = cc

    token_step : (m : LexemeContent) (c : Ahead) (g : Option Kind) → flaw m.token ≡ g → unless_flawed {A = LexemeContent × Ahead} g m.at (m, c) ≡ Ok (l, b) → b.lexemes ≡ []
    token_step m c None g h = absurd (flawed m.token (ap (λ (k : LexemeContent). is_finish k.token) (pair_is m c h).0 ∙ f) g)
    token_step m c (Some kind) g h = absurd (never_ok kind m.at (l, b) h)

    over : (ls : List LexemeContent) → next_of ls a.end ≡ Ok (l, b) → b.lexemes ≡ []
    over [] h = ap (λ (c : Ahead). c.lexemes) (sym (pair_is (record { at = a.end; token = Finish }) (record { lexemes = []; end = a.end }) h).1)
    over (m ∷ ms) h = token_step m (record { lexemes = ms; end = a.end }) (flaw m.token) refl h

-- the last item is the last thing
abbrev EndsLast : {A : Type 0} → Item A → Type 0
EndsLast {A} item = (a : Ahead) (x : A) (b : Ahead) → item true a ≡ Ok (x, false, b) → b.lexemes ≡ []

goes_on_ends : (a b : Ahead) → goes_on_at End a ≡ Ok (false, b) → b.lexemes ≡ []
unfolding goes_on_at
goes_on_ends a b e =
    let p = bind_ok (next_at a) _ (false, b) e in
    elim (chosen (is_sign Comma p.0.0.token) _ _ (false, b) p.2) [
      | inl (h, k) ↦ absurd (more_not (ap (λ (m : Bool × Ahead). m.0) (ok_is (true, p.0.1) (false, b) k)))
      | inr (h, k) ↦
          let g = guard_ok (is_finish p.0.0.token) Shape p.0.0.at (false, p.0.1) (false, b) k in
          ap (λ (m : Bool × Ahead). m.1.lexemes) (sym g.1) ∙ finish_last a p.0.0 p.0.1 p.1 g.0
    ]
  where
    more_not : true ≡ false → ⊥
    more_not h = cc

atom_ends : (form : Form) → EndsLast (atom_at form End)
unfolding atom_at
atom_ends form a x b e =
    let p = bind_ok (next_at a) _ (x, false, b) e in
    let q = bind_ok (relation_in p.0.0.token p.0.0.at) _ (x, false, b) p.2 in
    let s = bind_ok (applied_at form q.0 p.0.1) _ (x, false, b) q.2 in
    let m = bind_ok (goes_on_at End s.0.1) _ (x, false, b) s.2 in
    let same = ok_is (s.0.0, m.0.0, m.0.1) (x, false, b) m.2 in
    let last : m.0 ≡ (false, b) = ap (λ (i : AtomRecord × Bool × Ahead). (i.1, i.2)) same in
    goes_on_ends s.0.1 b (m.1 ∙ ap (λ (n : Bool × Ahead). Ok n) last)

listed_ends : {A : Type 0} (item : Item A) (n : ℕ) (a : Ahead) (r : List A × Ahead) → NeedsRoom item → EndsLast item → listed_at item n a ≡ Ok r → r.1.lexemes ≡ []
unfolding listed_at
listed_ends item zero a r needs last e = let p = bind_ok (item false a) _ r e in absurd (needs a p.0 p.1)
listed_ends {A} item (suc n) a r needs last e =
    let p = bind_ok (item true a) _ r e in
    elim (chosen p.0.1 _ _ r p.2) [
      | inl (h, m) ↦
          let q = bind_ok (listed_at item n p.0.2) _ r m in
          ap (λ (z : List A × Ahead). z.1.lexemes) (sym (ok_is (p.0.0 ∷ q.0.0, q.0.1) r q.2)) ∙ listed_ends item n p.0.2 q.0 needs last q.1
      | inr (h, m) ↦
          ap (λ (z : List A × Ahead). z.1.lexemes) (sym (ok_is (p.0.0 ∷ [], p.0.2) r m))
          ∙ last a p.0.0 p.0.2 (p.1 ∙ ap (λ (b : Bool). Ok (p.0.0, b, p.0.2)) h)
    ]

pub atoms_to_end : (form : Form) → (a : Ahead) (r : List AtomRecord × Ahead) → atoms_if_any_at form End a ≡ Ok r → r.1.lexemes ≡ []
unfolding atoms_if_any_at atoms_at
atoms_to_end form a r e =
    let p = bind_ok (next_at a) _ r e in
    elim (chosen (is_finish p.0.0.token) _ _ r p.2) [
      | inl (h, m) ↦ ap (λ (z : List AtomRecord × Ahead). z.1.lexemes) (sym (ok_is ([], p.0.1) r m)) ∙ finish_last a p.0.0 p.0.1 p.1 h
      | inr (h, m) ↦ listed_ends (atom_at form End) (most_atoms form) a r (atom_needs form End) (atom_ends form) m
    ]

-- a list that is handed on, beside what is ahead
pub with_ahead : {X Y : Type 0} (view : X → Y) (r : Result X TextFault) (y : Y) (a : Ahead) (read : Result (Y × Ahead) TextFault) → Gives view r (Ok y) → read ≡ Ok (y, a) → Gives (λ (x : X). (view x, a)) r read
with_ahead view (Ok x) y a read g e = let same : y ≡ view x = cc in e ∙ ap (λ z. Ok (z, a)) same
with_ahead view (Err NoMemory) y a read g e = tt
with_ahead view (Err (At kind offset)) y a read g e = absurd cc

pub of_given : {X Y : Type 0} (P : Y → Type 0) (view : X → Y) (r : Result X TextFault) (y : Y) → Gives view r (Ok y) → P y → IfOk r (λ (x : X). P (view x))
of_given P view (Ok x) y g p = let same : y ≡ view x = cc in subst P same p
of_given P view (Err e) y g p = tt
