-- Where no variable stands twice in an atom, only constants can differ.
use Rattle.std.proofs.Common.{◌≡◌, ℕ, zero, suc, ◌+◌, ◌≤◌, inl, inr, Bool, true, false, List, [], ◌∷◌, length, map, refl, sym, ap, ◌∙◌, arith, if◌then◌else◌, bytes_eq, lit<}
use Rattle.std.specs.Prelude.{pos, not, ◌&&◌, ◌==◌}
use Rattle.std.specs.List.{AllByRecursion}
use Rattle.std.proofs.lemmas.Bool.{eqb-true}
use Rattle.std.proofs.lemmas.Slice.Eq.{bytes_eq-Decides}
use Rattle.cq_atom.specs.declared.value.Content.TheVariants.{Number}
use Rattle.cq_atom.specs.declared.term.TermKind.TheVariants.{Constant, Variable}
use Rattle.cq_atom.specs.Value.{ValueContent, IsValue}
use Rattle.cq_atom.specs.Atom.{TermContent, AtomRecord, RowRecord}
use Rattle.cq_atom.specs.Valuation.{Bindings, AreValues, term_under}
use Rattle.cq_atom.specs.Unify.{Unify}
use Rattle.cq_index.specs.Index.{same_value}
use Rattle.cq_board.specs.Steps.Supply.{unifies}
use Rattle.cq_board.specs.Near.{differ, differences, misses}
use Rattle.cq_board.proofs.Members.{by_bool, In}
use Rattle.cq_board.proofs.Among.{In-All}
use Rattle.cq_board.proofs.Pairwise.{Pairwise}
use Rattle.cq_board.proofs.Sorted.{pairwise-at}
use Rattle.cq_board.proofs.Searches.{same_value_true, unifies_tells}
use Rattle.cq_board.specs.Steps.Linear.{is_one_variable, IsSoundTerm, IsLinear}

-- The values of the row that both terms lists become: a constant of either, and 0 where both have a variable.
abbrev met : TermContent → TermContent → ValueContent
met (Constant c) t = c
met (Variable x) (Constant d) = d
met (Variable x) (Variable y) = Number (pos 0)

abbrev row_of : List TermContent → List TermContent → List ValueContent
row_of [] ts = []
row_of (s ∷ ss) [] = []
row_of (s ∷ ss) (t ∷ ts) = met s t ∷ row_of ss ts

-- each variable with the value at its place
abbrev bound_to : List TermContent → List ValueContent → Bindings
bound_to [] vs = []
bound_to (s ∷ ss) [] = []
bound_to (Constant c ∷ ss) (v ∷ vs) = bound_to ss vs
bound_to (Variable x ∷ ss) (v ∷ vs) = (x, v) ∷ bound_to ss vs

-- each constant is the value at its place
abbrev Shows : List TermContent → List ValueContent → Type 0
Shows [] [] = Unit {0}
Shows [] (v ∷ vs) = ⊥
Shows (s ∷ ss) [] = ⊥
Shows (Constant c ∷ ss) (v ∷ vs) = (c ≡ v) × Shows ss vs
Shows (Variable x ∷ ss) (v ∷ vs) = Shows ss vs

bound-values : (ss : List TermContent) (vs : List ValueContent) → AllByRecursion IsValue vs → AreValues (bound_to ss vs)
bound-values [] vs h = tt
bound-values (s ∷ ss) [] h = tt
bound-values (Constant c ∷ ss) (v ∷ vs) h = bound-values ss vs h.1
bound-values (Variable x ∷ ss) (v ∷ vs) h = (h.0, bound-values ss vs h.1)

-- a binding of a variable that does not stand there changes nothing
unbound : (x : List ℕ) (v : ValueContent) (b : Bindings) (ts : List TermContent) → ((t : TermContent) → In t ts → is_one_variable (Variable x) t ≡ false) → map (term_under ((x, v) ∷ b)) ts ≡ map (term_under b) ts
unbound x v b [] apart = refl
unbound x v b (Constant c ∷ ts) apart = ap (λ l. Constant c ∷ l) (unbound x v b ts (λ t m. apart t (inr m)))
unbound x v b (Variable y ∷ ts) apart =
    let first : bytes_eq x y ≡ false = apart (Variable y) (inl refl) in
    let other : bytes_eq y x ≡ false =
    by_bool (bytes_eq y x) (bytes_eq y x ≡ false)
    (λ t. absurd (let yes : bytes_eq x y ≡ true = (bytes_eq-Decides x y).1 (sym ((bytes_eq-Decides y x).0 t)) in let never : false ≡ true = sym first ∙ yes in cc))
    (λ f. f) in
    let rest = unbound x v b ts (λ t m. apart t (inr m)) in
    let here : term_under ((x, v) ∷ b) (Variable y) ≡ term_under b (Variable y) = rw other refl in
    ap (λ t. t ∷ map (term_under ((x, v) ∷ b)) ts) here ∙ ap (λ l. term_under b (Variable y) ∷ l) rest

bound-makes : (ss : List TermContent) (vs : List ValueContent) → Pairwise (λ s t. is_one_variable s t ≡ false) ss → Shows ss vs → map (term_under (bound_to ss vs)) ss ≡ map Constant vs
bound-makes [] [] apart shows = refl
bound-makes [] (v ∷ vs) apart shows = absurd shows
bound-makes (s ∷ ss) [] apart shows = absurd shows
bound-makes (Constant c ∷ ss) (v ∷ vs) apart shows = ap (λ l. Constant c ∷ l) (bound-makes ss vs apart.1 shows.1) ∙ ap (λ d. Constant d ∷ map Constant vs) shows.0
bound-makes (Variable x ∷ ss) (v ∷ vs) apart shows =
    let itself : bytes_eq x x ≡ true = (bytes_eq-Decides x x).1 refl in
    let here : term_under ((x, v) ∷ bound_to ss vs) (Variable x) ≡ Constant v = rw itself refl in
    ap (λ t. t ∷ map (term_under ((x, v) ∷ bound_to ss vs)) ss) here
    ∙ ap (λ l. Constant v ∷ l) (unbound x v (bound_to ss vs) ss apart.0 ∙ bound-makes ss vs apart.1 shows)

-- ---- terms at which no two constants differ

no-first : (b : Bool) (n : ℕ) → (if b then 1 else 0) + n ≡ 0 → (b ≡ false) × (n ≡ 0)
no-first true n e = absurd (let one : 1 + n ≡ 0 = e in omega arith)
no-first false n e = (refl, let none : 0 + n ≡ 0 = e in omega arith)

same-if : (c d : ValueContent) → differ (Constant c) (Constant d) ≡ false → c ≡ d
same-if c d e = by_bool (same_value c d) (c ≡ d) (λ t. same_value_true c d t) (λ f. absurd (let never : true ≡ false = rw f at e in cc))

row-shows : (ss ts : List TermContent) → length ss ≡ length ts → differences ss ts ≡ 0 → Shows ss (row_of ss ts) × Shows ts (row_of ss ts)
row-shows [] [] same none = (tt, tt)
row-shows [] (t ∷ ts) same none = absurd (let never : 0 ≡ suc (length ts) = same in omega arith)
row-shows (s ∷ ss) [] same none = absurd (let never : suc (length ss) ≡ 0 = same in omega arith)
row-shows (Constant c ∷ ss) (Constant d ∷ ts) same none =
    let parts = no-first (differ (Constant c) (Constant d)) (differences ss ts) none in
    let more = row-shows ss ts (let e : suc (length ss) ≡ suc (length ts) = same in omega arith) parts.1 in
    ((refl, more.0), (sym (same-if c d parts.0), more.1))
row-shows (Constant c ∷ ss) (Variable y ∷ ts) same none =
    let parts = no-first false (differences ss ts) none in
    let more = row-shows ss ts (let e : suc (length ss) ≡ suc (length ts) = same in omega arith) parts.1 in
    ((refl, more.0), more.1)
row-shows (Variable x ∷ ss) (Constant d ∷ ts) same none =
    let parts = no-first false (differences ss ts) none in
    let more = row-shows ss ts (let e : suc (length ss) ≡ suc (length ts) = same in omega arith) parts.1 in
    (more.0, (refl, more.1))
row-shows (Variable x ∷ ss) (Variable y ∷ ts) same none =
    let parts = no-first false (differences ss ts) none in
    let more = row-shows ss ts (let e : suc (length ss) ≡ suc (length ts) = same in omega arith) parts.1 in
    (more.0, more.1)

row-values : (ss ts : List TermContent) → ((s : TermContent) → In s ss → IsSoundTerm s) → ((t : TermContent) → In t ts → IsSoundTerm t) → AllByRecursion IsValue (row_of ss ts)
row-values [] ts a b = tt
row-values (s ∷ ss) [] a b = tt
row-values (Constant c ∷ ss) (t ∷ ts) a b = (a (Constant c) (inl refl), row-values ss ts (λ s m. a s (inr m)) (λ s m. b s (inr m)))
row-values (Variable x ∷ ss) (Constant d ∷ ts) a b = (b (Constant d) (inl refl), row-values ss ts (λ s m. a s (inr m)) (λ s m. b s (inr m)))
row-values (Variable x ∷ ss) (Variable y ∷ ts) a b = (record { sfits = lit< tt }, row-values ss ts (λ s m. a s (inr m)) (λ s m. b s (inr m)))

apart-pairwise : (ts : List TermContent) → IsLinear ts → Pairwise (λ s t. is_one_variable s t ≡ false) ts
apart-pairwise ts linear = pairwise-at (λ s t. is_one_variable s t ≡ false) ts linear.apart

-- Two linear atoms without two constants that differ unify.
pub linear-unify : (a b : AtomRecord) → IsLinear a.terms → IsLinear b.terms → a.relation ≡ b.relation → length a.terms ≡ length b.terms → differences a.terms b.terms ≡ 0 → Unify a b
linear-unify a b one other named same none =
    let values = row_of a.terms b.terms in
    let row : RowRecord = record { relation = a.relation; values = values } in
    let sound = row-values a.terms b.terms (In-All IsSoundTerm a.terms one.sound) (In-All IsSoundTerm b.terms other.sound) in
    let shows = row-shows a.terms b.terms same none in
    record {
      left = bound_to a.terms values;
      right = bound_to b.terms values;
      left_values = bound-values a.terms values sound;
      right_values = bound-values b.terms values sound;
      row = row;
      from_left = ap (λ ts. record { relation = a.relation; terms = ts }) (bound-makes a.terms values (apart-pairwise a.terms one) shows.0);
      from_right = ap (λ r. record { relation = r; terms = map (term_under (bound_to b.terms values)) b.terms }) (sym named)
          ∙ ap (λ ts. record { relation = a.relation; terms = ts }) (bound-makes b.terms values (apart-pairwise b.terms other) shows.1);
    }

-- A linear atom that misses a linear one differs from it in a constant.
pub linear-misses : (wanted head : AtomRecord) → IsLinear wanted.terms → IsLinear head.terms → misses wanted head ≡ true → 1 ≤ differences head.terms wanted.terms
linear-misses wanted head one other miss =
    let named = and-both (bytes_eq head.relation wanted.relation) ((length head.terms == length wanted.terms) && not (unifies head wanted)) miss in
    let many = and-both (length head.terms == length wanted.terms) (not (unifies head wanted)) named.1 in
    positive (differences head.terms wanted.terms)
    (λ none.
    let does : unifies head wanted ≡ true =
    (unifies_tells head wanted).1 (linear-unify head wanted other one ((bytes_eq-Decides head.relation wanted.relation).0 named.0) (eqb-true (length head.terms) (length wanted.terms) many.0) none) in
    let never : false ≡ true = sym (ap not does) ∙ many.1 in
    cc)
  where
    and-both : (b c : Bool) → (b && c) ≡ true → (b ≡ true) × (c ≡ true)
    and-both true c e = (refl, e)
    and-both false c e = cc

    positive : (n : ℕ) → (n ≡ 0 → ⊥) → 1 ≤ n
    positive zero h = absurd (h refl)
    positive (suc n) h = omega arith
