-- Two finite valuations make one row of two atoms exactly where values for all variables make their terms equal.
use Rattle.std.proofs.Common.{◌≡◌, ℕ, Bool, true, false, List, [], ◌∷◌, map, refl, sym, ap, ◌∙◌, Option, Some, None, unwrap_or, bytes_eq}
use Rattle.std.specs.List.{filter_map, AllByRecursion}
use Rattle.std.proofs.lemmas.Slice.Eq.{bytes_eq-Decides}
use Rattle.std.proofs.Common.{rules}
use Rattle.cq_atom.specs.declared.term.TermKind.TheVariants.{Constant, Variable}
use Rattle.cq_atom.specs.Value.{ValueContent, IsValue}
use Rattle.cq_atom.specs.Atom.{TermContent, AtomRecord, RowRecord, atom_of_row, variable_of}
use Rattle.cq_atom.specs.Valuation.{Bindings, AreValues, value_at, constant_or, term_under, under}
use Rattle.cq_atom.specs.Unify.{Unify}
use Rattle.cq_atom.specs.Steps.Labels.{zero_value}
use Rattle.cq_atom.specs.Steps.Meets.{Values, value_of, CanMeet}

by_bool : (b : Bool) (P : Type 0) → (b ≡ true → P) → (b ≡ false → P) → P
by_bool true P f g = f refl
by_bool false P f g = g refl

-- ---- from a finite valuation to values for all variables

abbrev all_of : Bindings → Values
all_of v x = unwrap_or (value_at v x) zero_value

zero_is_value : IsValue zero_value
zero_is_value = search rules

all_valid : (v : Bindings) → AreValues v → (x : List ℕ) → IsValue (all_of v x)
all_valid [] h x = zero_is_value
all_valid (b ∷ v) h x =
    by_bool (bytes_eq x b.0) (IsValue (all_of (b ∷ v) x))
    (λ t. rw t h.0)
    (λ t. rw t (all_valid v h.1 x))

term_all : (v : Bindings) (t : TermContent) (c : ValueContent) → term_under v t ≡ Constant c → value_of (all_of v) t ≡ c
term_all v (Constant d) c e = cc
term_all v (Variable x) c e = by_option (value_at v x) refl e
  where
    by_option : (o : Option ValueContent) → value_at v x ≡ o → constant_or (value_at v x) x ≡ Constant c → unwrap_or (value_at v x) zero_value ≡ c
    by_option None n e' = let f : Variable x ≡ Constant c = ap (λ o. constant_or o x) (sym n) ∙ e' in absurd cc
    by_option (Some d) n e' = let f : Constant d ≡ Constant c = ap (λ o. constant_or o x) (sym n) ∙ e' in let g : d ≡ c = cc in ap (λ o. unwrap_or o zero_value) n ∙ g

terms_all : (v : Bindings) (ts : List TermContent) (cs : List ValueContent) → map (term_under v) ts ≡ map Constant cs → map (value_of (all_of v)) ts ≡ cs
terms_all v [] [] e = refl
terms_all v [] (c ∷ cs) e = cc
terms_all v (t ∷ ts) [] e = cc
terms_all v (t ∷ ts) (c ∷ cs) e =
    let first : term_under v t ≡ Constant c = cc in
    let rest : map (term_under v) ts ≡ map Constant cs = cc in
    rw (term_all v t c first, terms_all v ts cs rest) refl

terms_of : (a : AtomRecord) (r : RowRecord) (v : Bindings) → under v a ≡ atom_of_row r → map (term_under v) a.terms ≡ map Constant r.values
terms_of a r v e = ap (λ (x : AtomRecord). x.terms) e

relation_of : (a : AtomRecord) (r : RowRecord) (v : Bindings) → under v a ≡ atom_of_row r → a.relation ≡ r.relation
relation_of a r v e = ap (λ (x : AtomRecord). x.relation) e

pub unify-meets : (a b : AtomRecord) → Unify a b → CanMeet a.terms b.terms
unify-meets a b u = record {
  left = all_of u.left;
  right = all_of u.right;
  left_valid = all_valid u.left u.left_values;
  right_valid = all_valid u.right u.right_values;
  same = terms_all u.left a.terms u.row.values (terms_of a u.row u.left u.from_left) ∙ sym (terms_all u.right b.terms u.row.values (terms_of b u.row u.right u.from_right));
}

pub unify-relation : (a b : AtomRecord) → Unify a b → a.relation ≡ b.relation
unify-relation a b u = relation_of a u.row u.left u.from_left ∙ sym (relation_of b u.row u.right u.from_right)

-- ---- from values for all variables to a finite valuation

abbrev bind_all : Values → List (List ℕ) → Bindings
bind_all v xs = map (λ x. (x, v x)) xs

bound_values : (v : Values) → ((x : List ℕ) → IsValue (v x)) → (xs : List (List ℕ)) → AreValues (bind_all v xs)
bound_values v h [] = tt
bound_values v h (x ∷ xs) = (h x, bound_values v h xs)

-- a name that is bound has its value, whatever stands before it
bound_at : (v : Values) (xs : List (List ℕ)) (x : List ℕ) → value_at (bind_all v (x ∷ xs)) x ≡ Some (v x)
bound_at v xs x = rw ((bytes_eq-Decides x x).1 refl) refl

bound_behind : (v : Values) (y : List ℕ) (xs : List (List ℕ)) (x : List ℕ) → value_at (bind_all v xs) x ≡ Some (v x) → value_at (bind_all v (y ∷ xs)) x ≡ Some (v x)
bound_behind v y xs x e =
    by_bool (bytes_eq x y) (value_at (bind_all v (y ∷ xs)) x ≡ Some (v x))
    (λ t. rw t (ap (λ z. Some (v z)) (sym ((bytes_eq-Decides x y).0 t))))
    (λ t. rw t e)

abbrev Binds : Values → Bindings → TermContent → Type 0
Binds v b t = term_under b t ≡ Constant (value_of v t)

term_behind : (v : Values) (y : List ℕ) (xs : List (List ℕ)) (t : TermContent) → Binds v (bind_all v xs) t → Binds v (bind_all v (y ∷ xs)) t
term_behind v y xs (Constant c) e = refl
term_behind v y xs (Variable x) e = by_option (value_at (bind_all v xs) x) refl e
  where
    by_option : (o : Option ValueContent) → value_at (bind_all v xs) x ≡ o → constant_or (value_at (bind_all v xs) x) x ≡ Constant (v x) → constant_or (value_at (bind_all v (y ∷ xs)) x) x ≡ Constant (v x)
    by_option None n e' = let f : Variable x ≡ Constant (v x) = ap (λ o. constant_or o x) (sym n) ∙ e' in absurd cc
    by_option (Some d) n e' =
        let f : Constant d ≡ Constant (v x) = ap (λ o. constant_or o x) (sym n) ∙ e' in
        let g : d ≡ v x = cc in
        ap (λ o. constant_or o x) (bound_behind v y xs x (n ∙ ap Some g))

AllBind : Values → Bindings → List TermContent → Type 0
AllBind v b ts = AllByRecursion (Binds v b) ts

all_behind : (v : Values) (y : List ℕ) (xs : List (List ℕ)) (ts : List TermContent) → AllBind v (bind_all v xs) ts → AllBind v (bind_all v (y ∷ xs)) ts
unfolding AllBind
all_behind v y xs [] h = tt
all_behind v y xs (t ∷ ts) h = (term_behind v y xs t h.0, all_behind v y xs ts h.1)

-- the names of terms, each as often as it occurs, are all bound by binding them
all_bound : (v : Values) (ts : List TermContent) → AllBind v (bind_all v (filter_map variable_of ts)) ts
unfolding AllBind
all_bound v [] = tt
all_bound v (Constant c ∷ ts) = (refl, all_bound v ts)
all_bound v (Variable x ∷ ts) =
    (ap (λ o. constant_or o x) (bound_at v (filter_map variable_of ts) x), all_behind v x (filter_map variable_of ts) ts (all_bound v ts))

under_bound : (v : Values) (b : Bindings) (ts : List TermContent) → AllBind v b ts → map (term_under b) ts ≡ map Constant (map (value_of v) ts)
unfolding AllBind
under_bound v b [] h = refl
under_bound v b (t ∷ ts) h = rw (h.0, under_bound v b ts h.1) refl

-- what values for all variables make of an atom
made : (v : Values) (a : AtomRecord) → under (bind_all v (filter_map variable_of a.terms)) a ≡ atom_of_row (record { relation = a.relation; values = map (value_of v) a.terms })
made v a = ap (λ (ts : List TermContent). let r : AtomRecord = record { relation = a.relation; terms = ts } in r) (under_bound v (bind_all v (filter_map variable_of a.terms)) a.terms (all_bound v a.terms))

pub meets-unify : (a b : AtomRecord) → a.relation ≡ b.relation → CanMeet a.terms b.terms → Unify a b
meets-unify a b e m =
    let row : RowRecord = record { relation = a.relation; values = map (value_of m.left) a.terms } in
    let other : RowRecord = record { relation = b.relation; values = map (value_of m.right) b.terms } in
    let same : other ≡ row = rw (e, m.same) refl in
    record {
      left = bind_all m.left (filter_map variable_of a.terms);
      right = bind_all m.right (filter_map variable_of b.terms);
      left_values = bound_values m.left m.left_valid (filter_map variable_of a.terms);
      right_values = bound_values m.right m.right_valid (filter_map variable_of b.terms);
      row = row;
      from_left = made m.left a;
      from_right = made m.right b ∙ ap atom_of_row same;
    }

-- what a test of the terms tells, where the relations are one
pub unify-tells : (a b : AtomRecord) (r : Bool) (xs ys : List TermContent) (s t : List ℕ) → s ≡ a.relation → t ≡ b.relation → bytes_eq s t ≡ true → xs ≡ a.terms → ys ≡ b.terms → (r ≡ true → CanMeet xs ys) × (CanMeet xs ys → r ≡ true) → (r ≡ true → Unify a b) × (Unify a b → r ≡ true)
unify-tells a b r xs ys s t sa tb e xa yb told =
    let relation : a.relation ≡ b.relation = sym sa ∙ (bytes_eq-Decides s t).0 e ∙ tb in
    (λ h. meets-unify a b relation (rw (xa, yb) at (told.0 h)), λ u. told.1 (rw (xa, yb) (unify-meets a b u)))
