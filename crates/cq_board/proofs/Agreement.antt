-- Two atoms that are one under two valuations unify: what a valuation leaves open, or fills with no value, is 0.
use Rattle.std.proofs.Common.{◌≡◌, ℕ, pos, List, [], ◌∷◌, map, refl, sym, ap, subst, ◌∙◌, if◌then◌else◌, Option, Some, None, lit<, inl, inr}
use Rattle.std.specs.List.{filter_map}
use Rattle.cq_atom.specs.declared.value.Content.TheVariants.{Number}
use Rattle.cq_atom.specs.declared.term.TermKind.TheVariants.{Constant, Variable}
use Rattle.cq_atom.specs.Value.{ValueContent, IsValue}
use Rattle.cq_atom.specs.Atom.{TermContent, AtomRecord, variable_of}
use Rattle.cq_atom.specs.Query.{occurrences}
use Rattle.cq_atom.specs.Valuation.{Bindings, AreValues, value_at, constant_or, term_under, under}
use Rattle.cq_atom.specs.Unify.{Unify}
use Rattle.cq_board.specs.Steps.Supply.{is_value}
use Rattle.cq_board.specs.Steps.Choices.{IsValid, AreValid}
use Rattle.cq_board.proofs.Members.{by_bool, In}
use Rattle.cq_board.proofs.Searches.{is_value_true, is_value_has, given_by, value_at-given_by}

abbrev zero_value : ValueContent
zero_value = Number (pos 0)

-- a value stays, and anything else becomes 0
abbrev fixed : ValueContent → ValueContent
fixed c = if is_value c then c else zero_value

fixed_is : (c : ValueContent) → IsValue (fixed c)
fixed_is c =
    by_bool (is_value c) (IsValue (fixed c))
    (λ k. let stays : fixed c ≡ c = rw k refl in subst IsValue (sym stays) (is_value_true c k))
    (λ k. let falls : fixed c ≡ zero_value = rw k refl in subst IsValue (sym falls) (record { sfits = lit< tt }))

fixed_value : (c : ValueContent) → IsValue c → fixed c ≡ c
fixed_value c h = rw (is_value_has c h) refl

abbrev or_zero : Option ValueContent → ValueContent
or_zero None = zero_value
or_zero (Some c) = c

abbrev given : Bindings → List ℕ → ValueContent
given v x = fixed (or_zero (value_at v x))

abbrev term_value : Bindings → TermContent → ValueContent
term_value v (Constant c) = c
term_value v (Variable x) = given v x

AreValues-given : (v : Bindings) (xs : List (List ℕ)) → AreValues (given_by (given v) xs)
AreValues-given v [] = tt
AreValues-given v (x ∷ xs) = (fixed_is (or_zero (value_at v x)), AreValues-given v xs)

under_given : (v : Bindings) (xs : List (List ℕ)) (ts : List TermContent) → ((x : List ℕ) → In x (filter_map variable_of ts) → In x xs)
    → map (term_under (given_by (given v) xs)) ts ≡ map Constant (map (term_value v) ts)
under_given v xs [] h = refl
under_given v xs (Constant c ∷ ts) h = ap (λ l. Constant c ∷ l) (under_given v xs ts h)
under_given v xs (Variable x ∷ ts) h =
    ap (λ o. constant_or o x ∷ map (term_under (given_by (given v) xs)) ts) (value_at-given_by (given v) xs x (h x (inl refl)))
    ∙ ap (λ l. Constant (given v x) ∷ l) (under_given v xs ts (λ y m. h y (inr m)))

constant_given : (o : Option ValueContent) (y : List ℕ) (c : ValueContent) → IsValue c → Constant c ≡ constant_or o y → c ≡ fixed (or_zero o)
constant_given None y c valid e = cc
constant_given (Some d) y c valid e = let same : c ≡ d = cc in sym (fixed_value c valid) ∙ ap fixed same

both_given : (o p : Option ValueContent) (x y : List ℕ) → constant_or o x ≡ constant_or p y → fixed (or_zero o) ≡ fixed (or_zero p)
both_given None None x y e = refl
both_given None (Some d) x y e = cc
both_given (Some c) None x y e = cc
both_given (Some c) (Some d) x y e = let same : c ≡ d = cc in ap fixed same

term_values : (v w : Bindings) (s t : TermContent) → IsValid s → IsValid t → term_under v s ≡ term_under w t → term_value v s ≡ term_value w t
term_values v w (Constant c) (Constant d) vs vt e = cc
term_values v w (Constant c) (Variable y) vs vt e = constant_given (value_at w y) y c vs e
term_values v w (Variable x) (Constant d) vs vt e = sym (constant_given (value_at v x) x d vt (sym e))
term_values v w (Variable x) (Variable y) vs vt e = both_given (value_at v x) (value_at w y) x y e

values_same : (v w : Bindings) (ss ts : List TermContent) → AreValid ss → AreValid ts → map (term_under v) ss ≡ map (term_under w) ts → map (term_value v) ss ≡ map (term_value w) ts
values_same v w [] [] vs vt e = refl
values_same v w [] (t ∷ ts) vs vt e = cc
values_same v w (s ∷ ss) [] vs vt e = cc
values_same v w (s ∷ ss) (t ∷ ts) vs vt e =
    let first : term_under v s ≡ term_under w t = cc in
    let more : map (term_under v) ss ≡ map (term_under w) ts = cc in
    ap (λ c. c ∷ map (term_value v) ss) (term_values v w s t vs.0 vt.0 first) ∙ ap (λ cs. term_value w t ∷ cs) (values_same v w ss ts vs.1 vt.1 more)

-- the constants of both atoms are to be values
pub agreeing_unify : (v w : Bindings) (a b : AtomRecord) → under v a ≡ under w b → AreValid a.terms → AreValid b.terms → Unify a b
agreeing_unify v w a b e valid_a valid_b =
    let named : b.relation ≡ a.relation = ap (λ c. c.relation) (sym e) in
    let values : map (term_value w) b.terms ≡ map (term_value v) a.terms = sym (values_same v w a.terms b.terms valid_a valid_b (ap (λ c. c.terms) e)) in
    record {
      left = given_by (given v) (occurrences a);
      right = given_by (given w) (occurrences b);
      left_values = AreValues-given v (occurrences a);
      right_values = AreValues-given w (occurrences b);
      row = record { relation = a.relation; values = map (term_value v) a.terms };
      from_left = ap (λ ts. record { relation = a.relation; terms = ts }) (under_given v (occurrences a) a.terms (λ x m. m));
      from_right =
          ap (λ ts. record { relation = b.relation; terms = ts }) (under_given w (occurrences b) b.terms (λ x m. m))
          ∙ ap (λ r. record { relation = r; terms = map Constant (map (term_value w) b.terms) }) named
          ∙ ap (λ cs. record { relation = a.relation; terms = map Constant cs }) values;
    }

pub under_same : (v w : Bindings) (a b : AtomRecord) → a.relation ≡ b.relation → map (term_under v) a.terms ≡ map (term_under w) b.terms → under v a ≡ under w b
under_same v w a b named terms =
    ap (λ r. record { relation = r; terms = map (term_under v) a.terms }) named ∙ ap (λ ts. record { relation = b.relation; terms = ts }) terms
