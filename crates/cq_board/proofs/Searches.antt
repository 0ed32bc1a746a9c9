-- The search finds valuations exactly where there are any.
use Rattle.std.proofs.Common.{◌≡◌, ℕ, pos, negsuc, inl, inr, Bool, true, false, List, [], ◌∷◌, ◌++◌, map, refl, sym, ap, subst, ◌∙◌, if◌then◌else◌, Option, Some, None, bytes_eq, ◌^◌, lit<}
use Rattle.std.specs.List.{list_any, filter_map, AllByRecursion}
use Rattle.std.proofs.lemmas.Bool.{ltb-true, lt-ltb}
use Rattle.std.proofs.lemmas.Bool.Decides.{Decides-int_eq}
use Rattle.std.proofs.lemmas.Slice.Eq.{bytes_eq-Decides}
use Rattle.cq_atom.specs.declared.value.Content.TheVariants.{Number, Text}
use Rattle.cq_atom.specs.declared.term.TermKind.TheVariants.{Constant, Variable}
use Rattle.cq_atom.specs.Value.{ValueContent, IsValue}
use Rattle.cq_atom.specs.Atom.{TermContent, AtomRecord, RowRecord, atom_of_row, constant_of, variable_of}
use Rattle.cq_atom.specs.Query.{occurrences}
use Rattle.cq_atom.specs.Valuation.{Bindings, AreValues, value_at, constant_or, term_under, under}
use Rattle.cq_atom.specs.Unify.{Unify}
use Rattle.cq_index.specs.Index.{same_value}
use Rattle.cq_board.specs.Steps.Supply.{is_value, same_constants, same_row, values_of, valuations, unifies}
use Rattle.cq_board.proofs.Members.{by_bool, In, In-left, In-right, any_gives, any_has, In-filter_gives, In-filter, In-map, In-map_gives, In-flat_map, In-flat_map_gives}

-- ---- values

pub same_value_true : (c d : ValueContent) → same_value c d ≡ true → c ≡ d
same_value_true (Number m) (Number n) h = ap Number ((Decides-int_eq m n).0 h)
same_value_true (Number m) (Text t) h = cc
same_value_true (Text s) (Number n) h = cc
same_value_true (Text s) (Text t) h = ap Text ((bytes_eq-Decides s t).0 h)

same_value_refl : (c : ValueContent) → same_value c c ≡ true
same_value_refl (Number m) = (Decides-int_eq m m).1 refl
same_value_refl (Text s) = (bytes_eq-Decides s s).1 refl

pub is_value_true : (c : ValueContent) → is_value c ≡ true → IsValue c
is_value_true (Number (pos n)) t = record { sfits = ltb-true n (2 ^ 63) t }
is_value_true (Number (negsuc n)) t = record { sfits = ltb-true n (2 ^ 63) t }
is_value_true (Text s) t = t

pub is_value_has : (c : ValueContent) → IsValue c → is_value c ≡ true
is_value_has (Number (pos n)) h = lt-ltb n (2 ^ 63) h.sfits
is_value_has (Number (negsuc n)) h = lt-ltb n (2 ^ 63) h.sfits
is_value_has (Text s) h = h

-- ---- rows

same_constants_true : (ss ts : List TermContent) → same_constants ss ts ≡ true → (vs : List ValueContent) × (ss ≡ map Constant vs) × (ts ≡ map Constant vs)
same_constants_true [] [] h = ([], refl, refl)
same_constants_true [] (t ∷ ts) h = cc
same_constants_true (Constant c ∷ ss) [] h = cc
same_constants_true (Variable x ∷ ss) [] h = cc
same_constants_true (Constant c ∷ ss) (Constant d ∷ ts) h =
    by_bool (same_value c d) ((vs : List ValueContent) × (Constant c ∷ ss ≡ map Constant vs) × (Constant d ∷ ts ≡ map Constant vs))
    (λ k. let more = same_constants_true ss ts (rw k at h) in
    (c ∷ more.0, ap (λ l. Constant c ∷ l) more.1, ap (λ v. Constant v ∷ ts) (sym (same_value_true c d k)) ∙ ap (λ l. Constant c ∷ l) more.2))
    (λ k. let no : false ≡ true = rw k at h in cc)
same_constants_true (Constant c ∷ ss) (Variable y ∷ ts) h = cc
same_constants_true (Variable x ∷ ss) (t ∷ ts) h = cc

same_constants_refl : (vs : List ValueContent) → same_constants (map Constant vs) (map Constant vs) ≡ true
same_constants_refl [] = refl
same_constants_refl (v ∷ vs) = rw (same_value_refl v) (same_constants_refl vs)

same_row_true : (a b : AtomRecord) → same_row a b ≡ true → (row : RowRecord) × (a ≡ atom_of_row row) × (b ≡ atom_of_row row)
same_row_true a b h =
    by_bool (bytes_eq a.relation b.relation) ((row : RowRecord) × (a ≡ atom_of_row row) × (b ≡ atom_of_row row))
    (λ k. let more = same_constants_true a.terms b.terms (rw k at h) in
    let named : a.relation ≡ b.relation = (bytes_eq-Decides a.relation b.relation).0 k in (
      record { relation = a.relation; values = more.0 },
      ap (λ ts. record { relation = a.relation; terms = ts }) more.1,
      ap (λ r. record { relation = r; terms = b.terms }) (sym named) ∙ ap (λ ts. record { relation = a.relation; terms = ts }) more.2,
    ))
    (λ k. let no : false ≡ true = rw k at h in cc)

same_row_refl : (row : RowRecord) → same_row (atom_of_row row) (atom_of_row row) ≡ true
same_row_refl row = let named : bytes_eq row.relation row.relation ≡ true = (bytes_eq-Decides row.relation row.relation).1 refl in rw named (same_constants_refl row.values)

-- ---- valuations

-- the valuation binds to these values alone
abbrev Binds : List ValueContent → Bindings → Type 0
Binds values v = AllByRecursion (λ b. In b.1 values) v

valuations_bind : (values : List ValueContent) (xs : List (List ℕ)) (v : Bindings) → In v (valuations values xs) → Binds values v
valuations_bind values [] v (inl e) = subst (Binds values) (sym e) tt
valuations_bind values [] v (inr h) = absurd h
valuations_bind values (x ∷ xs) v h =
    let among = In-flat_map_gives (λ rest. map (λ value. (x, value) ∷ rest) values) (valuations values xs) v h in
    let made = In-map_gives (λ value. (x, value) ∷ among.0) values v among.2 in
    subst (Binds values) (sym made.2) (made.1, valuations_bind values xs among.0 among.1)

abbrev pub given_by : (List ℕ → ValueContent) → List (List ℕ) → Bindings
given_by g xs = map (λ x. (x, g x)) xs

valuations_have : (values : List ValueContent) (g : List ℕ → ValueContent) → ((x : List ℕ) → In (g x) values) → (xs : List (List ℕ)) → In (given_by g xs) (valuations values xs)
valuations_have values g h [] = inl refl
valuations_have values g h (x ∷ xs) =
    In-flat_map (λ rest. map (λ value. (x, value) ∷ rest) values) (valuations values xs) (given_by g xs) (given_by g (x ∷ xs))
    (valuations_have values g h xs) (In-map (λ value. (x, value) ∷ given_by g xs) values (g x) (h x))

pub value_at-given_by : (g : List ℕ → ValueContent) (xs : List (List ℕ)) (x : List ℕ) → In x xs → value_at (given_by g xs) x ≡ Some (g x)
value_at-given_by g [] x h = absurd h
value_at-given_by g (y ∷ xs) x (inl e) = rw ((bytes_eq-Decides x y).1 e) (ap (λ z. Some (g z)) (sym e))
value_at-given_by g (y ∷ xs) x (inr h) =
    by_bool (bytes_eq x y) (value_at (given_by g (y ∷ xs)) x ≡ Some (g x))
    (λ k. rw k (ap (λ z. Some (g z)) (sym ((bytes_eq-Decides x y).0 k))))
    (λ k. rw k (value_at-given_by g xs x h))

AreValues-from : (values : List ValueContent) → ((c : ValueContent) → In c values → IsValue c) → (v : Bindings) → Binds values v → AreValues v
AreValues-from values ok [] h = tt
AreValues-from values ok (b ∷ v) h = (ok b.1 h.0, AreValues-from values ok v h.1)

module _ (a b : AtomRecord) where
  abbrev constants : List ValueContent
  constants = filter_map constant_of a.terms ++ filter_map constant_of b.terms

  abbrev zero_value : ValueContent
  zero_value = Number (pos 0)

  values_are : (c : ValueContent) → In c (values_of a b) → IsValue c
  values_are c (inl e) = subst IsValue (sym e) (record { sfits = lit< tt })
  values_are c (inr h) = is_value_true c (In-filter_gives is_value constants c h)

  sound : unifies a b ≡ true → Unify a b
  unfolding unifies
  sound h =
      let v = any_gives (λ v. list_any (λ w. same_row (under v a) (under w b)) (valuations (values_of a b) (occurrences b))) (valuations (values_of a b) (occurrences a)) h in
      let w = any_gives (λ w. same_row (under v.0 a) (under w b)) (valuations (values_of a b) (occurrences b)) v.2 in
      let rows = same_row_true (under v.0 a) (under w.0 b) w.2 in
      record {
        left = v.0;
        right = w.0;
        left_values = AreValues-from (values_of a b) values_are v.0 (valuations_bind (values_of a b) (occurrences a) v.0 v.1);
        right_values = AreValues-from (values_of a b) values_are w.0 (valuations_bind (values_of a b) (occurrences b) w.0 w.1);
        row = rows.0;
        from_left = rows.1;
        from_right = rows.2;
      }

  -- a value that is among the constants stays, and any other one becomes 0
  abbrev kept : ValueContent → ValueContent
  kept c = if list_any (same_value c) constants then c else zero_value

  kept_constant : (c : ValueContent) → In c constants → kept c ≡ c
  kept_constant c h = rw (any_has (same_value c) constants c h (same_value_refl c)) refl

  kept_among : (c : ValueContent) → IsValue c → In (kept c) (values_of a b)
  kept_among c h =
      by_bool (list_any (same_value c) constants) (In (kept c) (values_of a b))
      (λ k. let found = any_gives (same_value c) constants k in
      let same : c ≡ found.0 = same_value_true c found.0 found.2 in
      let stays : kept c ≡ c = rw k refl in
      subst (λ d. In d (values_of a b)) (sym stays) (inr (In-filter is_value constants c (subst (λ d. In d constants) (sym same) found.1) (is_value_has c h))))
      (λ k. let falls : kept c ≡ zero_value = rw k refl in inl falls)

  abbrev or_zero : Option ValueContent → ValueContent
  or_zero None = zero_value
  or_zero (Some c) = c

  -- what a valuation makes of a variable, among few values
  abbrev few : Bindings → List ℕ → ValueContent
  few v x = kept (or_zero (value_at v x))

  or_zero_is : (v : Bindings) → AreValues v → (x : List ℕ) → IsValue (or_zero (value_at v x))
  or_zero_is [] h x = record { sfits = lit< tt }
  or_zero_is (e ∷ v) h x =
      by_bool (bytes_eq x e.0) (IsValue (or_zero (value_at (e ∷ v) x)))
      (λ k. rw k h.0)
      (λ k. rw k (or_zero_is v h.1 x))

  few_among : (v : Bindings) → AreValues v → (x : List ℕ) → In (few v x) (values_of a b)
  few_among v h x = kept_among (or_zero (value_at v x)) (or_zero_is v h x)

  -- terms that a valuation makes constants, it makes constants with few values too
  terms_kept : (v u : Bindings) (ts : List TermContent) (vs : List ValueContent)
      → ((c : ValueContent) → In c (filter_map constant_of ts) → In c constants)
      → ((x : List ℕ) → In x (filter_map variable_of ts) → value_at u x ≡ Some (few v x))
      → map (term_under v) ts ≡ map Constant vs → map (term_under u) ts ≡ map Constant (map kept vs)
  terms_kept v u [] [] known given e = refl
  terms_kept v u [] (d ∷ vs) known given e = cc
  terms_kept v u (Constant c ∷ ts) [] known given e = cc
  terms_kept v u (Variable x ∷ ts) [] known given e = cc
  terms_kept v u (Constant c ∷ ts) (d ∷ vs) known given e =
      let same : c ≡ d = cc in
      let more : map (term_under v) ts ≡ map Constant vs = cc in
      let rest = terms_kept v u ts vs (λ k m. known k (inr m)) given more in
      let stays : kept d ≡ c = ap kept (sym same) ∙ kept_constant c (known c (inl refl)) in
      ap (λ l. Constant c ∷ l) rest ∙ ap (λ k. Constant k ∷ map Constant (map kept vs)) (sym stays)
  terms_kept v u (Variable x ∷ ts) (d ∷ vs) known given e =
      let first : constant_or (value_at v x) x ≡ Constant d = cc in
      let more : map (term_under v) ts ≡ map Constant vs = cc in
      let rest = terms_kept v u ts vs known (λ y m. given y (inr m)) more in
      let is : or_zero (value_at v x) ≡ d = constant_or_gives (value_at v x) x d first in
      ap (λ o. constant_or o x ∷ map (term_under u) ts) (given x (inl refl)) ∙ ap (λ k. Constant (kept k) ∷ map (term_under u) ts) is ∙ ap (λ l. Constant (kept d) ∷ l) rest
    where
      constant_or_gives : (o : Option ValueContent) (x : List ℕ) (d : ValueContent) → constant_or o x ≡ Constant d → or_zero o ≡ d
      constant_or_gives None x d e = cc
      constant_or_gives (Some c) x d e = cc

  complete : Unify a b → unifies a b ≡ true
  unfolding unifies
  complete u =
      let v = given_by (few u.left) (occurrences a) in
      let w = given_by (few u.right) (occurrences b) in
      let row : RowRecord = record { relation = u.row.relation; values = map kept u.row.values } in
      let left : under v a ≡ atom_of_row row =
      ap (λ r. record { relation = r; terms = map (term_under v) a.terms }) (ap (λ c. c.relation) u.from_left)
      ∙ ap (λ ts. record { relation = u.row.relation; terms = ts })
      (terms_kept u.left v a.terms u.row.values (λ c m. In-left c (filter_map constant_of a.terms) (filter_map constant_of b.terms) m)
      (value_at-given_by (few u.left) (occurrences a)) (ap (λ c. c.terms) u.from_left)) in
      let right : under w b ≡ atom_of_row row =
      ap (λ r. record { relation = r; terms = map (term_under w) b.terms }) (ap (λ c. c.relation) u.from_right)
      ∙ ap (λ ts. record { relation = u.row.relation; terms = ts })
      (terms_kept u.right w b.terms u.row.values (λ c m. In-right c (filter_map constant_of a.terms) (filter_map constant_of b.terms) m)
      (value_at-given_by (few u.right) (occurrences b)) (ap (λ c. c.terms) u.from_right)) in
      any_has (λ v. list_any (λ w. same_row (under v a) (under w b)) (valuations (values_of a b) (occurrences b))) (valuations (values_of a b) (occurrences a)) v
      (valuations_have (values_of a b) (few u.left) (few_among u.left u.left_values) (occurrences a))
      (any_has (λ w. same_row (under v a) (under w b)) (valuations (values_of a b) (occurrences b)) w
      (valuations_have (values_of a b) (few u.right) (few_among u.right u.right_values) (occurrences b))
      (ap (λ r. same_row r (under w b)) left ∙ ap (same_row (atom_of_row row)) right ∙ same_row_refl row))

-- The search answers true exactly where the two atoms unify.
pub unifies_tells : (a b : AtomRecord) → (unifies a b ≡ true → Unify a b) × (Unify a b → unifies a b ≡ true)
unifies_tells a b = (sound a b, complete a b)

-- what tells the same is the same
pub tells_same : (a b : AtomRecord) (r : Bool) → (r ≡ true → Unify a b) × (Unify a b → r ≡ true) → r ≡ unifies a b
tells_same a b true t = sym (complete a b (t.0 refl))
tells_same a b false t =
    by_bool (unifies a b) (false ≡ unifies a b)
    (λ k. let no : false ≡ true = t.1 (sound a b k) in cc)
    (λ k. sym k)
