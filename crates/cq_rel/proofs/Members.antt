-- Which rows there are, after a look-up, an insertion and a deletion.
use Rattle.std.proofs.Common.{◌≡◌, ℕ, zero, suc, ◌<◌, ◌⊎◌, inl, inr, Bool, true, false, not, ◌&&◌, List, [], ◌∷◌, ◌++◌, length, Some, refl, sym, ap, ◌∙◌, subst, arith, Ordering}
use Rattle.std.specs.Prelude.{◌↔◌, IsTrue}
use Rattle.std.specs.declared.cmp.Ordering.TheVariants.{Less, Equal, Greater}
use Rattle.std.specs.Ordering.{is_lt, is_eq, nat_cmp, ordering_reverse}
use Rattle.std.specs.Cmp.{IsTotalOrder}
use Rattle.std.specs.Str.{bytes_eq}
use Rattle.std.specs.List.{Contains, filter, list_any, AllByRecursion}
use Rattle.std.proofs.lemmas.Cmp.{nat_cmp_total, on_total, then_total, tied_itself}
use Rattle.cq_atom.specs.Atom.{RowRecord}
use Rattle.cq_rel.specs.Tables.{Declaration, IsUnder, arity_in, place_in, row_order, values_order, same_row}
use Rattle.cq_rel.proofs.Order.{values_total, values-tied, then-tied, nats-tied}
use Rattle.cq_rel.proofs.Places.{by_bool, same_bytes, itself, place-here, place-later}

abbrev pub In : {X : Type 0} → List X → X → Type 0
In [] x = ⊥
In (y ∷ ys) x = (y ≡ x) ⊎ In ys x

pub in-from_contains : {X : Type 0} (xs : List X) (x : X) → Contains xs x → In xs x
in-from_contains [] x (k, h, e) = absurd (let low : k < 0 = h in omega arith)
in-from_contains (y ∷ ys) x (zero, h, e) = inl e
in-from_contains (y ∷ ys) x (suc k, h, e) = inr (in-from_contains ys x (k, (let low : suc k < suc (length ys) = h in omega arith), e))

pub contains-from_in : {X : Type 0} (xs : List X) (x : X) → In xs x → Contains xs x
contains-from_in [] x h = absurd h
contains-from_in (y ∷ ys) x h = elim h [
  | inl e ↦ (0, (let low : 0 < suc (length ys) = omega arith in low), e)
  | inr i ↦ (let c = contains-from_in ys x i in (suc c.0, (let low : c.0 < length ys = c.1 in omega arith), c.2))
]

pub in-left : {X : Type 0} (xs ys : List X) (x : X) → In xs x → In (xs ++ ys) x
in-left [] ys x h = absurd h
in-left (z ∷ xs) ys x h = elim h [ inl e ↦ inl e | inr i ↦ inr (in-left xs ys x i) ]

pub in-right : {X : Type 0} (xs ys : List X) (x : X) → In ys x → In (xs ++ ys) x
in-right [] ys x h = h
in-right (z ∷ xs) ys x h = inr (in-right xs ys x h)

pub in-either : {X : Type 0} (xs ys : List X) (x : X) → In (xs ++ ys) x → In xs x ⊎ In ys x
in-either [] ys x h = inr h
in-either (z ∷ xs) ys x h = elim h [
  | inl e ↦ inl (inl e)
  | inr i ↦ elim (in-either xs ys x i) [ inl a ↦ inl (inr a) | inr b ↦ inr b ]
]

pub in-filter : {X : Type 0} (p : X → Bool) (xs : List X) (x : X) → In (filter p xs) x → In xs x × (p x ≡ true)
in-filter p [] x h = absurd h
in-filter {X} p (y ∷ ys) x h =
    by_bool (p y) (In (y ∷ ys) x × (p x ≡ true))
    (λ t. elim (rw t at h) [
      | inl e ↦ (inl e, ap p (sym e) ∙ t)
      | inr i ↦ (let rest = in-filter p ys x i in (inr rest.0, rest.1))
    ])
    (λ f. let rest = in-filter p ys x (rw f at h) in (inr rest.0, rest.1))

pub in-passed : {X : Type 0} (p : X → Bool) (xs : List X) (x : X) → In xs x → p x ≡ true → In (filter p xs) x
in-passed p [] x h t = absurd h
in-passed p (y ∷ ys) x h t = elim h [
  | inl e ↦ (let here : p y ≡ true = ap p e ∙ t in rw here (inl e))
  | inr i ↦ by_bool (p y) (In (filter p (y ∷ ys)) x) (λ a. rw a (inr (in-passed p ys x i t))) (λ b. rw b (in-passed p ys x i t))
]

pub all-in : {X : Type 0} (P : X → Type 0) (xs : List X) (x : X) → AllByRecursion P xs → In xs x → P x
all-in P [] x a h = absurd h
all-in P (y ∷ ys) x a h = elim h [ inl e ↦ subst P e a.0 | inr i ↦ all-in P ys x a.1 i ]

row-eq : (r s : RowRecord) → r.relation ≡ s.relation → r.values ≡ s.values → r ≡ s
row-eq r s e f = λ i. record { relation = e i; values = f i }

both-true : (a b : Bool) → (a && b) ≡ true → (a ≡ true) × (b ≡ true)
both-true true b e = (refl, e)
both-true false b e = absurd cc

equal : (o : Ordering) → is_eq o ≡ true → o ≡ Equal
equal Less e = absurd cc
equal Equal e = refl
equal Greater e = absurd cc

pub same-rows : (r s : RowRecord) → same_row r s ≡ true → r ≡ s
same-rows r s e =
    let both = both-true (bytes_eq r.relation s.relation) (is_eq (values_order r.values s.values)) e in
    row-eq r s (same_bytes r.relation s.relation both.0) (values-tied r.values s.values (equal (values_order r.values s.values) both.1))

pub row-itself : (r : RowRecord) → same_row r r ≡ true
row-itself r = rw (itself r.relation, tied_itself values_total r.values) refl

any-in : (row : RowRecord) (rows : List RowRecord) → list_any (same_row row) rows ≡ true → In rows row
any-in row [] e = absurd cc
any-in row (r ∷ rows) e =
    by_bool (same_row row r) (In (r ∷ rows) row) (λ t. inl (sym (same-rows row r t))) (λ f. inr (any-in row rows (rw f at e)))

in-any : (row : RowRecord) (rows : List RowRecord) → In rows row → list_any (same_row row) rows ≡ true
in-any row [] h = absurd h
in-any row (r ∷ rows) h =
    by_bool (same_row row r) (list_any (same_row row) (r ∷ rows) ≡ true) (λ t. rw t refl)
    (λ f. rw f (elim h [
      | inl e ↦ absurd (let never : true ≡ false = sym (row-itself row) ∙ ap (same_row row) (sym e) ∙ f in cc)
      | inr i ↦ in-any row rows i
    ]))

-- a row is found where it is
pub is-member : (b : Bool) (rows : List RowRecord) (row : RowRecord) → b ≡ list_any (same_row row) rows → IsTrue b ↔ Contains rows row
is-member b rows row e = (λ t. contains-from_in rows row (any-in row rows (sym e ∙ t)), λ c. e ∙ in-any row rows (in-from_contains rows row c))

pub row_total : (catalog : List Declaration) → IsTotalOrder (row_order catalog)
row_total catalog = then_total (on_total (λ (r : RowRecord). place_in catalog r.relation) nat_cmp_total) (on_total (λ (r : RowRecord). r.values) values_total)

-- one place is of one relation
place-one : (catalog : List Declaration) (a b : List ℕ) (m n : ℕ) → arity_in catalog a ≡ Some m → arity_in catalog b ≡ Some n → place_in catalog a ≡ place_in catalog b → a ≡ b
place-one [] a b m n p q e = absurd cc
place-one (d ∷ ds) a b m n p q e =
    by_bool (bytes_eq a d.relation) (a ≡ b)
    (λ s. by_bool (bytes_eq b d.relation) (a ≡ b)
    (λ t. same_bytes a d.relation s ∙ sym (same_bytes b d.relation t))
    (λ t. absurd (let x = place-here d ds a s in let y = place-later d ds b t in omega arith)))
    (λ s. by_bool (bytes_eq b d.relation) (a ≡ b)
    (λ t. absurd (let x = place-later d ds a s in let y = place-here d ds b t in omega arith))
    (λ t. place-one ds a b m n (rw s at p) (rw t at q) (let x = place-later d ds a s in let y = place-later d ds b t in omega arith)))

pub tied-rows : (catalog : List Declaration) (r s : RowRecord) → IsUnder catalog r → IsUnder catalog s → row_order catalog r s ≡ Equal → r ≡ s
tied-rows catalog r s p q e =
    let both = then-tied (nat_cmp (place_in catalog r.relation) (place_in catalog s.relation)) (values_order r.values s.values) e in
    row-eq r s (place-one catalog r.relation s.relation (length r.values) (length s.values) p q (nats-tied (place_in catalog r.relation) (place_in catalog s.relation) both.0))
    (values-tied r.values s.values both.1)

pub by_order : (o : Ordering) (P : Type 0) → (o ≡ Less → P) → (o ≡ Equal → P) → (o ≡ Greater → P) → P
by_order Less P f g h = f refl
by_order Equal P f g h = g refl
by_order Greater P f g h = h refl

-- the rows with a row are the row and those that were there
pub member-with : (catalog : List Declaration) (rows : List RowRecord) (row r : RowRecord) → AllByRecursion (IsUnder catalog) rows → IsUnder catalog row →
    Contains (filter (λ (s : RowRecord). is_lt (row_order catalog s row)) rows ++ row ∷ filter (λ (s : RowRecord). is_lt (row_order catalog row s)) rows) r ↔ ((r ≡ row) ⊎ Contains rows r)
member-with catalog rows row r all under = (there, back)
  where
    there : Contains (filter (λ (s : RowRecord). is_lt (row_order catalog s row)) rows ++ row ∷ filter (λ (s : RowRecord). is_lt (row_order catalog row s)) rows) r → (r ≡ row) ⊎ Contains rows r
    there c = elim (in-either (filter (λ (s : RowRecord). is_lt (row_order catalog s row)) rows) (row ∷ filter (λ (s : RowRecord). is_lt (row_order catalog row s)) rows) r (in-from_contains _ r c)) [
      | inl a ↦ inr (contains-from_in rows r ((in-filter (λ (s : RowRecord). is_lt (row_order catalog s row)) rows r a).0))
      | inr b ↦ elim b [
        | inl e ↦ inl (sym e)
        | inr i ↦ inr (contains-from_in rows r ((in-filter (λ (s : RowRecord). is_lt (row_order catalog row s)) rows r i).0))
      ]
    ]

    back : (r ≡ row) ⊎ Contains rows r → Contains (filter (λ (s : RowRecord). is_lt (row_order catalog s row)) rows ++ row ∷ filter (λ (s : RowRecord). is_lt (row_order catalog row s)) rows) r
    back h =
        let before = filter (λ (s : RowRecord). is_lt (row_order catalog s row)) rows in
        let after = filter (λ (s : RowRecord). is_lt (row_order catalog row s)) rows in
        contains-from_in (before ++ row ∷ after) r (elim h [
          | inl e ↦ in-right before (row ∷ after) r (inl (sym e))
          | inr c ↦ (let i = in-from_contains rows r c in
              by_order (row_order catalog r row) (In (before ++ row ∷ after) r)
              (λ e. in-left before (row ∷ after) r (in-passed (λ (s : RowRecord). is_lt (row_order catalog s row)) rows r i (ap is_lt e)))
              (λ e. in-right before (row ∷ after) r (inl (sym (tied-rows catalog r row (all-in (IsUnder catalog) rows r all i) under e))))
              (λ e. in-right before (row ∷ after) r (inr (in-passed (λ (s : RowRecord). is_lt (row_order catalog row s)) rows r i
              (ap is_lt ((row_total catalog).antisymm row r ∙ ap ordering_reverse e))))))
        ])

-- the rows without a row are those that were there but it
pub member-without : (rows : List RowRecord) (row r : RowRecord) → Contains (filter (λ (s : RowRecord). not (same_row row s)) rows) r ↔ ((¬ (r ≡ row)) × Contains rows r)
member-without rows row r = (there, back)
  where
    there : Contains (filter (λ (s : RowRecord). not (same_row row s)) rows) r → (¬ (r ≡ row)) × Contains rows r
    there c =
        let kept = in-filter (λ (s : RowRecord). not (same_row row s)) rows r (in-from_contains _ r c) in
        ((λ e. let never : false ≡ true = ap not (sym (row-itself row)) ∙ ap (λ (s : RowRecord). not (same_row row s)) (sym e) ∙ kept.1 in cc), contains-from_in rows r kept.0)

    back : (¬ (r ≡ row)) × Contains rows r → Contains (filter (λ (s : RowRecord). not (same_row row s)) rows) r
    back (other, c) =
        contains-from_in _ r (in-passed (λ (s : RowRecord). not (same_row row s)) rows r (in-from_contains rows r c)
        (by_bool (same_row row r) (not (same_row row r) ≡ true) (λ t. absurd (other (sym (same-rows row r t)))) (λ f. ap not f)))
