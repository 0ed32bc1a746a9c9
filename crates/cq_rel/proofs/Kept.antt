-- What the lists that are kept for each relation say of all rows together.
use Rattle.std.proofs.Common.{◌≡◌, ℕ, Bool, true, false, List, [], ◌∷◌, ◌++◌, length, Some, None, refl, sym, ap, ◌∙◌, append-nil, Ordering}
use Rattle.std.specs.declared.cmp.Ordering.TheVariants.{Less}
use Rattle.std.specs.Str.{bytes_eq}
use Rattle.std.specs.List.{filter, list_any, AllByRecursion}
use Rattle.std.specs.List.Sorted.{IsStrictlySortedBy}
use Rattle.std.proofs.lemmas.List.Elements.{filter-append}
use Rattle.cq_atom.specs.Atom.{RowRecord}
use Rattle.cq_rel.specs.Tables.{Declaration, IsUnder, declares, arity_in, row_order}
use Rattle.cq_rel.specs.Steps.Table.{by_values}
use Rattle.cq_rel.specs.Steps.Kept.{joined, IsOf, AreKept, kept_for}
use Rattle.cq_rel.proofs.Catalogs.{undeclared_step}
use Rattle.cq_rel.proofs.Filters.{all-kept, none-kept, sorted-append}
use Rattle.cq_rel.proofs.Rows.{sorted-nil}
use Rattle.cq_rel.proofs.Places.{by_bool, same_bytes, itself, Apart, other, order-here, order-first, order-later}

module _ {X : Type 0} (P : X → Type 0) where
  pub all-append : (xs ys : List X) → AllByRecursion P xs → AllByRecursion P ys → AllByRecursion P (xs ++ ys)
  all-append [] ys p q = q
  all-append (x ∷ xs) ys p q = (p.0, all-append xs ys p.1 q)

  pub all-weaker : (Q : X → Type 0) → ((x : X) → P x → Q x) → (xs : List X) → AllByRecursion P xs → AllByRecursion Q xs
  all-weaker Q f [] h = tt
  all-weaker Q f (x ∷ xs) h = (f x h.0, all-weaker Q f xs h.1)

module _ {X : Type 0} (p q : X → Bool) where
  pub filter-agrees : (xs : List X) → AllByRecursion (λ x. p x ≡ q x) xs → filter p xs ≡ filter q xs
  filter-agrees [] h = refl
  filter-agrees (x ∷ xs) h = rw (h.0, filter-agrees xs h.1) refl

  pub any-agrees : (xs : List X) → AllByRecursion (λ x. p x ≡ q x) xs → list_any p xs ≡ list_any q xs
  any-agrees [] h = refl
  any-agrees (x ∷ xs) h = rw (h.0, any-agrees xs h.1) refl

sorted-as : {X : Type 0} (P : X → Type 0) (c e : X → X → Ordering) → ((x y : X) → P x → P y → e x y ≡ c x y) → (xs : List X) → AllByRecursion P xs → IsStrictlySortedBy c xs → IsStrictlySortedBy e xs
unfolding IsStrictlySortedBy
sorted-as P c e same [] h up = tt
sorted-as P c e same (x ∷ xs) h up = (above xs h.1 up.0, sorted-as P c e same xs h.1 up.1)
  where
    above : (ys : List _) → AllByRecursion P ys → AllByRecursion (λ y. c x y ≡ Less) ys → AllByRecursion (λ y. e x y ≡ Less) ys
    above [] k a = tt
    above (y ∷ ys) k a = (same x y h.0 k.0 ∙ a.0, above ys k.1 a.1)

-- the relation of a row of d
pub of-d : (d : Declaration) (r : RowRecord) → IsOf d r → bytes_eq r.relation d.relation ≡ true
of-d d r h = rw h.0 (itself d.relation)

-- a row under the later declarations is none of d
pub not-d : (d : Declaration) (ds : List Declaration) (r : RowRecord) → arity_in ds d.relation ≡ None → IsUnder ds r → bytes_eq r.relation d.relation ≡ false
not-d d ds r free u = other d ds r.relation (length r.values) free u

under-head : (d : Declaration) (ds : List Declaration) (r : RowRecord) → IsOf d r → IsUnder (d ∷ ds) r
under-head d ds r h = rw (of-d d r h) (ap Some (sym h.1))

under-tail : (d : Declaration) (ds : List Declaration) (r : RowRecord) → arity_in ds d.relation ≡ None → IsUnder ds r → IsUnder (d ∷ ds) r
under-tail d ds r free u = rw (not-d d ds r free u) u

-- each row is under the catalog
pub under : (catalog : List Declaration) (tables : List (List RowRecord)) → AreKept catalog tables → Apart catalog → AllByRecursion (IsUnder catalog) (joined tables)
under [] [] k a = tt
under [] (t ∷ ts) k a = absurd k
under (d ∷ ds) [] k a = absurd k
under (d ∷ ds) (t ∷ ts) k a =
    all-append (IsUnder (d ∷ ds)) t (joined ts) (all-weaker (IsOf d) (IsUnder (d ∷ ds)) (λ r h. under-head d ds r h) t k.0)
    (all-weaker (IsUnder ds) (IsUnder (d ∷ ds)) (λ r u. under-tail d ds r a.0 u) (joined ts) (under ds ts k.2 a.1))

-- the rows are in order
pub ascending : (catalog : List Declaration) (tables : List (List RowRecord)) → AreKept catalog tables → Apart catalog → IsStrictlySortedBy (row_order catalog) (joined tables)
ascending [] [] k a = sorted-nil (row_order [])
ascending [] (t ∷ ts) k a = absurd k
ascending (d ∷ ds) [] k a = absurd k
ascending (d ∷ ds) (t ∷ ts) k a =
    let rest = under ds ts k.2 a.1 in
    sorted-append (row_order (d ∷ ds)) t (joined ts)
    (sorted-as (IsOf d) by_values (row_order (d ∷ ds)) (λ r s h g. order-here d ds r s (of-d d r h) (of-d d s g)) t k.0 k.1)
    (sorted-as (IsUnder ds) (row_order ds) (row_order (d ∷ ds)) (λ r s h g. order-later d ds r s (not-d d ds r a.0 h) (not-d d ds s a.0 g)) (joined ts) rest (ascending ds ts k.2 a.1))
    (all-weaker (IsOf d) (λ r. AllByRecursion (λ s. row_order (d ∷ ds) r s ≡ Less) (joined ts))
    (λ r h. all-weaker (IsUnder ds) (λ s. row_order (d ∷ ds) r s ≡ Less) (λ s u. order-first d ds r s (of-d d r h) (not-d d ds s a.0 u)) (joined ts) rest) t k.0)

-- no rows are kept for a relation that is not declared
pub kept-none : (catalog : List Declaration) (tables : List (List RowRecord)) (name : List ℕ) → arity_in catalog name ≡ None → kept_for catalog tables name ≡ []
kept-none [] tables name e = refl
kept-none (d ∷ ds) [] name e = refl
kept-none (d ∷ ds) (t ∷ ts) name e =
    let step = undeclared_step (declares name d) d.arity (arity_in ds name) e in
    rw (step.0) (kept-none ds ts name step.1)

pub free-as : (d : Declaration) (ds : List Declaration) (name : List ℕ) → bytes_eq name d.relation ≡ true → arity_in ds d.relation ≡ None → arity_in ds name ≡ None
free-as d ds name e free = ap (arity_in ds) (same_bytes name d.relation e) ∙ free

-- a row of d is of the relation of that name, or not, as d is
pub is-of-name : (d : Declaration) (name : List ℕ) (b : Bool) → bytes_eq name d.relation ≡ b → (r : RowRecord) → IsOf d r → bytes_eq name r.relation ≡ b
is-of-name d name b e r h = rw (h.0) e

-- the rows of one relation are those that are kept for it
pub rows-kept : (catalog : List Declaration) (tables : List (List RowRecord)) (name : List ℕ) → AreKept catalog tables → Apart catalog → filter (λ (r : RowRecord). bytes_eq name r.relation) (joined tables) ≡ kept_for catalog tables name
rows-kept [] [] name k a = refl
rows-kept [] (t ∷ ts) name k a = absurd k
rows-kept (d ∷ ds) [] name k a = absurd k
rows-kept (d ∷ ds) (t ∷ ts) name k a =
    let p : RowRecord → Bool = λ r. bytes_eq name r.relation in
    filter-append p t (joined ts) ∙ by_bool (bytes_eq name d.relation) (filter p t ++ filter p (joined ts) ≡ kept_for (d ∷ ds) (t ∷ ts) name)
    (λ e.
    let front : filter p t ≡ t = all-kept p t (all-weaker (IsOf d) (λ r. p r ≡ true) (is-of-name d name true e) t k.0) in
    let rest : filter p (joined ts) ≡ [] = rows-kept ds ts name k.2 a.1 ∙ kept-none ds ts name (free-as d ds name e a.0) in
    rw (front, rest, e) (append-nil t))
    (λ e.
    let front : filter p t ≡ [] = none-kept p t (all-weaker (IsOf d) (λ r. p r ≡ false) (is-of-name d name false e) t k.0) in
    rw (front, e) (rows-kept ds ts name k.2 a.1))
