-- A look-up, an insertion and a deletion in the list that is kept for a relation, as one of all rows.
use Rattle.std.proofs.Common.{◌≡◌, ℕ, ◌<◌, Bool, true, false, not, ◌||◌, List, [], ◌∷◌, ◌++◌, length, get_or, set, Some, None, refl, sym, ap, ◌∙◌, arith, append_assoc, append-nil}
use Rattle.std.specs.Ordering.{is_lt, is_eq}
use Rattle.std.specs.Str.{bytes_eq}
use Rattle.std.specs.List.{filter, list_any, AllByRecursion}
use Rattle.std.specs.List.Sorted.{IsStrictlySortedBy}
use Rattle.std.proofs.lemmas.List.Elements.{filter-append}
use Rattle.std.proofs.lemmas.List.Folds.{list_any-append}
use Rattle.cq_atom.specs.Atom.{RowRecord}
use Rattle.cq_rel.specs.Tables.{Declaration, IsUnder, arity_in, place_in, row_order, values_order, same_row}
use Rattle.cq_rel.specs.Steps.Table.{by_values, has_values, rows_with, rows_without}
use Rattle.cq_rel.specs.Steps.Kept.{joined, IsOf, AreKept, kept_for, keeping}
use Rattle.cq_rel.proofs.Filters.{all-kept, none-kept, none-any}
use Rattle.cq_rel.proofs.Places.{by_bool, same_bytes, differ, Apart, place-here, place-later, order-here, order-first, order-last, order-later}
use Rattle.cq_rel.proofs.Kept.{all-weaker, filter-agrees, any-agrees, of-d, not-d, under, is-of-name}

-- a row of d, where d is the row's relation, is the row if its values are the row's
same-if-values : (d : Declaration) (row : RowRecord) → bytes_eq row.relation d.relation ≡ true → (r : RowRecord) → IsOf d r → same_row row r ≡ is_eq (values_order row.values r.values)
same-if-values d row e r h = rw (is-of-name d row.relation true e r h) refl

never-same : (d : Declaration) (row : RowRecord) → bytes_eq row.relation d.relation ≡ false → (r : RowRecord) → IsOf d r → same_row row r ≡ false
never-same d row e r h = rw (is-of-name d row.relation false e r h) refl

-- and a row under the later declarations is not the row
never-later : (d : Declaration) (ds : List Declaration) (row : RowRecord) → bytes_eq row.relation d.relation ≡ true → arity_in ds d.relation ≡ None → (r : RowRecord) → IsUnder ds r → same_row row r ≡ false
never-later d ds row e free r u =
    let apart : bytes_eq d.relation r.relation ≡ false = differ r.relation d.relation (not-d d ds r free u) in
    rw (same_bytes row.relation d.relation e, apart) refl

or-false : (b : Bool) → (b || false) ≡ b
or-false true = refl
or-false false = refl

-- the row is among all rows where its values are among those kept for its relation
pub has-kept : (catalog : List Declaration) (tables : List (List RowRecord)) (row : RowRecord) → AreKept catalog tables → Apart catalog → list_any (same_row row) (joined tables) ≡ has_values row.values (kept_for catalog tables row.relation)
has-kept [] [] row k a = refl
has-kept [] (t ∷ ts) row k a = absurd k
has-kept (d ∷ ds) [] row k a = absurd k
has-kept (d ∷ ds) (t ∷ ts) row k a =
    list_any-append (same_row row) t (joined ts) ∙ by_bool (bytes_eq row.relation d.relation) ((list_any (same_row row) t || list_any (same_row row) (joined ts)) ≡ has_values row.values (kept_for (d ∷ ds) (t ∷ ts) row.relation))
    (λ e.
    let front : list_any (same_row row) t ≡ has_values row.values t =
    any-agrees (same_row row) (λ (r : RowRecord). is_eq (values_order row.values r.values)) t (all-weaker (IsOf d) (λ r. same_row row r ≡ is_eq (values_order row.values r.values)) (same-if-values d row e) t k.0) in
    let rest : list_any (same_row row) (joined ts) ≡ false =
    none-any (same_row row) (joined ts) (all-weaker (IsUnder ds) (λ r. same_row row r ≡ false) (never-later d ds row e a.0) (joined ts) (under ds ts k.2 a.1)) in
    rw (front, rest, e) (or-false (has_values row.values t)))
    (λ e.
    let front : list_any (same_row row) t ≡ false = none-any (same_row row) t (all-weaker (IsOf d) (λ r. same_row row r ≡ false) (never-same d row e) t k.0) in
    rw (front, e) (has-kept ds ts row k.2 a.1))

-- all rows but the row, where it is taken from the rows of its relation
pub without-kept : (catalog : List Declaration) (tables : List (List RowRecord)) (row : RowRecord) → AreKept catalog tables → Apart catalog → filter (λ (r : RowRecord). not (same_row row r)) (joined tables) ≡ joined (keeping catalog tables row.relation (rows_without row.values (kept_for catalog tables row.relation)))
without-kept [] [] row k a = refl
without-kept [] (t ∷ ts) row k a = absurd k
without-kept (d ∷ ds) [] row k a = absurd k
without-kept (d ∷ ds) (t ∷ ts) row k a =
    let p : RowRecord → Bool = λ r. not (same_row row r) in
    filter-append p t (joined ts) ∙ by_bool (bytes_eq row.relation d.relation)
    (filter p t ++ filter p (joined ts) ≡ joined (keeping (d ∷ ds) (t ∷ ts) row.relation (rows_without row.values (kept_for (d ∷ ds) (t ∷ ts) row.relation))))
    (λ e.
    let front : filter p t ≡ rows_without row.values t =
    filter-agrees p (λ (r : RowRecord). not (is_eq (values_order row.values r.values))) t (all-weaker (IsOf d) (λ r. p r ≡ not (is_eq (values_order row.values r.values))) (λ r h. ap not (same-if-values d row e r h)) t k.0) in
    let rest : filter p (joined ts) ≡ joined ts =
    all-kept p (joined ts) (all-weaker (IsUnder ds) (λ r. p r ≡ true) (λ r u. ap not (never-later d ds row e a.0 r u)) (joined ts) (under ds ts k.2 a.1)) in
    rw (front, rest, e) refl)
    (λ e.
    let front : filter p t ≡ t = all-kept p t (all-weaker (IsOf d) (λ r. p r ≡ true) (λ r h. ap not (never-same d row e r h)) t k.0) in
    rw (front, e) (ap (λ (rs : List RowRecord). t ++ rs) (without-kept ds ts row k.2 a.1)))

before-in : List Declaration → RowRecord → RowRecord → Bool
before-in catalog row r = is_lt (row_order catalog r row)

after-in : List Declaration → RowRecord → RowRecord → Bool
after-in catalog row r = is_lt (row_order catalog row r)

middle : (f g j : List RowRecord) (row : RowRecord) → (f ++ []) ++ row ∷ (g ++ j) ≡ (f ++ row ∷ g) ++ j
middle f g j row = rw (append-nil f) (sym (append_assoc f (row ∷ g) j))

-- the rows before the row, the row and those after it, where it is put among the rows of its relation
pub with-kept : (catalog : List Declaration) (tables : List (List RowRecord)) (row : RowRecord) (n : ℕ) → AreKept catalog tables → Apart catalog → arity_in catalog row.relation ≡ Some n →
    filter (λ (r : RowRecord). is_lt (row_order catalog r row)) (joined tables) ++ row ∷ filter (λ (r : RowRecord). is_lt (row_order catalog row r)) (joined tables) ≡ joined (keeping catalog tables row.relation (rows_with row (kept_for catalog tables row.relation)))
with-kept [] [] row n k a has = absurd cc
with-kept [] (t ∷ ts) row n k a has = absurd k
with-kept (d ∷ ds) [] row n k a has = absurd k
with-kept (d ∷ ds) (t ∷ ts) row n k a has =
    let p : RowRecord → Bool = λ r. is_lt (row_order (d ∷ ds) r row) in
    let q : RowRecord → Bool = λ r. is_lt (row_order (d ∷ ds) row r) in
    let rest = under ds ts k.2 a.1 in
    rw (filter-append p t (joined ts), filter-append q t (joined ts)) (by_bool (bytes_eq row.relation d.relation)
    ((filter p t ++ filter p (joined ts)) ++ row ∷ (filter q t ++ filter q (joined ts)) ≡ joined (keeping (d ∷ ds) (t ∷ ts) row.relation (rows_with row (kept_for (d ∷ ds) (t ∷ ts) row.relation))))
    (λ e.
    let p-front : filter p t ≡ filter (λ (r : RowRecord). is_lt (values_order r.values row.values)) t =
    filter-agrees p (λ (r : RowRecord). is_lt (values_order r.values row.values)) t (all-weaker (IsOf d) (λ r. p r ≡ is_lt (values_order r.values row.values)) (λ r h. ap is_lt (order-here d ds r row (of-d d r h) e)) t k.0) in
    let q-front : filter q t ≡ filter (λ (r : RowRecord). is_lt (values_order row.values r.values)) t =
    filter-agrees q (λ (r : RowRecord). is_lt (values_order row.values r.values)) t (all-weaker (IsOf d) (λ r. q r ≡ is_lt (values_order row.values r.values)) (λ r h. ap is_lt (order-here d ds row r e (of-d d r h))) t k.0) in
    let p-rest : filter p (joined ts) ≡ [] =
    none-kept p (joined ts) (all-weaker (IsUnder ds) (λ r. p r ≡ false) (λ r u. ap is_lt (order-last d ds r row (not-d d ds r a.0 u) e)) (joined ts) rest) in
    let q-rest : filter q (joined ts) ≡ joined ts =
    all-kept q (joined ts) (all-weaker (IsUnder ds) (λ r. q r ≡ true) (λ r u. ap is_lt (order-first d ds row r e (not-d d ds r a.0 u))) (joined ts) rest) in
    rw (p-front, q-front, p-rest, q-rest, e)
    (middle (filter (λ (r : RowRecord). is_lt (values_order r.values row.values)) t) (filter (λ (r : RowRecord). is_lt (values_order row.values r.values)) t) (joined ts) row))
    (λ e.
    let later : arity_in ds row.relation ≡ Some n = rw e at has in
    let p-front : filter p t ≡ t = all-kept p t (all-weaker (IsOf d) (λ r. p r ≡ true) (λ r h. ap is_lt (order-first d ds r row (of-d d r h) e)) t k.0) in
    let q-front : filter q t ≡ [] = none-kept q t (all-weaker (IsOf d) (λ r. q r ≡ false) (λ r h. ap is_lt (order-last d ds row r e (of-d d r h))) t k.0) in
    let p-rest : filter p (joined ts) ≡ filter (λ (r : RowRecord). is_lt (row_order ds r row)) (joined ts) =
    filter-agrees p (λ (r : RowRecord). is_lt (row_order ds r row)) (joined ts) (all-weaker (IsUnder ds) (λ r. p r ≡ is_lt (row_order ds r row)) (λ r u. ap is_lt (order-later d ds r row (not-d d ds r a.0 u) e)) (joined ts) rest) in
    let q-rest : filter q (joined ts) ≡ filter (λ (r : RowRecord). is_lt (row_order ds row r)) (joined ts) =
    filter-agrees q (λ (r : RowRecord). is_lt (row_order ds row r)) (joined ts) (all-weaker (IsUnder ds) (λ r. q r ≡ is_lt (row_order ds row r)) (λ r u. ap is_lt (order-later d ds row r e (not-d d ds r a.0 u))) (joined ts) rest) in
    rw (p-front, q-front, p-rest, q-rest, e)
    (append_assoc t (filter (λ (r : RowRecord). is_lt (row_order ds r row)) (joined ts)) (row ∷ filter (λ (r : RowRecord). is_lt (row_order ds row r)) (joined ts)) ∙
    ap (λ (rs : List RowRecord). t ++ rs) (with-kept ds ts row n k.2 a.1 later))))

-- what stays kept where the rows of a relation change
pub kept-changed : (catalog : List Declaration) (tables : List (List RowRecord)) (name : List ℕ) (n : ℕ) (changed : List RowRecord) → AreKept catalog tables → arity_in catalog name ≡ Some n →
    ((d : Declaration) → d.relation ≡ name → d.arity ≡ n → AllByRecursion (IsOf d) (kept_for catalog tables name) → AllByRecursion (IsOf d) changed) →
    (IsStrictlySortedBy by_values (kept_for catalog tables name) → IsStrictlySortedBy by_values changed) → AreKept catalog (keeping catalog tables name changed)
kept-changed [] [] name n changed k has of up = absurd cc
kept-changed [] (t ∷ ts) name n changed k has of up = absurd k
kept-changed (d ∷ ds) [] name n changed k has of up = absurd k
kept-changed (d ∷ ds) (t ∷ ts) name n changed k has of up =
    by_bool (bytes_eq name d.relation) (AreKept (d ∷ ds) (keeping (d ∷ ds) (t ∷ ts) name changed))
    (λ e.
    let arity = rw e at has in
    let of-t = rw e at of in
    let up-t = rw e at up in
    rw e (of-t d (sym (same_bytes name d.relation e)) (let same : Some d.arity ≡ Some n = arity in cc) k.0, up-t k.1, k.2))
    (λ e.
    let later = rw e at has in
    let of-t = rw e at of in
    let up-t = rw e at up in
    rw e (k.0, k.1, kept-changed ds ts name n changed k.2 later of-t up-t))

-- the list at the place of a relation is that kept for it
pub kept-at : (catalog : List Declaration) (tables : List (List RowRecord)) (name : List ℕ) (d : List RowRecord) → AreKept catalog tables → place_in catalog name < length catalog → get_or tables (place_in catalog name) d ≡ kept_for catalog tables name
kept-at [] [] name d k low = absurd (omega arith)
kept-at [] (t ∷ ts) name d k low = absurd k
kept-at (e ∷ es) [] name d k low = absurd k
kept-at (e ∷ es) (t ∷ ts) name d k low =
    by_bool (bytes_eq name e.relation) (get_or (t ∷ ts) (place_in (e ∷ es) name) d ≡ kept_for (e ∷ es) (t ∷ ts) name)
    (λ h. rw (place-here e es name h, h) refl)
    (λ h. let at = place-later e es name h in rw (at, h) (kept-at es ts name d k.2 (omega arith)))

pub keeping-at : (catalog : List Declaration) (tables : List (List RowRecord)) (name : List ℕ) (changed : List RowRecord) → AreKept catalog tables → place_in catalog name < length catalog → set tables (place_in catalog name) changed ≡ keeping catalog tables name changed
keeping-at [] [] name changed k low = refl
keeping-at [] (t ∷ ts) name changed k low = absurd k
keeping-at (e ∷ es) [] name changed k low = absurd k
keeping-at (e ∷ es) (t ∷ ts) name changed k low =
    by_bool (bytes_eq name e.relation) (set (t ∷ ts) (place_in (e ∷ es) name) changed ≡ keeping (e ∷ es) (t ∷ ts) name changed)
    (λ h. rw (place-here e es name h, h) refl)
    (λ h. let at = place-later e es name h in rw (at, h) (ap (λ (l : List (List RowRecord)). t ∷ l) (keeping-at es ts name changed k.2 (omega arith))))

pub kept-length : (catalog : List Declaration) (tables : List (List RowRecord)) → AreKept catalog tables → length tables ≡ length catalog
kept-length [] [] k = refl
kept-length [] (t ∷ ts) k = absurd k
kept-length (d ∷ ds) [] k = absurd k
kept-length (d ∷ ds) (t ∷ ts) k = let e = kept-length ds ts k.2 in omega arith
