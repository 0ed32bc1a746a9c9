-- Tables as they are seen, by the lists that are kept for each relation.
use Rattle.std.proofs.Common.{◌≡◌, ℕ, zero, suc, ◌<◌, ◌⊎◌, Bool, true, false, List, [], ◌∷◌, ◌++◌, length, get_or, set, Option, Some, None, Result, Ok, Err, refl, sym, ap, ◌∙◌, subst, arith, nat_eq, if◌then◌else◌}
use Rattle.std.specs.Prelude.{◌↔◌, IsTrue, OnOk, OnErr}
use Rattle.std.specs.Str.{bytes_eq}
use Rattle.std.specs.List.{All, filter, position, AllByRecursion}
use Rattle.std.specs.Option.{option_map}
use Rattle.std.proofs.lemmas.List.Elements.{All-from_recursion, recursion_from_All}
use Rattle.std.proofs.lemmas.Bool.Decides.{Decides-eqb}
use Rattle.cq_atom.specs.Answer.{Answers}
use Rattle.cq_atom.specs.Value.{ValueContent}
use Rattle.cq_atom.specs.Atom.{RowRecord}
use Rattle.cq_rel.specs.declared.fault.RowFault.{RowFault}
use Rattle.cq_rel.specs.declared.fault.RowFault.TheVariants.{UnknownRelation, Arity, RowPresent, RowAbsent, NoMemory}
use Rattle.cq_rel.specs.Tables.{Declaration, TablesRecord, IsCatalog, IsTables, IsUnder, IsRow, declaration, declares, arity_in, place_in, has_row, rows_in, row_fault, insert_fault, delete_fault, with_row, without_row, answer_of}
use Rattle.cq_rel.specs.Steps.Table.{by_values, has_values, rows_with, rows_without}
use Rattle.cq_rel.specs.Steps.Kept.{joined, IsOf, AreKept, IsKept, kept_for, keeping}
use Rattle.cq_rel.proofs.Places.{by_bool, same_bytes, apart, place-known, place-none, arity-at}
use Rattle.cq_rel.proofs.Kept.{under, ascending, rows-kept, kept-none, all-append, all-weaker}
use Rattle.cq_rel.proofs.Edits.{has-kept, without-kept, with-kept, kept-changed, kept-at, keeping-at, kept-length}
use Rattle.cq_rel.proofs.Rows.{sorted-with, sorted-without, sorted-from_nil}
use Rattle.cq_rel.proofs.Members.{is-member, member-with, member-without}

abbrev pub Lists : Type 0
Lists = List (List RowRecord)

abbrev pub stored : List Declaration → Lists → TablesRecord
stored catalog tables = record { catalog = catalog; rows = joined tables }

pub valid : (catalog : List Declaration) (tables : Lists) (seen : TablesRecord) → stored catalog tables ≡ seen → IsKept catalog tables → IsTables seen
valid catalog tables seen view k =
    let distinct = apart catalog k.catalog.distinct in
    let is : IsTables (stored catalog tables) = record {
      catalog = k.catalog;
      under = All-from_recursion (IsUnder catalog) (joined tables) (under catalog tables k.tables distinct);
      ascending = ascending catalog tables k.tables distinct;
    } in
    subst IsTables view is

-- ---- a look-up by the relation

pub place-low : (catalog : List Declaration) (tables : Lists) (name : List ℕ) (place : ℕ) → IsKept catalog tables → position (declares name) catalog ≡ Some place → place < length tables
place-low catalog tables name place k at =
    let low = (place-known catalog name place at).1 in
    let same = kept-length catalog tables k.tables in
    omega arith

-- what stands at the relation's place
table-at : (catalog : List Declaration) (tables : Lists) (name : List ℕ) (place : ℕ) (rows : List RowRecord) → IsKept catalog tables → position (declares name) catalog ≡ Some place → rows ≡ get_or tables place rows → rows ≡ kept_for catalog tables name
table-at catalog tables name place rows k at read =
    let known = place-known catalog name place at in
    let same : place ≡ place_in catalog name = known.0 in
    let low : place_in catalog name < length catalog = rw (← same) (known.1) in
    read ∙ ap (λ (i : ℕ). get_or tables i rows) same ∙ kept-at catalog tables name rows k.tables low

rows-stored : (catalog : List Declaration) (tables : Lists) (name : List ℕ) → IsKept catalog tables → rows_in name (stored catalog tables) ≡ kept_for catalog tables name
rows-stored catalog tables name k = rows-kept catalog tables name k.tables (apart catalog k.catalog.distinct)

pub rows-shown : (catalog : List Declaration) (tables : Lists) (seen : TablesRecord) (name : List ℕ) (place : ℕ) (rows shown : List RowRecord) → stored catalog tables ≡ seen → IsKept catalog tables → position (declares name) catalog ≡ Some place →
    rows ≡ get_or tables place rows → shown ≡ rows → shown ≡ rows_in name seen
rows-shown catalog tables seen name place rows shown view k at read e =
    e ∙ table-at catalog tables name place rows k at read ∙ sym (rows-stored catalog tables name k) ∙ ap (rows_in name) view

declared : (catalog : List Declaration) (name : List ℕ) (place : ℕ) → position (declares name) catalog ≡ Some place → (n : ℕ) × (arity_in catalog name ≡ Some n)
declared catalog name place at =
    let known = place-known catalog name place at in
    let same : place ≡ place_in catalog name = known.0 in
    ((get_or catalog (place_in catalog name) (declaration [] 0)).arity, arity-at catalog name (declaration [] 0) (rw (← same) (known.1)))

pub rows-value : (catalog : List Declaration) (tables : Lists) (seen : TablesRecord) (name : List ℕ) (place : ℕ) (shown : List RowRecord) → stored catalog tables ≡ seen → position (declares name) catalog ≡ Some place →
    shown ≡ rows_in name seen → Some shown ≡ option_map (λ (n : ℕ). rows_in name seen) (arity_in seen.catalog name)
rows-value catalog tables seen name place shown view at e =
    let has = declared catalog name place at in
    let there : arity_in seen.catalog name ≡ Some has.0 = sym (ap (λ (t : TablesRecord). arity_in t.catalog name) view) ∙ has.1 in
    rw (there, e) refl

pub rows-none : (catalog : List Declaration) (tables : Lists) (seen : TablesRecord) (name : List ℕ) → stored catalog tables ≡ seen → None ≡ position (declares name) catalog → None ≡ option_map (λ (n : ℕ). rows_in name seen) (arity_in seen.catalog name)
rows-none catalog tables seen name view at =
    let there : arity_in seen.catalog name ≡ None = sym (ap (λ (t : TablesRecord). arity_in t.catalog name) view) ∙ place-none catalog name (sym at) in
    rw there refl

pub rows-absent : (catalog : List Declaration) (tables : Lists) (seen : TablesRecord) (name : List ℕ) → stored catalog tables ≡ seen → IsKept catalog tables → None ≡ position (declares name) catalog → rows_in name seen ≡ []
rows-absent catalog tables seen name view k at =
    sym (ap (rows_in name) view) ∙ rows-stored catalog tables name k ∙ kept-none catalog tables name (place-none catalog name (sym at))

-- how many they are
pub rows-counted : (arity : Option ℕ) (shown : Option (List RowRecord)) (rows : List RowRecord) → shown ≡ option_map (λ (n : ℕ). rows) arity → option_map (λ (xs : List RowRecord). length xs) shown ≡ option_map (λ (n : ℕ). length rows) arity
rows-counted None shown rows e = ap (option_map (λ (xs : List RowRecord). length xs)) e
rows-counted (Some n) shown rows e = ap (option_map (λ (xs : List RowRecord). length xs)) e

of-name : (catalog : List Declaration) (name : List ℕ) (rows : List RowRecord) → AllByRecursion (IsUnder catalog) rows → AllByRecursion (λ (r : RowRecord). (r.relation ≡ name) × IsUnder catalog r) (filter (λ (r : RowRecord). bytes_eq name r.relation) rows)
of-name catalog name [] h = tt
of-name catalog name (r ∷ rows) h =
    by_bool (bytes_eq name r.relation) (AllByRecursion (λ (s : RowRecord). (s.relation ≡ name) × IsUnder catalog s) (filter (λ (s : RowRecord). bytes_eq name s.relation) (r ∷ rows)))
    (λ t. rw t ((sym (same_bytes name r.relation t), h.0), of-name catalog name rows h.1))
    (λ f. rw f (of-name catalog name rows h.1))

pub rows-under : (seen : TablesRecord) (name : List ℕ) (shown : List RowRecord) → IsTables seen → shown ≡ rows_in name seen → All (λ (r : RowRecord). (r.relation ≡ name) × IsUnder seen.catalog r) shown
rows-under seen name shown is e =
    rw e (All-from_recursion (λ (r : RowRecord). (r.relation ≡ name) × IsUnder seen.catalog r) (rows_in name seen) (of-name seen.catalog name seen.rows (recursion_from_All (IsUnder seen.catalog) seen.rows is.under)))

of-at : (catalog : List Declaration) (tables : Lists) (i : ℕ) (d : Declaration) (t : List RowRecord) → AreKept catalog tables → i < length catalog → AllByRecursion (IsOf (get_or catalog i d)) (get_or tables i t)
of-at [] tables i d t k low = absurd (let low' : i < 0 = low in omega (arith, low'))
of-at (e ∷ es) [] i d t k low = absurd k
of-at (e ∷ es) (rows ∷ tables) zero d t k low = k.0
of-at (e ∷ es) (rows ∷ tables) (suc i) d t k low = of-at es tables i d t k.2 (let low' : suc i < suc (length es) = low in omega (arith, low'))

-- the rows at a relation's place all have its arity
pub rows-alike : (catalog : List Declaration) (tables : Lists) (name : List ℕ) (place n : ℕ) (rows : List RowRecord) → IsKept catalog tables → position (declares name) catalog ≡ Some place → rows ≡ get_or tables place rows → ((d : Declaration) → n ≡ (get_or catalog place d).arity)
    → All (λ (r : RowRecord). length r.values ≡ n) rows
rows-alike catalog tables name place n rows k at read arity =
    let d : Declaration = declaration [] 0 in
    let long : RowRecord → Type 0 = λ r. length r.values ≡ n in
    let of = of-at catalog tables place d rows k.tables (place-known catalog name place at).1 in
    subst (λ (l : List RowRecord). All long l) (sym read)
    (All-from_recursion long (get_or tables place rows) (all-weaker (IsOf (get_or catalog place d)) long (λ r h. h.1 ∙ sym (arity d)) (get_or tables place rows) of))

-- ---- a look-up of a row

pub has-seen : (catalog : List Declaration) (tables : Lists) (seen : TablesRecord) (row : RowRecord) (place : ℕ) (rows : List RowRecord) → stored catalog tables ≡ seen → IsKept catalog tables → position (declares row.relation) catalog ≡ Some place →
    rows ≡ get_or tables place rows → has_values row.values rows ≡ has_row seen row
has-seen catalog tables seen row place rows view k at read =
    ap (has_values row.values) (table-at catalog tables row.relation place rows k at read) ∙ sym (has-kept catalog tables row k.tables (apart catalog k.catalog.distinct)) ∙ ap (λ (t : TablesRecord). has_row t row) view

pub has-none : (catalog : List Declaration) (tables : Lists) (seen : TablesRecord) (row : RowRecord) → stored catalog tables ≡ seen → IsKept catalog tables → None ≡ position (declares row.relation) catalog → false ≡ has_row seen row
has-none catalog tables seen row view k at =
    sym (ap (λ (t : TablesRecord). has_row t row) (sym view) ∙ has-kept catalog tables row k.tables (apart catalog k.catalog.distinct) ∙ ap (has_values row.values) (kept-none catalog tables row.relation (place-none catalog row.relation (sym at))))

pub has-member : (b : Bool) (seen : TablesRecord) (row : RowRecord) → b ≡ has_row seen row → IsTrue b ↔ IsRow seen row
has-member b seen row e = is-member b seen.rows row e

-- ---- why a row is refused

unknown_step : (o : Option ℕ) (n : ℕ) → o ≡ None → (elim o [ None ↦ Some UnknownRelation | Some m ↦ (if nat_eq m n then None else Some Arity) ]) ≡ Some UnknownRelation
unknown_step None n e = refl
unknown_step (Some m) n e = absurd cc

pub unknown-row : (catalog : List Declaration) (row : RowRecord) → None ≡ position (declares row.relation) catalog → row_fault catalog row ≡ Some UnknownRelation
unknown-row catalog row at = unknown_step (arity_in catalog row.relation) (length row.values) (place-none catalog row.relation (sym at))

arity_step : (o : Option ℕ) (m n : ℕ) (b : Bool) (fault : Option RowFault) → o ≡ Some m → nat_eq m n ≡ b → (if b then None else Some Arity) ≡ fault → (elim o [ None ↦ Some UnknownRelation | Some k ↦ (if nat_eq k n then None else Some Arity) ]) ≡ fault
arity_step None m n b fault e f h = absurd cc
arity_step (Some k) m n b fault e f h = let same : k ≡ m = cc in rw (same, f) h

pub row-checked : (catalog : List Declaration) (row : RowRecord) (place : ℕ) (d : Declaration) (b : Bool) (fault : Option RowFault) → position (declares row.relation) catalog ≡ Some place → d ≡ get_or catalog place d →
    nat_eq d.arity (length row.values) ≡ b → (if b then None else Some Arity) ≡ fault → row_fault catalog row ≡ fault
row-checked catalog row place d b fault at read e h =
    let known = place-known catalog row.relation place at in
    let same : place ≡ place_in catalog row.relation = known.0 in
    let has = arity-at catalog row.relation d (rw (← same) (known.1)) in
    let this : get_or catalog (place_in catalog row.relation) d ≡ d = sym (read ∙ ap (λ (i : ℕ). get_or catalog i d) same) in
    arity_step (arity_in catalog row.relation) d.arity (length row.values) b fault (has ∙ ap (λ (f : Declaration). Some f.arity) this) e h

pub wrong-arity : (entries catalog : List Declaration) (row : RowRecord) (place : ℕ) (d : Declaration) (n : ℕ) (values : List ValueContent) → entries ≡ catalog → position (declares row.relation) catalog ≡ Some place → d ≡ get_or entries place d →
    n ≡ d.arity → values ≡ row.values → (n ≡ length values → ⊥) → row_fault catalog row ≡ Some Arity
wrong-arity entries catalog row place d n values view at read e f apart =
    row-checked catalog row place d false (Some Arity) at (read ∙ ap (λ (ds : List Declaration). get_or ds place d) view)
    (by_bool (nat_eq d.arity (length row.values)) (nat_eq d.arity (length row.values) ≡ false)
    (λ t. absurd (apart (e ∙ (Decides-eqb d.arity (length row.values)).0 t ∙ ap (λ (v : List ValueContent). length v) (sym f)))) (λ g. g))
    refl

pub right-arity : (entries catalog : List Declaration) (row : RowRecord) (place : ℕ) (d : Declaration) (n : ℕ) (values : List ValueContent) → entries ≡ catalog → position (declares row.relation) catalog ≡ Some place → d ≡ get_or entries place d →
    n ≡ d.arity → values ≡ row.values → n ≡ length values → row_fault catalog row ≡ None
right-arity entries catalog row place d n values view at read e f same =
    row-checked catalog row place d true None at (read ∙ ap (λ (ds : List Declaration). get_or ds place d) view)
    ((Decides-eqb d.arity (length row.values)).1 (sym e ∙ same ∙ ap (λ (v : List ValueContent). length v) f)) refl

abbrev arity_step_of : Option ℕ → ℕ → Option RowFault
arity_step_of o n = elim o [ None ↦ Some UnknownRelation | Some m ↦ (if nat_eq m n then None else Some Arity) ]

fits_step : (o : Option ℕ) (n : ℕ) → arity_step_of o n ≡ None → o ≡ Some n
fits_step None n e = absurd cc
fits_step (Some m) n e = by_bool (nat_eq m n) (Some m ≡ Some n) (λ t. ap Some ((Decides-eqb m n).0 t)) (λ f. absurd (let never = rw f at e in cc))

-- a row that is not refused is under the catalog
pub row-fits : (catalog : List Declaration) (row : RowRecord) → row_fault catalog row ≡ None → IsUnder catalog row
row-fits catalog row e = fits_step (arity_in catalog row.relation) (length row.values) e

-- ---- an insertion and a deletion

all-filter : {X : Type 0} (P : X → Type 0) (p : X → Bool) (xs : List X) → AllByRecursion P xs → AllByRecursion P (filter p xs)
all-filter P p [] h = tt
all-filter P p (x ∷ xs) h =
    by_bool (p x) (AllByRecursion P (filter p (x ∷ xs))) (λ t. rw t (h.0, all-filter P p xs h.1)) (λ f. rw f (all-filter P p xs h.1))

set-same : {X : Type 0} (xs : List X) (i : ℕ) (x : X) → i < length xs → x ≡ get_or xs i x → set xs i x ≡ xs
set-same [] i x low e = refl
set-same (y ∷ ys) zero x low e = rw e refl
set-same (y ∷ ys) (suc i) x low e = ap (λ (zs : List _). y ∷ zs) (set-same ys i x (omega arith) e)

set-kept : (catalog : List Declaration) (tables : Lists) (name : List ℕ) (place : ℕ) (changed : List RowRecord) → IsKept catalog tables → position (declares name) catalog ≡ Some place → set tables place changed ≡ keeping catalog tables name changed
set-kept catalog tables name place changed k at =
    let known = place-known catalog name place at in
    let same : place ≡ place_in catalog name = known.0 in
    ap (λ (i : ℕ). set tables i changed) same ∙ keeping-at catalog tables name changed k.tables (rw (← same) (known.1))

keep-with : (catalog : List Declaration) (tables : Lists) (row : RowRecord) → IsKept catalog tables → IsUnder catalog row → IsKept catalog (keeping catalog tables row.relation (rows_with row (kept_for catalog tables row.relation)))
keep-with catalog tables row k under =
    let rows = kept_for catalog tables row.relation in
    record {
      catalog = k.catalog;
      tables = kept-changed catalog tables row.relation (length row.values) (rows_with row rows) k.tables under
          (λ d e f h. all-append (IsOf d) _ _ (all-filter (IsOf d) _ rows h) ((sym e, sym f), all-filter (IsOf d) _ rows h))
          (λ up. sorted-with rows row up);
    }

keep-without : (catalog : List Declaration) (tables : Lists) (row : RowRecord) → IsKept catalog tables → IsUnder catalog row → IsKept catalog (keeping catalog tables row.relation (rows_without row.values (kept_for catalog tables row.relation)))
keep-without catalog tables row k under =
    let rows = kept_for catalog tables row.relation in
    record {
      catalog = k.catalog;
      tables = kept-changed catalog tables row.relation (length row.values) (rows_without row.values rows) k.tables under
          (λ d e f h. all-filter (IsOf d) _ rows h)
          (λ up. sorted-without rows row.values up);
    }

pub kept-inserted : (catalog : List Declaration) (tables : Lists) (row : RowRecord) (place : ℕ) (old new : List RowRecord) (result : Result (Unit {0}) RowFault) → IsKept catalog tables → row_fault catalog row ≡ None → position (declares row.relation) catalog ≡ Some place →
    old ≡ get_or tables place old → OnOk result (new ≡ rows_with row old) → OnErr result (new ≡ old) → IsKept catalog (set tables place new)
kept-inserted catalog tables row place old new (Ok u) k fine at read ok err =
    let e = set-kept catalog tables row.relation place new k at in
    let is : new ≡ rows_with row (kept_for catalog tables row.relation) = ok ∙ ap (rows_with row) (table-at catalog tables row.relation place old k at read) in
    rw (e, is) (keep-with catalog tables row k (row-fits catalog row fine))
kept-inserted catalog tables row place old new (Err f) k fine at read ok err =
    rw (err, set-same tables place old (place-low catalog tables row.relation place k at) read) k

pub kept-deleted : (catalog : List Declaration) (tables : Lists) (row : RowRecord) (place : ℕ) (old new : List RowRecord) (result : Result (Unit {0}) RowFault) → IsKept catalog tables → row_fault catalog row ≡ None → position (declares row.relation) catalog ≡ Some place →
    old ≡ get_or tables place old → OnOk result (new ≡ rows_without row.values old) → OnErr result (new ≡ old) → IsKept catalog (set tables place new)
kept-deleted catalog tables row place old new (Ok u) k fine at read ok err =
    let e = set-kept catalog tables row.relation place new k at in
    let is : new ≡ rows_without row.values (kept_for catalog tables row.relation) = ok ∙ ap (rows_without row.values) (table-at catalog tables row.relation place old k at read) in
    rw (e, is) (keep-without catalog tables row k (row-fits catalog row fine))
kept-deleted catalog tables row place old new (Err f) k fine at read ok err =
    rw (err, set-same tables place old (place-low catalog tables row.relation place k at) read) k

pub unchanged : (catalog : List Declaration) (tables : Lists) (seen : TablesRecord) (name : List ℕ) (place : ℕ) (old new : List RowRecord) (result : Result (Unit {0}) RowFault) → stored catalog tables ≡ seen → IsKept catalog tables → position (declares name) catalog ≡ Some place →
    old ≡ get_or tables place old → OnErr result (new ≡ old) → OnErr result (stored catalog (set tables place new) ≡ seen)
unchanged catalog tables seen name place old new (Ok u) view k at read err = tt
unchanged catalog tables seen name place old new (Err f) view k at read err =
    ap (λ (rows : List RowRecord). stored catalog (set tables place rows)) err ∙ ap (stored catalog) (set-same tables place old (place-low catalog tables name place k at) read) ∙ view

pub inserted-seen : (catalog : List Declaration) (tables : Lists) (seen : TablesRecord) (row : RowRecord) (place : ℕ) (old new : List RowRecord) (result : Result (Unit {0}) RowFault) → stored catalog tables ≡ seen → IsKept catalog tables → row_fault catalog row ≡ None →
    position (declares row.relation) catalog ≡ Some place → old ≡ get_or tables place old → OnOk result (new ≡ rows_with row old) → OnOk result (stored catalog (set tables place new) ≡ with_row row seen)
inserted-seen catalog tables seen row place old new (Ok u) view k fine at read ok =
    let e = set-kept catalog tables row.relation place new k at in
    let is : new ≡ rows_with row (kept_for catalog tables row.relation) = ok ∙ ap (rows_with row) (table-at catalog tables row.relation place old k at read) in
    let rows = with-kept catalog tables row (length row.values) k.tables (apart catalog k.catalog.distinct) (row-fits catalog row fine) in
    let made : stored catalog (set tables place new) ≡ stored catalog (keeping catalog tables row.relation (rows_with row (kept_for catalog tables row.relation))) = ap (stored catalog) (e ∙ ap (keeping catalog tables row.relation) is) in
    let with : with_row row (stored catalog tables) ≡ stored catalog (keeping catalog tables row.relation (rows_with row (kept_for catalog tables row.relation))) = ap (λ (rs : List RowRecord). (let t : TablesRecord = record { catalog = catalog; rows = rs } in t)) rows in
    made ∙ sym with ∙ ap (with_row row) view
inserted-seen catalog tables seen row place old new (Err f) view k fine at read ok = tt

pub deleted-seen : (catalog : List Declaration) (tables : Lists) (seen : TablesRecord) (row : RowRecord) (place : ℕ) (old new : List RowRecord) (result : Result (Unit {0}) RowFault) → stored catalog tables ≡ seen → IsKept catalog tables →
    position (declares row.relation) catalog ≡ Some place → old ≡ get_or tables place old → OnOk result (new ≡ rows_without row.values old) → OnOk result (stored catalog (set tables place new) ≡ without_row row seen)
deleted-seen catalog tables seen row place old new (Ok u) view k at read ok =
    let e = set-kept catalog tables row.relation place new k at in
    let is : new ≡ rows_without row.values (kept_for catalog tables row.relation) = ok ∙ ap (rows_without row.values) (table-at catalog tables row.relation place old k at read) in
    let rows = without-kept catalog tables row k.tables (apart catalog k.catalog.distinct) in
    let made : stored catalog (set tables place new) ≡ stored catalog (keeping catalog tables row.relation (rows_without row.values (kept_for catalog tables row.relation))) = ap (stored catalog) (e ∙ ap (keeping catalog tables row.relation) is) in
    let without : without_row row (stored catalog tables) ≡ stored catalog (keeping catalog tables row.relation (rows_without row.values (kept_for catalog tables row.relation))) = ap (λ (rs : List RowRecord). (let t : TablesRecord = record { catalog = catalog; rows = rs } in t)) rows in
    made ∙ sym without ∙ ap (without_row row) view
deleted-seen catalog tables seen row place old new (Err f) view k at read ok = tt

pub inserted-member : (seen left : TablesRecord) (row : RowRecord) (result : Result (Unit {0}) RowFault) → IsTables seen → row_fault seen.catalog row ≡ None → OnOk result (left ≡ with_row row seen) → OnOk result ((r : RowRecord) → IsRow left r ↔ ((r ≡ row) ⊎ IsRow seen r))
inserted-member seen left row (Ok u) is fine e = λ r. rw e (member-with seen.catalog seen.rows row r (recursion_from_All (IsUnder seen.catalog) seen.rows is.under) (row-fits seen.catalog row fine))
inserted-member seen left row (Err f) is fine e = tt

pub deleted-member : (seen left : TablesRecord) (row : RowRecord) (result : Result (Unit {0}) RowFault) → OnOk result (left ≡ without_row row seen) → OnOk result ((r : RowRecord) → IsRow left r ↔ ((¬ (r ≡ row)) × IsRow seen r))
deleted-member seen left row (Ok u) e = λ r. rw e (member-without seen.rows row r)
deleted-member seen left row (Err f) e = tt

insert_step : (o : Option RowFault) (b : Bool) → o ≡ None → (elim o [ Some fault ↦ Some fault | None ↦ (if b then Some RowPresent else None) ]) ≡ (if b then Some RowPresent else None)
insert_step None b e = refl
insert_step (Some f) b e = absurd cc

delete_step : (o : Option RowFault) (b : Bool) → o ≡ None → (elim o [ Some fault ↦ Some fault | None ↦ (if b then None else Some RowAbsent) ]) ≡ (if b then None else Some RowAbsent)
delete_step None b e = refl
delete_step (Some f) b e = absurd cc

-- why a row is not inserted or deleted, where the catalog has a place for it
pub insert-answer : (seen : TablesRecord) (row : RowRecord) (has : Bool) (result : Result (Unit {0}) RowFault) → row_fault seen.catalog row ≡ None → has ≡ has_row seen row → Answers NoMemory (if has then Some RowPresent else None) tt result → Answers NoMemory (insert_fault seen row) tt result
insert-answer seen row has result fine e h =
    let same : (if has then Some RowPresent else None) ≡ insert_fault seen row = ap (λ (b : Bool). if b then Some RowPresent else None) e ∙ sym (insert_step (row_fault seen.catalog row) (has_row seen row) fine) in
    subst (λ (fault : Option RowFault). Answers NoMemory fault tt result) same h

pub delete-answer : (seen : TablesRecord) (row : RowRecord) (has : Bool) (result : Result (Unit {0}) RowFault) → row_fault seen.catalog row ≡ None → has ≡ has_row seen row → result ≡ answer_of (if has then None else Some RowAbsent) → result ≡ answer_of (delete_fault seen row)
delete-answer seen row has result fine e h =
    let same : (if has then None else Some RowAbsent) ≡ delete_fault seen row = ap (λ (b : Bool). if b then None else Some RowAbsent) e ∙ sym (delete_step (row_fault seen.catalog row) (has_row seen row) fine) in
    h ∙ ap answer_of same

pub fine-seen : (catalog : List Declaration) (tables : Lists) (seen : TablesRecord) (row : RowRecord) → stored catalog tables ≡ seen → row_fault catalog row ≡ None → row_fault seen.catalog row ≡ None
fine-seen catalog tables seen row view fine = sym (ap (λ (t : TablesRecord). row_fault t.catalog row) view) ∙ fine

-- ---- tables without rows

pub joined-none : (tables : Lists) → AllByRecursion (λ (rows : List RowRecord). rows ≡ []) tables → joined tables ≡ []
joined-none [] h = refl
joined-none (t ∷ ts) h = rw (h.0, joined-none ts h.1) refl

kept-empty : (catalog : List Declaration) (tables : Lists) → AllByRecursion (λ (rows : List RowRecord). rows ≡ []) tables → length tables ≡ length catalog → AreKept catalog tables
kept-empty [] [] h e = tt
kept-empty [] (t ∷ ts) h e = absurd (let never : suc (length ts) ≡ 0 = e in omega arith)
kept-empty (d ∷ ds) [] h e = absurd (let never : 0 ≡ suc (length ds) = e in omega arith)
kept-empty (d ∷ ds) (t ∷ ts) h e = (rw (h.0) tt, sorted-from_nil by_values t h.0, kept-empty ds ts h.1 (let same : suc (length ts) ≡ suc (length ds) = e in omega arith))

pub kept-begun : (catalog : List Declaration) (tables : Lists) → IsCatalog catalog → AllByRecursion (λ (rows : List RowRecord). rows ≡ []) tables → length tables ≡ length catalog → IsKept catalog tables
kept-begun catalog tables is h e = record { catalog = is; tables = kept-empty catalog tables h e }

pub none-more : (tables more : Lists) (rows : List RowRecord) → AllByRecursion (λ (rs : List RowRecord). rs ≡ []) tables → rows ≡ [] → more ≡ tables ++ rows ∷ [] → AllByRecursion (λ (rs : List RowRecord). rs ≡ []) more
none-more tables more rows h e made = rw made (all-append (λ (rs : List RowRecord). rs ≡ []) tables (rows ∷ []) h (e, tt))

pub begun : (catalog : List Declaration) (tables : Lists) → AllByRecursion (λ (rows : List RowRecord). rows ≡ []) tables → stored catalog tables ≡ stored catalog []
begun catalog tables h = ap (λ (rs : List RowRecord). (let t : TablesRecord = record { catalog = catalog; rows = rs } in t)) (joined-none tables h)
