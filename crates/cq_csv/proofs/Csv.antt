-- The records of a text, and the faults of records.
use Rattle.std.proofs.Common.{◌≡◌, ◌≤◌, ◌<◌, ℕ, ◌+◌, ◌-◌, suc, zero, List, [], ◌∷◌, ◌++◌, length, map, take, drop, filter_map, nat_le, nat_eq, not, ◌⊎◌, inl, inr, Option, Some, None, Bool, true, false, refl, ap, ◌∙◌, append_assoc, arith, length-append, subst, sym}
use Rattle.std.specs.Str.{IsUtf8, is_utf8}
use Rattle.std.proofs.lemmas.Str.{IsUtf8-from_is_utf8}
use Rattle.std.specs.Prelude.{if◌then◌else◌, Ok, Err, Result, IfOk, IfErr, IfSome, option_map}
use Rattle.std.specs.List.{enumerate_from, cons_option}
use Rattle.std.proofs.lemmas.List.{append-nil, drop-append-le, drop_all, length-drop, map-append, take-append-drop}
use Rattle.std.proofs.lemmas.Bool.{leb-true, leb-false}
use Rattle.csv.specs.Machine.{Read, ends_at_end, field_after, fields_after, is_end, next_record, step}
use Rattle.csv.specs.Reading.{AreRecords, Reached, records, records_from, records_next, strip_bom, is_bom}
use Rattle.csv.specs.Records.{field_at}
use Rattle.csv.specs.declared.parser.Config.{Config}
use Rattle.csv.specs.declared.parser.State.{State}
use Rattle.csv.specs.declared.parser.State.TheVariants as st
use Rattle.cq_atom.specs.Answer.{Answers}
use Rattle.cq_atom.specs.Atom.{RowRecord}
use Rattle.cq_atom.specs.declared.fault.Bad.{Bad}
use Rattle.cq_devices.specs.Device.{ReadWhole}
use Rattle.cq_csv.specs.declared.fault.CsvFault.{CsvFault}
use Rattle.cq_csv.specs.declared.fault.CsvFault.TheVariants.{BadName, BadArity, Device, Width, Text, NoMemory}
use Rattle.cq_csv.specs.declared.fault.Flaw.{Flaw}
use Rattle.cq_csv.specs.declared.fault.Wrong.{Wrong}
use Rattle.cq_csv.specs.declared.fault.Wrong.TheVariants as wrong
use Rattle.cq_csv.specs.declared.layout.Layout.{Layout}
use Rattle.cq_csv.specs.Csv.{AreGood, BeginsInLine, CsvRecord, IfOfRecord, IsFirstFault, csv_records, first_of, first_wrong, field_flaw, flaw_of, is_field, record_fault, records_fault}
use Rattle.cq_csv.specs.Steps.Csv.{fault_at, wrong_of}
use Rattle.std.proofs.lemmas.Bool.{eq-eqb}

-- ---- the records of a text

-- what a read leaves is no longer than n
abbrev LeavesFew : Option Read → ℕ → Type 0
LeavesFew None n = Unit {0}
LeavesFew (Some q) n = length q.2 ≤ n

few-at-end : (b : Bool) (fields : List (List ℕ)) → LeavesFew (if b then Some (fields, st.StartRecord, []) else None) 0
few-at-end true fields = omega arith
few-at-end false fields = tt

few-if : (b : Bool) (fields : List (List ℕ)) (s : State) (rest : List ℕ) (o : Option Read) → LeavesFew o (length rest) → LeavesFew (if b then Some (fields, s, rest) else o) (length rest)
few-if true fields s rest o h = omega arith
few-if false fields s rest o h = h

few-more : (o : Option Read) (n : ℕ) → LeavesFew o n → LeavesFew o (suc n)
few-more None n h = tt
few-more (Some q) n h = omega (arith, h)

not_longer : (cfg : Config) (s : State) (fields : List (List ℕ)) (field : List ℕ) (xs : List ℕ) → LeavesFew (next_record cfg s fields field xs) (length xs)
unfolding next_record
not_longer cfg s fields field [] = few-at-end (ends_at_end s) (fields ++ (field ∷ []))
not_longer cfg s fields field (c ∷ rest) = few-more _ (length rest) (few-if (is_end (step cfg s c).1) _ _ rest _ (not_longer cfg (step cfg s c).0 (fields_after (step cfg s c).1 fields field) (field_after (step cfg s c).1 c field) rest))

-- a record takes a byte at least, where there is one
shorter : (cfg : Config) (s : State) (fields : List (List ℕ)) (field : List ℕ) (c : ℕ) (rest : List ℕ) → LeavesFew (next_record cfg s fields field (c ∷ rest)) (length rest)
unfolding next_record
shorter cfg s fields field c rest = few-if (is_end (step cfg s c).1) _ _ rest _ (not_longer cfg (step cfg s c).0 (fields_after (step cfg s c).1 fields field) (field_after (step cfg s c).1 c field) rest)

few-left : (o : Option Read) (n : ℕ) (q : Read) → LeavesFew o n → o ≡ Some q → length q.2 ≤ n
few-left o n q h e = rw e at h

-- after the end of a text there is no record
pub none-at-start : (cfg : Config) → next_record cfg st.StartRecord [] [] [] ≡ None
unfolding next_record
none-at-start cfg = refl

-- the last record of a text that has no byte left
last-left : (cfg : Config) (s : State) (q : Read) → next_record cfg s [] [] [] ≡ Some q → (q.1 ≡ st.StartRecord) × (q.2 ≡ [])
unfolding next_record
last-left cfg s q e = by (ends_at_end s) e
  where
    by : (b : Bool) → (if b then Some ([] ∷ [], st.StartRecord, []) else None) ≡ Some q → (q.1 ≡ st.StartRecord) × (q.2 ≡ [])
    by true e = (cc e, cc e)
    by false e = cc e

pub none-behind : (cfg : Config) (rows : List CsvRecord) (s2 : State) (ys : List ℕ) → Reached cfg st.StartRecord [] rows s2 ys → rows ≡ []
unfolding Reached
none-behind cfg [] s2 ys h = refl
none-behind cfg (r ∷ rs) s2 ys h = cc (h.1, none-at-start cfg)

-- there are at most as many records as bytes, and one
pub few_records : (cfg : Config) (s : State) (xs : List ℕ) (rows : List CsvRecord) (s2 : State) (ys : List ℕ) → Reached cfg s xs rows s2 ys → length rows ≤ length xs + 1
unfolding Reached
few_records cfg s xs [] s2 ys h = omega arith
few_records cfg s [] (r ∷ rs) s2 ys h =
    let left = last-left cfg s h.0 h.1 in
    let none = none-behind cfg rs s2 ys (rw (left.0, left.1) at h.3) in
    omega (arith, ap length none)
few_records cfg s (c ∷ xs) (r ∷ rs) s2 ys h =
    let left = few-left _ (length xs) h.0 (shorter cfg s [] [] c xs) h.1 in
    omega (arith, left, few_records cfg h.0.1 h.0.2 rs s2 ys h.3)

-- the records of a text begin with those that were read
begins_with : (cfg : Config) (k n : ℕ) (s : State) (xs : List ℕ) (rows : List CsvRecord) (s2 : State) (ys : List ℕ) → k ≡ length rows + n → Reached cfg s xs rows s2 ys
    → records_from cfg k s xs ≡ rows ++ records_from cfg n s2 ys
unfolding Reached records_from
begins_with cfg k n s xs [] s2 ys e h =
    let same : k ≡ n = omega (arith, e) in
    rw (h.0, h.1, same) refl
begins_with cfg zero n s xs (r ∷ rs) s2 ys e h = let never : ⊥ = omega (arith, e) in absurd never
begins_with cfg (suc k) n s xs (r ∷ rs) s2 ys e h = rw (h.1, h.2) (ap (λ (l : List CsvRecord). h.0.0 ∷ l) (begins_with cfg k n h.0.1 h.0.2 rs s2 ys (omega (arith, e)) h.3))

none-more : (cfg : Config) (n : ℕ) (s : State) (ys : List ℕ) → next_record cfg s [] [] ys ≡ None → records_from cfg n s ys ≡ []
unfolding records_from
none-more cfg zero s ys e = refl
none-more cfg (suc n) s ys e = rw e refl

-- records that were read from the start, and what the text has after them
pub record AreFirst (cfg : Config) (xs : List ℕ) (rows : List CsvRecord) : Type 0 where
  pub more : List CsvRecord
  pub whole : records cfg xs ≡ rows ++ more

pub are_first : (cfg : Config) (xs : List ℕ) (rows : List CsvRecord) (s2 : State) (ys : List ℕ) → Reached cfg st.StartRecord xs rows s2 ys → AreFirst cfg xs rows
are_first cfg xs rows s2 ys h =
    let few = few_records cfg st.StartRecord xs rows s2 ys h in
    let n : ℕ = (length xs + 1) - length rows in
    let count : length xs + 1 ≡ length rows + n = omega (arith, few) in
    record { more = records_from cfg n s2 ys; whole = begins_with cfg (length xs + 1) n st.StartRecord xs rows s2 ys count h }

-- they are all, where no record is after them
pub are_all : (cfg : Config) (xs : List ℕ) (rows : List CsvRecord) (s2 : State) (ys : List ℕ) → Reached cfg st.StartRecord xs rows s2 ys → next_record cfg s2 [] [] ys ≡ None → records cfg xs ≡ rows
are_all cfg xs rows s2 ys h none =
    let few = few_records cfg st.StartRecord xs rows s2 ys h in
    let n : ℕ = (length xs + 1) - length rows in
    let count : length xs + 1 ≡ length rows + n = omega (arith, few) in
    begins_with cfg (length xs + 1) n st.StartRecord xs rows s2 ys count h ∙ ap (λ (l : List CsvRecord). rows ++ l) (none-more cfg n s2 ys none) ∙ append-nil rows

-- all records, and none after them
joined : (cfg : Config) (n : ℕ) (s : State) (xs : List ℕ) (o : Option Read) → next_record cfg s [] [] xs ≡ o → ((p : Read) → next_record cfg s [] [] xs ≡ Some p → AreRecords cfg p.1 p.2 (records_from cfg n p.1 p.2))
    → AreRecords cfg s xs (records_next (records_from cfg n) o)
unfolding Reached
joined cfg n s xs None e more = (s, xs, (refl, refl), e)
joined cfg n s xs (Some p) e more =
    let r = more p e in
    (r.0, r.1, (p, e, refl, r.2), r.3)

all_at_end : (cfg : Config) (n : ℕ) → AreRecords cfg st.StartRecord [] (records_from cfg n st.StartRecord [])
unfolding Reached
all_at_end cfg n = rw (none-more cfg n st.StartRecord [] (none-at-start cfg)) (st.StartRecord, [], (refl, refl), none-at-start cfg)

all_behind : (cfg : Config) (n : ℕ) (s : State) (xs : List ℕ) → length xs ≤ n → ((s2 : State) (ys : List ℕ) → length ys < n → AreRecords cfg s2 ys (records_from cfg n s2 ys))
    → (p : Read) → next_record cfg s [] [] xs ≡ Some p → AreRecords cfg p.1 p.2 (records_from cfg n p.1 p.2)
all_behind cfg n s [] h all p e =
    let left = last-left cfg s p e in
    rw (left.0, left.1) (all_at_end cfg n)
all_behind cfg n s (c ∷ rest) h all p e = all p.1 p.2 (omega (arith, h, few-left _ (length rest) p (shorter cfg s [] [] c rest) e))

all_from : (cfg : Config) (n : ℕ) (s : State) (xs : List ℕ) → length xs < n → AreRecords cfg s xs (records_from cfg n s xs)
unfolding records_from
all_from cfg zero s xs h = let never : ⊥ = omega (arith, h) in absurd never
all_from cfg (suc n) s xs h = joined cfg n s xs (next_record cfg s [] [] xs) refl (all_behind cfg n s xs (omega (arith, h)) (all_from cfg n))

pub all_are : (cfg : Config) (xs : List ℕ) → AreRecords cfg st.StartRecord xs (records cfg xs)
all_are cfg xs = all_from cfg (length xs + 1) st.StartRecord xs (omega arith)

-- a record more
reached_more : (cfg : Config) (s : State) (xs : List ℕ) (rows : List CsvRecord) (s2 : State) (ys : List ℕ) (q : Read) → Reached cfg s xs rows s2 ys → next_record cfg s2 [] [] ys ≡ Some q → Reached cfg s xs (rows ++ (q.0 ∷ [])) q.1 q.2
unfolding Reached
reached_more cfg s xs [] s2 ys q h e = (q, rw (h.0, h.1) e, refl, (refl, refl))
reached_more cfg s xs (r ∷ rs) s2 ys q h e = (h.0, h.1, h.2, reached_more cfg h.0.1 h.0.2 rs s2 ys q h.3 e)

-- they are all, where they are more than the bytes
pub are_all_by_count : (cfg : Config) (xs : List ℕ) (rows : List CsvRecord) (s2 : State) (ys : List ℕ) → Reached cfg st.StartRecord xs rows s2 ys → length xs < length rows → records cfg xs ≡ rows
are_all_by_count cfg xs rows s2 ys h many = are_all cfg xs rows s2 ys h (by (next_record cfg s2 [] [] ys) refl)
  where
    by : (o : Option Read) → next_record cfg s2 [] [] ys ≡ o → o ≡ None
    by None e = refl
    by (Some q) e =
        let never : ⊥ = omega (arith, many, length-append rows (q.0 ∷ []), few_records cfg st.StartRecord xs (rows ++ (q.0 ∷ [])) q.1 q.2 (reached_more cfg st.StartRecord xs rows s2 ys q h e)) in
        absurd never

-- a text is no longer without its byte order mark
pub strip_bom-length : (xs : List ℕ) → length (strip_bom xs) ≤ length xs
unfolding strip_bom
strip_bom-length [] = omega arith
strip_bom-length (a ∷ []) = omega arith
strip_bom-length (a ∷ b ∷ []) = omega arith
strip_bom-length (a ∷ b ∷ c ∷ rest) = by (is_bom a b c)
  where
    by : (is : Bool) → length (if is then rest else a ∷ b ∷ c ∷ rest) ≤ suc (suc (suc (length rest)))
    by true = omega arith
    by false = omega arith

-- ---- the first of some with which something is wrong

module _ {X Y : Type 0} (wrong : ℕ × X → Option Y) where
  first_behind : (n : ℕ) (xs ys : List X) → first_of (filter_map wrong (enumerate_from n xs)) ≡ None
      → first_of (filter_map wrong (enumerate_from n (xs ++ ys))) ≡ first_of (filter_map wrong (enumerate_from (n + length xs) ys))
  first_behind n [] ys e = ap (λ (k : ℕ). first_of (filter_map wrong (enumerate_from k ys))) (omega arith)
  first_behind n (x ∷ xs) ys e =
      by (wrong (n, x)) e (first_behind (n + 1) xs ys) ∙ ap (λ (k : ℕ). first_of (filter_map wrong (enumerate_from k ys))) (omega arith)
    where
      by : (o : Option Y) → first_of (cons_option o (filter_map wrong (enumerate_from (n + 1) xs))) ≡ None
          → (first_of (filter_map wrong (enumerate_from (n + 1) xs)) ≡ None → first_of (filter_map wrong (enumerate_from (n + 1) (xs ++ ys))) ≡ first_of (filter_map wrong (enumerate_from ((n + 1) + length xs) ys)))
          → first_of (cons_option o (filter_map wrong (enumerate_from (n + 1) (xs ++ ys)))) ≡ first_of (filter_map wrong (enumerate_from ((n + 1) + length xs) ys))
      by None e more = more e
      by (Some y) e more = cc e

  at_place : (k n : ℕ) (x : X) (more : List X) (o : Option Y) → k ≡ n → wrong (n, x) ≡ o
      → first_of (filter_map wrong (enumerate_from k (x ∷ more))) ≡ first_of (cons_option o (filter_map wrong (enumerate_from (k + 1) more)))
  at_place k n x more o same e =
      ap (λ (p : Option Y). first_of (cons_option p (filter_map wrong (enumerate_from (k + 1) more)))) (ap (λ (m : ℕ). wrong (m, x)) same ∙ e)

  -- one more, with which nothing is
  pub good_more : (read : List X) (n : ℕ) (x : X) → first_wrong wrong read ≡ None → length read ≡ n → wrong (n, x) ≡ None → first_wrong wrong (read ++ (x ∷ [])) ≡ None
  good_more read n x good count e = first_behind 0 read (x ∷ []) good ∙ at_place (0 + length read) n x [] None (omega (arith, count)) e

  -- one behind good ones, with which something is
  pub first_bad : (read : List X) (n : ℕ) (x : X) (more : List X) (y : Y) → first_wrong wrong read ≡ None → length read ≡ n → wrong (n, x) ≡ Some y
      → first_wrong wrong ((read ++ (x ∷ [])) ++ more) ≡ Some y
  first_bad read n x more y good count e =
      ap (first_wrong wrong) (append_assoc read (x ∷ []) more) ∙ first_behind 0 read (x ∷ more) good ∙ at_place (0 + length read) n x more (Some y) (omega (arith, count)) e

-- ---- the faults of records

-- a record of the right width
pub record_good : (arity : ℕ) (fields : CsvRecord) → length fields ≡ arity → first_wrong field_flaw fields ≡ None → wrong_of arity fields ≡ None
record_good arity fields width good = rw (eq-eqb (length fields) arity width, good) refl

-- a record's fault is what is wrong with it, told with its line and its place
told_wrong : (line arity n : ℕ) (fields : CsvRecord) → record_fault line arity (n, fields) ≡ option_map (fault_at line n) (wrong_of arity fields)
told_wrong line arity n fields = by (nat_eq (length fields) arity) (first_wrong field_flaw fields)
  where
    by : (b : Bool) (o : Option (ℕ × Flaw))
        → (if not b then Some (Width line n (length fields)) else option_map (λ f. Text line n f.0 f.1) o)
        ≡ option_map (fault_at line n) (if not b then Some (wrong.Width (length fields)) else option_map (λ f. wrong.Text f.0 f.1) o)
    by false o = refl
    by true None = refl
    by true (Some f) = refl

-- ---- a header in front

-- one record more, of the header or behind it
pub read_more : {R : Type 0} (arity : ℕ) (row : CsvRecord → R) (h : ℕ) (read : List CsvRecord) (r : CsvRecord) (place : ℕ) (rows rows' : List R) → length read ≡ place
    → AreGood arity (drop h read) → rows ≡ map row (drop h read)
    → (h ≤ place → (wrong_of arity r ≡ None) × (rows' ≡ rows ++ (row r ∷ []))) → (place < h → rows' ≡ rows)
    → AreGood arity (drop h (read ++ (r ∷ []))) × (rows' ≡ map row (drop h (read ++ (r ∷ []))))
read_more arity row h read r place rows rows' count good are past within = by (nat_le h place) refl
  where
    by : (b : Bool) → nat_le h place ≡ b → AreGood arity (drop h (read ++ (r ∷ []))) × (rows' ≡ map row (drop h (read ++ (r ∷ []))))
    by true e =
        let low : h ≤ place = leb-true h place e in
        let one = past low in
        let cut = drop-append-le h read (r ∷ []) (omega (arith, low, count)) in
        let more : AreGood arity (drop h read ++ (r ∷ [])) = λ line.
        good_more (record_fault line arity) (drop h read) (place - h) r (good line) (length-drop h read ∙ omega (arith, count)) (told_wrong line arity (place - h) r ∙ ap (option_map (fault_at line (place - h))) one.0)
        in
        rw cut (more, one.1 ∙ ap (λ rs. rs ++ (row r ∷ [])) are ∙ sym (map-append row (drop h read) (r ∷ [])))
    by false e =
        let few : place < h = leb-false h place e in
        let same : drop h (read ++ (r ∷ [])) ≡ drop h read = drop_all h (read ++ (r ∷ [])) (omega (arith, few, count, length-append read (r ∷ []))) ∙ sym (drop_all h read (omega (arith, few, count))) in
        rw same (good, within few ∙ are)

-- the records behind the header, where these are the first ones
cut_behind : (h : ℕ) (read more : List CsvRecord) (r : CsvRecord) (place : ℕ) → length read ≡ place → h ≤ place → drop h ((read ++ (r ∷ [])) ++ more) ≡ (drop h read ++ (r ∷ [])) ++ more
cut_behind h read more r place count low =
    let front = drop-append-le h read (r ∷ []) (omega (arith, low, count)) in
    drop-append-le h (read ++ (r ∷ [])) more (omega (arith, low, count, length-append read (r ∷ []))) ∙ ap (λ (l : List CsvRecord). l ++ more) front

-- a record with which something is wrong, behind the header
pub bad_behind : (line arity h : ℕ) (read more : List CsvRecord) (r : CsvRecord) (place : ℕ) (w : Wrong) → AreGood arity (drop h read) → length read ≡ place → h ≤ place
    → wrong_of arity r ≡ Some w → records_fault line arity (drop h ((read ++ (r ∷ [])) ++ more)) ≡ Some (fault_at line (place - h) w)
bad_behind line arity h read more r place w good count low bad =
    let told = told_wrong line arity (place - h) r ∙ ap (option_map (fault_at line (place - h))) bad in
    ap (records_fault line arity) (cut_behind h read more r place count low) ∙ first_bad (record_fault line arity) (drop h read) (place - h) r more (fault_at line (place - h) w) (good line) (length-drop h read ∙ omega (arith, count)) told

-- its place is that of a record behind the header
pub place_behind : (h : ℕ) (read more : List CsvRecord) (r : CsvRecord) (place : ℕ) → length read ≡ place → h ≤ place → place - h < length (drop h ((read ++ (r ∷ [])) ++ more))
place_behind h read more r place count low =
    let front = drop h read in
    let whole = ap length (cut_behind h read more r place count low) in
    omega (arith, whole, length-append (front ++ (r ∷ [])) more, length-append front (r ∷ []), length-drop h read, count, low)

-- what is told of the first record with which something is wrong
told_first : (arity : ℕ) (layout : Layout) (bytes : List ℕ) (line index : ℕ) (w : Wrong) → records_fault line arity (csv_records layout bytes) ≡ Some (fault_at line index w) → BeginsInLine layout bytes index line
    → IfOfRecord (fault_at line index w) (IsFirstFault arity layout bytes (fault_at line index w))
told_first arity layout bytes line index (wrong.Width fields) is begins = (is, begins)
told_first arity layout bytes line index (wrong.Text field flaw) is begins = (is, begins)
told_first arity layout bytes line index wrong.NoMemory is begins = tt

-- the same, where memory may have run out
pub told_fault : (arity : ℕ) (layout : Layout) (bytes : List ℕ) (index : ℕ) (w : Wrong) (fault : CsvFault) → (w ≡ wrong.NoMemory) ⊎ ((line : ℕ) → records_fault line arity (csv_records layout bytes) ≡ Some (fault_at line index w))
    → (fault ≡ NoMemory) ⊎ ((line : ℕ) × BeginsInLine layout bytes index line × (fault ≡ fault_at line index w)) → IfOfRecord fault (IsFirstFault arity layout bytes fault)
told_fault arity layout bytes index w fault is (inl e) = subst (λ f. IfOfRecord f (IsFirstFault arity layout bytes f)) (sym e) tt
told_fault arity layout bytes index w fault (inl none) (inr p) =
    subst (λ f. IfOfRecord f (IsFirstFault arity layout bytes f)) (sym (p.2 ∙ ap (fault_at p.0 index) none)) tt
told_fault arity layout bytes index w fault (inr is) (inr p) =
    subst (λ f. IfOfRecord f (IsFirstFault arity layout bytes f)) (sym p.2) (told_first arity layout bytes p.0 index w (is p.0) p.1)

-- a field that is a value has no flaw
pub no_flaw : (n : ℕ) (field : List ℕ) → is_field field ≡ true → field_flaw (n, field) ≡ None
no_flaw n field is = rw is refl

pub its_flaw : (n : ℕ) (field : List ℕ) → is_field field ≡ false → field_flaw (n, field) ≡ Some (n, flaw_of field)
its_flaw n field none = rw none refl

-- what a constructor answers that makes a row
pub made_row : (fault : Option Bad) (v row : RowRecord) → Answers {V = RowRecord} Bad.NoMemory fault v (Ok row) → row ≡ v
made_row None v row h = h
made_row (Some fault) v row h = cc h

-- ---- the fields of a record

field_at_front : (fs : CsvRecord) (i : ℕ) (f : List ℕ) → field_at fs i ≡ Some f → take (suc i) fs ≡ take i fs ++ (f ∷ [])
unfolding field_at
field_at_front [] i f e = cc e
field_at_front (g ∷ fs) zero f e = cc e
field_at_front (g ∷ fs) (suc i) f e = ap (λ (l : CsvRecord). g ∷ l) (field_at_front fs i f e)

pub fields_more : (fs : CsvRecord) (i : ℕ) (f : List ℕ) → field_at fs i ≡ Some f → take (i + 1) fs ≡ take i fs ++ (f ∷ [])
fields_more fs i f e =
    let on : i + 1 ≡ suc i = omega arith in
    ap (λ (n : ℕ). take n fs) on ∙ field_at_front fs i f e

pub fields_all : (fs : CsvRecord) (i : ℕ) → field_at fs i ≡ None → take i fs ≡ fs
unfolding field_at
fields_all [] zero e = refl
fields_all [] (suc i) e = refl
fields_all (g ∷ fs) zero e = cc e
fields_all (g ∷ fs) (suc i) e = ap (λ (l : CsvRecord). g ∷ l) (fields_all fs i e)

-- the fields from one on
pub fields_from : (fs : CsvRecord) (i : ℕ) (f : List ℕ) → field_at fs i ≡ Some f → fs ≡ (take i fs ++ (f ∷ [])) ++ drop (i + 1) fs
fields_from fs i f e = sym (take-append-drop (i + 1) fs) ∙ ap (λ (l : CsvRecord). l ++ drop (i + 1) fs) (fields_more fs i f e)

module _ {V : Type 0} (h : List ℕ → Option V) where
  pub values_more : (fs : CsvRecord) (i : ℕ) (f : List ℕ) (v : V) → field_at fs i ≡ Some f → h f ≡ Some v → filter_map h (take (i + 1) fs) ≡ filter_map h (take i fs) ++ (v ∷ [])
  values_more fs i f v e is = ap (filter_map h) (fields_more fs i f e) ∙ by (take i fs)
    where
      by : (l : CsvRecord) → filter_map h (l ++ (f ∷ [])) ≡ filter_map h l ++ (v ∷ [])
      by [] = rw is refl
      by (g ∷ l) = on (h g) (by l)
        where
          on : (o : Option V) → filter_map h (l ++ (f ∷ [])) ≡ filter_map h l ++ (v ∷ []) → cons_option o (filter_map h (l ++ (f ∷ []))) ≡ cons_option o (filter_map h l) ++ (v ∷ [])
          on None e = e
          on (Some w) e = ap (λ (vs : List V). w ∷ vs) e

-- ---- what was read

-- what holds of all bytes that were read holds of the bytes that the source reported
of_input : (left left' : Option (List ℕ)) (bytes : List ℕ) (P : List ℕ → Type 0) → ReadWhole left left' bytes → P bytes → IfSome left P
of_input None left' bytes P whole p = tt
of_input (Some input) None bytes P whole p = absurd whole.read
of_input (Some input) (Some rest) bytes P whole p =
    let is : input ≡ bytes = whole.read ∙ ap (λ (r : List ℕ). bytes ++ r) whole.at_end ∙ append-nil bytes in
    subst P (sym is) p

module _ (left left' : Option (List ℕ)) (bytes : List ℕ) (whole : ReadWhole left left' bytes) where
  pub rows_of_input : {V : Type 0} (r : Result V CsvFault) (Q : V → List ℕ → Type 0) → IfOk r (λ v. Q v bytes) → IfOk r (λ v. IfSome left (Q v))
  rows_of_input (Ok v) Q h = of_input left left' bytes (Q v) whole h
  rows_of_input (Err fault) Q h = tt

  pub fault_of_input : {V : Type 0} (r : Result V CsvFault) (Q : CsvFault → List ℕ → Type 0) → IfErr r (λ fault. IfOfRecord fault (Q fault bytes)) → IfErr r (λ fault. IfOfRecord fault (IfSome left (Q fault)))
  fault_of_input (Ok v) Q h = tt
  fault_of_input (Err BadName) Q h = tt
  fault_of_input (Err BadArity) Q h = tt
  fault_of_input (Err (Device turn)) Q h = tt
  fault_of_input (Err (Width line index fields)) Q h = of_input left left' bytes (Q (Width line index fields)) whole h
  fault_of_input (Err (Text line index field flaw)) Q h = of_input left left' bytes (Q (Text line index field flaw)) whole h
  fault_of_input (Err NoMemory) Q h = tt

-- ---- UTF-8

pub no_utf8 : (bs : List ℕ) → (IsUtf8 bs → ⊥) → is_utf8 bs ≡ false
no_utf8 bs none = by (is_utf8 bs) refl
  where
    by : (b : Bool) → is_utf8 bs ≡ b → b ≡ false
    by true e = absurd (none (IsUtf8-from_is_utf8 bs e))
    by false e = refl
