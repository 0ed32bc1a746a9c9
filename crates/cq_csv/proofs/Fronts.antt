-- Lines in front of bytes, and in which of them a record begins.
use Rattle.std.proofs.Common.{◌≡◌, ◌≤◌, ◌<◌, ℕ, ◌+◌, ◌-◌, suc, zero, List, [], ◌∷◌, ◌++◌, length, take, drop, get_or, ◌==◌, ◌&&◌, ◌⊎◌, inl, inr, Option, Some, None, Bool, true, false, refl, ap, ◌∙◌, append_assoc, arith, length-append, subst, sym}
use Rattle.std.specs.Prelude.{if◌then◌else◌}
use Rattle.std.proofs.lemmas.List.{drop_all, drop_more, length-drop, take_more}
use Rattle.std.proofs.lemmas.Bool.{eqb-true}
use Rattle.csv.specs.Machine.{Read, after_end, ends_at_end, ends_with, field_after, fields_after, is_end, next_record, step}
use Rattle.csv.specs.Reading.{Reached, records, records_from, strip_bom, is_bom}
use Rattle.csv.specs.declared.parser.Action.{Action}
use Rattle.csv.specs.declared.parser.Action.TheVariants as act
use Rattle.csv.specs.declared.parser.State.{State}
use Rattle.csv.specs.declared.parser.State.TheVariants as st
use Rattle.csv.specs.declared.parser.Terminator.TheVariants as term
use Rattle.cq_csv.specs.declared.layout.Layout.{Layout}
use Rattle.cq_csv.specs.Csv.{BeginsInLine, CsvRecord, config_of, csv_records, first_lines, header_count}
use Rattle.cq_csv.proofs.Csv.{all_are, are_first, none-at-start, none-behind}

-- ---- one line more

-- no line has no byte
pub no_lines : (bytes : List ℕ) → first_lines 0 bytes ≡ []
no_lines [] = refl
no_lines (b ∷ bytes) = refl

-- no byte has no record
pub no_records : (layout : Layout) → csv_records layout [] ≡ []
unfolding strip_bom records_from
no_records layout = rw (none-at-start (config_of layout)) (drop_all {X = CsvRecord} (header_count layout) [] (omega arith))

-- bytes that have a record have a line
pub some_lines : (layout : Layout) (bytes : List ℕ) (index lines : ℕ) → first_lines lines bytes ≡ bytes → index < length (csv_records layout bytes) → 0 < lines
some_lines layout bytes index zero all some =
    let none : length (csv_records layout bytes) ≡ 0 = ap (λ (bs : List ℕ). length (csv_records layout bs)) (sym all ∙ no_lines bytes) ∙ ap length (no_records layout) in
    let never : ⊥ = omega (arith, none, some) in
    absurd never
some_lines layout bytes index (suc lines) all some = omega arith

-- one byte more of these lines
line_step : (n b : ℕ) (bytes : List ℕ) → 0 < n → first_lines n (b ∷ bytes) ≡ b ∷ first_lines (if b == 10 then n - 1 else n) bytes
line_step n b bytes some = by (n == 0) refl
  where
    by : (none : Bool) → (n == 0) ≡ none → (if none then [] else b ∷ first_lines (if b == 10 then n - 1 else n) bytes) ≡ b ∷ first_lines (if b == 10 then n - 1 else n) bytes
    by true e = let never : ⊥ = omega (arith, some, eqb-true n 0 e) in absurd never
    by false e = refl

-- the same behind the first bytes
lines_more : (xs : List ℕ) (i n : ℕ) → i < length xs → 0 < n → take i xs ++ first_lines n (drop i xs) ≡ take (i + 1) xs ++ first_lines (if get_or xs i 0 == 10 then n - 1 else n) (drop (i + 1) xs)
lines_more xs i n within some =
    let b = get_or xs i 0 in
    let rest = first_lines (if b == 10 then n - 1 else n) (drop (i + 1) xs) in
    ap (λ (l : List ℕ). take i xs ++ first_lines n l) (drop_more xs i 0 within) ∙ ap (λ (l : List ℕ). take i xs ++ l) (line_step n b (drop (i + 1) xs) some)
    ∙ sym (append_assoc (take i xs) (b ∷ []) rest) ∙ ap (λ (l : List ℕ). l ++ rest) (sym (take_more xs i 0 within))

-- a line ends behind an LF
pub line_ended : (xs : List ℕ) (i n : ℕ) → i < length xs → get_or xs i 0 ≡ 10 → take i xs ++ first_lines (n + 1) (drop i xs) ≡ take (i + 1) xs ++ first_lines n (drop (i + 1) xs)
line_ended xs i n within is = lines_more xs i (n + 1) within (omega arith) ∙ ap (λ (m : ℕ). take (i + 1) xs ++ first_lines m (drop (i + 1) xs)) fewer
  where
    fewer : (if get_or xs i 0 == 10 then (n + 1) - 1 else n + 1) ≡ n
    fewer = rw is (omega arith)

-- and goes on behind another byte
pub line_goes_on : (xs : List ℕ) (i n : ℕ) → i < length xs → (get_or xs i 0 ≡ 10 → ⊥) → 0 < n → take i xs ++ first_lines n (drop i xs) ≡ take (i + 1) xs ++ first_lines n (drop (i + 1) xs)
line_goes_on xs i n within other some = lines_more xs i n within some ∙ ap (λ (m : ℕ). take (i + 1) xs ++ first_lines m (drop (i + 1) xs)) (by (get_or xs i 0 == 10) refl)
  where
    by : (is : Bool) → (get_or xs i 0 == 10) ≡ is → (if is then n - 1 else n) ≡ n
    by true e = absurd (other (eqb-true (get_or xs i 0) 10 e))
    by false e = refl

-- ---- a record is open until it ends

-- the state is no comment's
abbrev is_clean : State → Bool
is_clean st.StartRecord = true
is_clean st.StartField = true
is_clean st.InField = true
is_clean st.InQuoted = true
is_clean st.AfterQuote = true
is_clean st.InEscape = true
is_clean st.InComment = false
is_clean st.AfterCr = true

-- the state is inside a record
abbrev is_inside : State → Bool
is_inside st.StartRecord = false
is_inside st.StartField = true
is_inside st.InField = true
is_inside st.InQuoted = true
is_inside st.AfterQuote = true
is_inside st.InEscape = true
is_inside st.InComment = false
is_inside st.AfterCr = false

inside_at_end : (s : State) → is_clean s ≡ true → ends_at_end s ≡ true → is_inside s ≡ true
inside_at_end st.StartRecord clean e = e
inside_at_end st.StartField clean e = refl
inside_at_end st.InField clean e = refl
inside_at_end st.InQuoted clean e = refl
inside_at_end st.AfterQuote clean e = refl
inside_at_end st.InEscape clean e = refl
inside_at_end st.InComment clean e = clean
inside_at_end st.AfterCr clean e = e

ends_inside : (s : State) → is_inside s ≡ true → ends_at_end s ≡ true
ends_inside st.StartRecord e = e
ends_inside st.StartField e = refl
ends_inside st.InField e = refl
ends_inside st.InQuoted e = refl
ends_inside st.AfterQuote e = refl
ends_inside st.InEscape e = refl
ends_inside st.InComment e = refl
ends_inside st.AfterCr e = e

-- a byte ends the record, or is inside it
abbrev Goes : State × Action → Type 0
Goes p = (is_end p.1 ≡ true) ⊎ (is_inside p.0 ≡ true)

abbrev Clean : State × Action → Type 0
Clean p = is_clean p.0 ≡ true

-- what a byte does in a field, by which byte it is
abbrev in_field_by : Bool → Bool → State → State × Action
in_field_by parts ends t = if parts then (st.StartField, act.EndField) else if ends then (t, act.EndRecord) else (st.InField, act.Copy)

goes_in_field : (parts ends : Bool) (t : State) → Goes (in_field_by parts ends t)
goes_in_field true ends t = inr refl
goes_in_field false true t = inl refl
goes_in_field false false t = inr refl

goes_if : (b : Bool) (p q : State × Action) → Goes p → Goes q → Goes (if b then p else q)
goes_if true p q g h = g
goes_if false p q g h = h

clean_if : (b : Bool) (p q : State × Action) → Clean p → Clean q → Clean (if b then p else q)
clean_if true p q g h = g
clean_if false p q g h = h

clean_end : (b : Bool) → is_clean (if b then st.AfterCr else st.StartRecord) ≡ true
clean_end true = refl
clean_end false = refl

clean_in_field : (parts ends : Bool) (t : State) → is_clean t ≡ true → Clean (in_field_by parts ends t)
clean_in_field true ends t e = refl
clean_in_field false true t e = e
clean_in_field false false t e = refl

goes_on : (layout : Layout) (s : State) (c : ℕ) → is_inside s ≡ true → Goes (step (config_of layout) s c)
goes_on layout st.StartRecord c e = inl (cc e)
goes_on layout st.StartField c e = goes_if (c == 34) (st.InQuoted, act.Skip) _ (inr refl) (goes_in_field (c == layout.delimiter) (ends_with term.CRLF c) (after_end term.CRLF c))
goes_on layout st.InField c e = goes_in_field (c == layout.delimiter) (ends_with term.CRLF c) (after_end term.CRLF c)
goes_on layout st.InQuoted c e = goes_if (c == 34) (st.AfterQuote, act.Skip) (st.InQuoted, act.Copy) (inr refl) (inr refl)
goes_on layout st.InEscape c e = inr refl
goes_on layout st.AfterQuote c e = goes_if (c == 34) (st.InQuoted, act.Copy) _ (inr refl) (goes_in_field (c == layout.delimiter) (ends_with term.CRLF c) (after_end term.CRLF c))
goes_on layout st.InComment c e = inl (cc e)
goes_on layout st.AfterCr c e = inl (cc e)

-- no byte begins a comment
clean_field : (layout : Layout) (c : ℕ) → Clean (step (config_of layout) st.InField c)
clean_field layout c = clean_in_field (c == layout.delimiter) (ends_with term.CRLF c) (after_end term.CRLF c) (clean_end (c == 13))

clean_start : (layout : Layout) (c : ℕ) → Clean (step (config_of layout) st.StartRecord c)
clean_start layout c = clean_if (ends_with term.CRLF c) (st.StartRecord, act.Skip) _ refl (clean_if (c == 34) (st.InQuoted, act.Skip) _ refl (clean_field layout c))

clean_on : (layout : Layout) (s : State) (c : ℕ) → is_clean s ≡ true → Clean (step (config_of layout) s c)
clean_on layout st.StartRecord c e = clean_start layout c
clean_on layout st.StartField c e = clean_if (c == 34) (st.InQuoted, act.Skip) _ refl (clean_field layout c)
clean_on layout st.InField c e = clean_field layout c
clean_on layout st.InQuoted c e = clean_if (c == 34) (st.AfterQuote, act.Skip) (st.InQuoted, act.Copy) refl refl
clean_on layout st.InEscape c e = refl
clean_on layout st.AfterQuote c e = clean_if (c == 34) (st.InQuoted, act.Copy) _ refl (clean_field layout c)
clean_on layout st.InComment c e = cc e
clean_on layout st.AfterCr c e = clean_if (c == 10) (st.StartRecord, act.Skip) _ refl (clean_start layout c)

-- there is such a read
abbrev Reads : Option Read → Type 0
Reads o = (q : Read) × (o ≡ Some q)

reads_if : (b : Bool) (q : Read) (o : Option Read) → (b ≡ true) ⊎ Reads o → Reads (if b then Some q else o)
reads_if true q o h = (q, refl)
reads_if false q o (inl e) = cc e
reads_if false q o (inr h) = h

goes_either : (p : State × Action) (o : Option Read) → Goes p → (is_inside p.0 ≡ true → Reads o) → (is_end p.1 ≡ true) ⊎ Reads o
goes_either p o (inl e) h = inl e
goes_either p o (inr e) h = inr (h e)

-- an open record is read, whatever comes
open_is_read : (layout : Layout) (s : State) (fields : List (List ℕ)) (field : List ℕ) (ys : List ℕ) → is_inside s ≡ true → Reads (next_record (config_of layout) s fields field ys)
unfolding next_record
open_is_read layout s fields field [] inside = reads_if (ends_at_end s) _ None (inl (ends_inside s inside))
open_is_read layout s fields field (c ∷ ys) inside =
    let p = step (config_of layout) s c in
    reads_if (is_end p.1) _ _ (goes_either p _ (goes_on layout s c inside) (open_is_read layout p.0 (fields_after p.1 fields field) (field_after p.1 c field) ys))

-- what a read of the front of a text is in the whole text: that of the same record, or the record was cut off there
abbrev InWhole : Option Read → List ℕ → Read → Type 0
InWhole o ys p = ((o ≡ Some (p.0, p.1, p.2 ++ ys)) × (is_clean p.1 ≡ true)) ⊎ ((p.1 ≡ st.StartRecord) × (p.2 ≡ []) × Reads o)

cut_off : (layout : Layout) (s : State) (fields : List (List ℕ)) (field : List ℕ) (ys : List ℕ) (p : Read) → is_clean s ≡ true → (b : Bool) → ends_at_end s ≡ b
    → (if b then Some (fields ++ (field ∷ []), st.StartRecord, []) else None) ≡ Some p → InWhole (next_record (config_of layout) s fields field ys) ys p
cut_off layout s fields field ys p clean true ends e = inr (cc e, cc e, open_is_read layout s fields field ys (inside_at_end s clean ends))
cut_off layout s fields field ys p clean false ends e = cc e

ended : (b : Bool) (x : Read) (o o' : Option Read) (ys : List ℕ) (p : Read) → is_clean x.1 ≡ true → (o ≡ Some p → InWhole o' ys p)
    → (if b then Some x else o) ≡ Some p → InWhole (if b then Some (x.0, x.1, x.2 ++ ys) else o') ys p
ended true x o o' ys p clean more e =
    let is : x ≡ p = cc e in
    inl (ap (λ (q : Read). Some (q.0, q.1, q.2 ++ ys)) is, subst (λ (q : Read). is_clean q.1 ≡ true) is clean)
ended false x o o' ys p clean more e = more e

in_whole : (layout : Layout) (s : State) (fields : List (List ℕ)) (field : List ℕ) (xs ys : List ℕ) (p : Read) → is_clean s ≡ true → next_record (config_of layout) s fields field xs ≡ Some p
    → InWhole (next_record (config_of layout) s fields field (xs ++ ys)) ys p
unfolding next_record
in_whole layout s fields field [] ys p clean e = cut_off layout s fields field ys p clean (ends_at_end s) refl e
in_whole layout s fields field (c ∷ xs) ys p clean e =
    let q = step (config_of layout) s c in
    let fields' = fields_after q.1 fields field in
    ended (is_end q.1) (fields', q.0, xs) _ _ ys p (clean_on layout s c clean) (in_whole layout q.0 fields' (field_after q.1 c field) xs ys p (clean_on layout s c clean)) e

-- a longer text has as many records at least
abbrev HasAsMany : Layout → State → List ℕ → ℕ → Type 0
HasAsMany layout s xs n = (rows : List CsvRecord) × (s2 : State) × (rest : List ℕ) × Reached (config_of layout) s xs rows s2 rest × (n ≤ length rows)

one_more : (layout : Layout) (s : State) (xs ys : List ℕ) (rs : List CsvRecord) (p : Read) (s2 : State) (rest : List ℕ)
    → Reached (config_of layout) p.1 p.2 rs s2 rest → (is_clean p.1 ≡ true → HasAsMany layout p.1 (p.2 ++ ys) (length rs))
    → InWhole (next_record (config_of layout) s [] [] xs) ys p → HasAsMany layout s xs (suc (length rs))
unfolding Reached
one_more layout s xs ys rs p s2 rest reached more (inl h) =
    let m = more h.1 in
    (p.0 ∷ m.0, m.1, m.2, ((p.0, p.1, p.2 ++ ys), h.0, refl, m.3), omega (arith, m.4))
one_more layout s xs ys rs p s2 rest reached more (inr h) =
    let q = h.2.0 in
    let none = none-behind (config_of layout) rs s2 rest (rw (h.0, h.1) at reached) in
    (q.0 ∷ [], q.1, q.2, (q, h.2.1, refl, (refl, refl)), omega (arith, ap length none))

has_as_many : (layout : Layout) (s : State) (xs ys : List ℕ) (rows : List CsvRecord) (s2 : State) (rest : List ℕ) → is_clean s ≡ true → Reached (config_of layout) s xs rows s2 rest
    → HasAsMany layout s (xs ++ ys) (length rows)
unfolding Reached
has_as_many layout s xs ys [] s2 rest clean h = ([], s, xs ++ ys, (refl, refl), omega arith)
has_as_many layout s xs ys (r ∷ rs) s2 rest clean h =
    one_more layout s (xs ++ ys) ys rs h.0 s2 rest h.3 (λ c. has_as_many layout h.0.1 h.0.2 ys rs s2 rest c h.3) (in_whole layout s [] [] xs ys h.0 clean h.1)

count_grows : (layout : Layout) (xs ys : List ℕ) → length (records (config_of layout) xs) ≤ length (records (config_of layout) (xs ++ ys))
count_grows layout xs ys =
    let all = all_are (config_of layout) xs in
    let m = has_as_many layout st.StartRecord xs ys (records (config_of layout) xs) all.0 all.1 refl all.2 in
    let first = are_first (config_of layout) (xs ++ ys) m.0 m.1 m.2 m.3 in
    omega (arith, m.4, ap length first.whole, length-append m.0 first.more)

-- ---- more lines have as many records at least

some_if : (n : ℕ) → (n == 0) ≡ false → 0 < n
some_if zero e = cc e
some_if (suc n) e = omega arith

fewer_left : (is : Bool) (n m : ℕ) → n ≤ m → (if is then n - 1 else n) ≤ (if is then m - 1 else m)
fewer_left true n m h = omega (arith, h)
fewer_left false n m h = h

-- more lines begin with the fewer ones
more_lines : (n m : ℕ) (bytes : List ℕ) → n ≤ m → (more : List ℕ) × (first_lines m bytes ≡ first_lines n bytes ++ more)
more_lines n m [] h = ([], refl)
more_lines n m (b ∷ bytes) h = by (n == 0) refl (more_lines (if b == 10 then n - 1 else n) (if b == 10 then m - 1 else m) bytes (fewer_left (b == 10) n m h))
  where
    by : (none : Bool) → (n == 0) ≡ none
        → (more : List ℕ) × (first_lines (if b == 10 then m - 1 else m) bytes ≡ first_lines (if b == 10 then n - 1 else n) bytes ++ more)
        → (more : List ℕ) × (first_lines m (b ∷ bytes) ≡ (if none then [] else b ∷ first_lines (if b == 10 then n - 1 else n) bytes) ++ more)
    by true e rest = (first_lines m (b ∷ bytes), refl)
    by false e rest = (rest.0, line_step m b bytes (omega (arith, some_if n e, h)) ∙ ap (λ (l : List ℕ). b ∷ l) rest.1)

-- a byte order mark stands within the first line
no_mark : (a b c : ℕ) (none few : Bool) (rest : List ℕ) → is_bom a b c ≡ false → strip_bom (a ∷ (if none then [] else b ∷ (if few then [] else c ∷ rest))) ≡ a ∷ (if none then [] else b ∷ (if few then [] else c ∷ rest))
unfolding strip_bom
no_mark a b c true few rest e = refl
no_mark a b c false true rest e = refl
no_mark a b c false false rest e = rw e refl

short_mark : (a b : ℕ) (none : Bool) → strip_bom (a ∷ (if none then [] else b ∷ [])) ≡ a ∷ (if none then [] else b ∷ [])
unfolding strip_bom
short_mark a b true = refl
short_mark a b false = refl

other_step : (n b : ℕ) (bytes : List ℕ) → 0 < n → (b == 10) ≡ false → first_lines n (b ∷ bytes) ≡ b ∷ first_lines n bytes
other_step n b bytes some other = line_step n b bytes some ∙ ap (λ (is : Bool). b ∷ first_lines (if is then n - 1 else n) bytes) other

its_mark : (n : ℕ) (rest : List ℕ) → 0 < n → first_lines n (239 ∷ 187 ∷ 191 ∷ rest) ≡ 239 ∷ 187 ∷ 191 ∷ first_lines n rest
its_mark n rest some =
    other_step n 239 (187 ∷ 191 ∷ rest) some refl ∙ ap (λ (l : List ℕ). 239 ∷ l) (other_step n 187 (191 ∷ rest) some refl ∙ ap (λ (l : List ℕ). 187 ∷ l) (other_step n 191 rest some refl))

strip_mark : (a b c : ℕ) (rest : List ℕ) (is : Bool) → is_bom a b c ≡ is → strip_bom (a ∷ b ∷ c ∷ rest) ≡ (if is then rest else a ∷ b ∷ c ∷ rest)
unfolding strip_bom
strip_mark a b c rest is e = ap (λ (is : Bool). if is then rest else a ∷ b ∷ c ∷ rest) e

marked : (a b c : ℕ) → is_bom a b c ≡ true → (a ≡ 239) × (b ≡ 187) × (c ≡ 191)
marked a b c e = by (a == 239) (b == 187) (c == 191) refl refl refl e
  where
    by : (p q r : Bool) → (a == 239) ≡ p → (b == 187) ≡ q → (c == 191) ≡ r → ((p && q) && r) ≡ true → (a ≡ 239) × (b ≡ 187) × (c ≡ 191)
    by true true true p q r e = (eqb-true a 239 p, eqb-true b 187 q, eqb-true c 191 r)
    by true true false p q r e = cc e
    by true false true p q r e = cc e
    by true false false p q r e = cc e
    by false q' true p q r e = cc e
    by false q' false p q r e = cc e

strip_lines : (n : ℕ) (bytes : List ℕ) → 0 < n → strip_bom (first_lines n bytes) ≡ first_lines n (strip_bom bytes)
unfolding strip_bom
strip_lines n [] some = refl
strip_lines n (a ∷ []) some = rw (line_step n a [] some) refl
strip_lines n (a ∷ b ∷ []) some = rw (line_step n a (b ∷ []) some) (short_mark a b ((if a == 10 then n - 1 else n) == 0))
strip_lines n (a ∷ b ∷ c ∷ rest) some = by (is_bom a b c) refl
  where
    by : (is : Bool) → is_bom a b c ≡ is → strip_bom (first_lines n (a ∷ b ∷ c ∷ rest)) ≡ first_lines n (strip_bom (a ∷ b ∷ c ∷ rest))
    by true e =
        let m = marked a b c e in
        rw (strip_mark a b c rest true e, m.0, m.1, m.2, its_mark n rest some) refl
    by false e =
        rw (strip_mark a b c rest false e, line_step n a (b ∷ c ∷ rest) some) (no_mark a b c _ _ _ e)

lines_count : (layout : Layout) (n m : ℕ) (bytes : List ℕ) → n ≤ m → length (csv_records layout (first_lines n bytes)) ≤ length (csv_records layout (first_lines m bytes))
lines_count layout zero m bytes h =
    let none : length (csv_records layout (first_lines 0 bytes)) ≡ 0 = ap (λ (bs : List ℕ). length (csv_records layout bs)) (no_lines bytes) ∙ ap length (no_records layout) in
    omega (arith, none)
lines_count layout (suc n) m bytes h =
    let h1 = header_count layout in
    let text = strip_bom bytes in
    let more = more_lines (suc n) m text h in
    let cfg = config_of layout in
    let few = ap (λ (l : List ℕ). length (records cfg l)) (strip_lines (suc n) bytes (omega arith)) in
    let many = ap (λ (l : List ℕ). length (records cfg l)) (strip_lines m bytes (omega (arith, h)) ∙ more.1) in
    let grows = count_grows layout (first_lines (suc n) text) more.0 in
    omega (arith, few, many, grows, length-drop h1 (records cfg (strip_bom (first_lines (suc n) bytes))), length-drop h1 (records cfg (strip_bom (first_lines m bytes))))

-- a record begins in no later line
not_later : (layout : Layout) (bytes : List ℕ) (index m n : ℕ) → BeginsInLine layout bytes index m → BeginsInLine layout bytes index n → m < n → ⊥
not_later layout bytes index m n first second later = omega (arith, first.within, second.before, lines_count layout m (n - 1) bytes (omega (arith, later)))

pub one_line : (layout : Layout) (bytes : List ℕ) (index m n : ℕ) → BeginsInLine layout bytes index m → BeginsInLine layout bytes index n → m ≡ n
one_line layout bytes index m n first second = grind (arith, not_later layout bytes index m n first second, not_later layout bytes index n m second first)
