-- Sheets: batches that grow, and their replies.
use Rattle.std.proofs.Common.{◌≡◌, ℕ, suc, ◌+◌, ◌<◌, List, [], ◌∷◌, ◌++◌, Option, Some, None, length, map, refl, sym, ap, subst, ◌∙◌, append_assoc, append-nil, length-append, arith}
use Rattle.cq_board.specs.declared.edit.Why.{Why}
use Rattle.cq_board.specs.Pool.{PoolRecord}
use Rattle.cq_atom.specs.Edit.{Edit}
use Rattle.cq_desk.specs.declared.reply.Reply.{Reply}
use Rattle.cq_desk.specs.declared.reply.Reply.TheVariants.{Entered, JournalFull, Not}
use Rattle.cq_sessions.specs.declared.sheet.Line.{Line}
use Rattle.cq_sessions.specs.declared.sheet.Line.TheVariants.{Told, Asks}
use Rattle.cq_text.specs.declared.command.CommandKind.TheVariants as commands
use Rattle.cq_text.specs.declared.form.Form.{Form}
use Rattle.cq_report.specs.Lines.{lines_of}
use Rattle.cq_report.specs.Reading.{Reading, Reads, AreReadIn}
use Rattle.cq_sessions.specs.Script.{Sheet}
use Rattle.cq_report.specs.declared.outcome.Outcome.TheVariants as outcomes
use Rattle.cq_report.specs.Reply.{reply_outcome, outcome_line}
use Rattle.cq_sessions.specs.Sessions.{Served, entered}
use Rattle.cq_report.specs.Lines.{HasNoEnd}
use Rattle.cq_sessions.specs.Steps.Sheets.{SheetRecord, blank, numbers_of, told_in, asks, filled, whole, IsEven, Onward, LineServed, BytesServed, ServedTo}
use Rattle.cq_sessions.specs.Steps.Clients.{Submits, Ends}
use Rattle.cq_sessions.specs.Steps.Rooms.{LeavesFile}
use Rattle.cq_report.proofs.CallerLemmas.{lines_of_ended, lines_of_open}
use Rattle.cq_sessions.proofs.Turns.{mapped}

-- ---- batches

filled-told : (batch : List (Line (List ℕ))) (told : Option (List ℕ)) (rs : List (Reply Why)) → filled (batch ++ Told told ∷ []) rs ≡ filled batch rs ++ told ∷ []
filled-told [] told rs = refl
filled-told (Told reply ∷ batch) told rs = ap (λ (sheet : Sheet). reply ∷ sheet) (filled-told batch told rs)
filled-told (Asks ∷ batch) told [] = ap (λ (sheet : Sheet). None ∷ sheet) (filled-told batch told [])
filled-told (Asks ∷ batch) told (r ∷ rs) = ap (λ (sheet : Sheet). Some (outcome_line (reply_outcome r)) ∷ sheet) (filled-told batch told rs)

filled-asks : (batch : List (Line (List ℕ))) (rs : List (Reply Why)) (r : Reply Why) → asks batch ≡ length rs → filled (batch ++ Asks ∷ []) (rs ++ r ∷ []) ≡ filled batch rs ++ Some (outcome_line (reply_outcome r)) ∷ []
filled-asks [] [] r e = refl
filled-asks [] (s ∷ rs) r e = absurd (omega (arith, e))
filled-asks (Told reply ∷ batch) rs r e = ap (λ (sheet : Sheet). reply ∷ sheet) (filled-asks batch rs r e)
filled-asks (Asks ∷ batch) [] r e = absurd (omega (arith, e))
filled-asks (Asks ∷ batch) (s ∷ rs) r e = ap (λ (sheet : Sheet). Some (outcome_line (reply_outcome s)) ∷ sheet) (filled-asks batch rs r (omega (arith, e)))

asks-told : (batch : List (Line (List ℕ))) (told : Option (List ℕ)) → asks (batch ++ Told told ∷ []) ≡ asks batch
asks-told [] told = refl
asks-told (Told reply ∷ batch) told = asks-told batch told
asks-told (Asks ∷ batch) told = ap suc (asks-told batch told)

asks-asks : (batch : List (Line (List ℕ))) → asks (batch ++ Asks ∷ []) ≡ suc (asks batch)
asks-asks [] = refl
asks-asks (Told reply ∷ batch) = asks-asks batch
asks-asks (Asks ∷ batch) = ap suc (asks-asks batch)

-- a line of the batch more
pub filled_on : {T : Type 0} (f : Option T → Option (List ℕ)) (h : Line T → Line (List ℕ)) (old new : List (Option T)) (reply : Option T) (items items1 : List (Line T)) (line : Line T) (r0 r1 : List (Reply Why)) (all : Sheet)
    → new ≡ old ++ reply ∷ [] → items ≡ line ∷ items1 → filled (h line ∷ map h items1) r0 ≡ f reply ∷ filled (map h items1) r1 → map f old ++ filled (map h items) r0 ≡ all → map f new ++ filled (map h items1) r1 ≡ all
filled_on f h old new reply items items1 line r0 r1 all is steps fills inv =
    ap (λ (z : Sheet). z ++ filled (map h items1) r1) (mapped f old new reply is) ∙ append_assoc (map f old) (f reply ∷ []) (filled (map h items1) r1)
    ∙ ap (λ (z : Sheet). map f old ++ z) (sym fills) ∙ ap (λ z. map f old ++ filled (map h z) r0) (sym steps) ∙ inv

-- a list that is not empty, by its last item
record Last {X : Type 0} (xs : List X) : Type 0 where
  front : List X
  last : X
  is : xs ≡ front ++ last ∷ []

last_of : {X : Type 0} (x : X) (xs : List X) → Last (x ∷ xs)
last_of x [] = record { front = []; last = x; is = refl }
last_of x (y ∷ xs) = let l = last_of y xs in record { front = x ∷ l.front; last = l.last; is = ap (λ zs. x ∷ zs) l.is }

last_by : {X : Type 0} (xs : List X) (n : ℕ) → length xs ≡ n + 1 → Last xs
last_by [] n e = absurd (omega (arith, e))
last_by (x ∷ xs) n e = last_of x xs

no_replies : (rs : List (Reply Why)) → length rs ≡ 0 → rs ≡ []
no_replies [] e = refl
no_replies (r ∷ rs) e = absurd (omega (arith, e))

-- ---- numbers

pub numbers-append : (xs ys : List (ℕ × Edit)) → numbers_of (xs ++ ys) ≡ numbers_of xs ++ numbers_of ys
numbers-append [] ys = refl
numbers-append (x ∷ xs) ys = ap (λ (ns : List ℕ). x.0 ∷ ns) (numbers-append xs ys)

-- each edit that was entered was told its number
pub numbers-entered : (asked : List Edit) (rs : List (Reply Why)) → length rs ≡ length asked → numbers_of (entered asked rs) ≡ told_in rs
numbers-entered [] [] e = refl
numbers-entered [] (r ∷ rs) e = absurd (omega (arith, e))
numbers-entered (edit ∷ asked) [] e = absurd (omega (arith, e))
numbers-entered (edit ∷ asked) (Entered number ∷ rs) e = ap (λ (ns : List ℕ). number ∷ ns) (numbers-entered asked rs (omega (arith, e)))
numbers-entered (edit ∷ asked) (JournalFull ∷ rs) e = numbers-entered asked rs (omega (arith, e))
numbers-entered (edit ∷ asked) (Not reason ∷ rs) e = numbers-entered asked rs (omega (arith, e))

-- the numbers of one reply, and those of the others
told-cons : (r : Reply Why) (rs : List (Reply Why)) → told_in (r ∷ rs) ≡ told_in (r ∷ []) ++ told_in rs
told-cons (Entered number) rs = refl
told-cons JournalFull rs = refl
told-cons (Not reason) rs = refl

pub told-on : (numbers numbers' all : List ℕ) (left behind : List (Reply Why)) (r : Reply Why) → left ≡ r ∷ behind → numbers' ≡ numbers ++ told_in (r ∷ []) → numbers ++ told_in left ≡ all → numbers' ++ told_in behind ≡ all
told-on numbers numbers' all left behind r at is inv =
    ap (λ (ns : List ℕ). ns ++ told_in behind) is ∙ append_assoc numbers (told_in (r ∷ [])) (told_in behind) ∙ ap (λ (ns : List ℕ). numbers ++ ns) (sym (told-cons r behind) ∙ ap told_in (sym at)) ∙ inv

pub told-end : (numbers all : List ℕ) (left : List (Reply Why)) → length left ≡ 0 → numbers ++ told_in left ≡ all → numbers ≡ all
told-end numbers all [] none inv = sym (append-nil numbers) ∙ inv
told-end numbers all (r ∷ left) none inv = absurd (omega (arith, none))

-- the numbers of a submit, and those of the lines after it
numbers-on : (before : List ℕ) (asked : List Edit) (rs : List (Reply Why)) (behind : List (ℕ × Edit)) → length rs ≡ length asked → before ++ numbers_of (entered asked rs ++ behind) ≡ (before ++ told_in rs) ++ numbers_of behind
numbers-on before asked rs behind e =
    ap (λ (ns : List ℕ). before ++ ns) (numbers-append (entered asked rs) behind ∙ ap (λ (ns : List ℕ). ns ++ numbers_of behind) (numbers-entered asked rs e)) ∙ sym (append_assoc before (told_in rs) (numbers_of behind))

-- ---- lines

module _ (opening : PoolRecord) (limit : ℕ) where
  -- a line that is answered at once
  told_at : (known known' : List Edit) (sheet : SheetRecord) (line : Reading) (told : Option (List ℕ))
      → ((rs : List (Reply Why)) (lines : List Reading) (own : List (ℕ × Edit)) (behind : Sheet) (last : List Edit) → Served opening limit lines known' sheet.asked rs own behind last → Served opening limit (line ∷ lines) known sheet.asked rs own (told ∷ behind) last)
      → IsEven sheet → Onward opening limit known sheet known' (record sheet { batch = sheet.batch ++ Told told ∷ [] }) line
  told_at known known' sheet line told serves even = record {
    even = asks-told sheet.batch told ∙ even;
    carries = λ rs n lines own behind last served. (rs, n, own, told, serves rs lines own behind last served, append_assoc sheet.replies (filled sheet.batch rs) (told ∷ []) ∙ ap (λ (z : Sheet). sheet.replies ++ z) (sym (filled-told sheet.batch told rs)), refl);
  }

  pub told_onward : (known known' : List Edit) (sheet sheet' : SheetRecord) (line : Reading) (told : Option (List ℕ))
      → ((rs : List (Reply Why)) (lines : List Reading) (own : List (ℕ × Edit)) (behind : Sheet) (last : List Edit) → Served opening limit lines known' sheet.asked rs own behind last → Served opening limit (line ∷ lines) known sheet.asked rs own (told ∷ behind) last)
      → IsEven sheet → sheet' ≡ record sheet { batch = sheet.batch ++ Told told ∷ [] } → Onward opening limit known sheet known' sheet' line
  told_onward known known' sheet sheet' line told serves even is =
      subst (λ (s : SheetRecord). Onward opening limit known sheet known' s line) (sym is) (told_at known known' sheet line told serves even)

  -- a line whose edit waits
  gather_at : (known : List Edit) (sheet : SheetRecord) (line : Reading) (edit : Edit)
      → ((rs : List (Reply Why)) (r : Reply Why) (lines : List Reading) (own : List (ℕ × Edit)) (behind : Sheet) (last : List Edit) → Served opening limit lines known (sheet.asked ++ edit ∷ []) (rs ++ r ∷ []) own behind last → Served opening limit (line ∷ lines) known sheet.asked rs own (Some (outcome_line (reply_outcome r)) ∷ behind) last)
      → IsEven sheet → Onward opening limit known sheet known (record sheet { batch = sheet.batch ++ Asks ∷ []; asked = sheet.asked ++ edit ∷ [] }) line
  gather_at known sheet line edit serves even =
      let longer : length (sheet.asked ++ edit ∷ []) ≡ length sheet.asked + 1 = omega (arith, length-append sheet.asked (edit ∷ [])) in
      record {
        even = asks-asks sheet.batch ∙ omega (arith, even, longer);
        carries = λ rs n lines own behind last served.
            let l = last_by rs (length sheet.asked) (n ∙ longer) in
            let m : length l.front ≡ length sheet.asked = omega (arith, n, longer, ap length l.is, length-append l.front (l.last ∷ [])) in (
              l.front,
              m,
              own,
              Some (outcome_line (reply_outcome l.last)),
              serves l.front l.last lines own behind last (subst (λ (z : List (Reply Why)). Served opening limit lines known (sheet.asked ++ edit ∷ []) z own behind last) l.is served),
              append_assoc sheet.replies (filled sheet.batch l.front) (Some (outcome_line (reply_outcome l.last)) ∷ [])
                  ∙ ap (λ (z : Sheet). sheet.replies ++ z) (sym (filled-asks sheet.batch l.front l.last (even ∙ sym m)) ∙ ap (filled (sheet.batch ++ Asks ∷ [])) (sym l.is)),
              refl,
            );
      }

  pub gather_onward : (known : List Edit) (sheet sheet' : SheetRecord) (line : Reading) (edit : Edit)
      → ((rs : List (Reply Why)) (r : Reply Why) (lines : List Reading) (own : List (ℕ × Edit)) (behind : Sheet) (last : List Edit) → Served opening limit lines known (sheet.asked ++ edit ∷ []) (rs ++ r ∷ []) own behind last → Served opening limit (line ∷ lines) known sheet.asked rs own (Some (outcome_line (reply_outcome r)) ∷ behind) last)
      → IsEven sheet → sheet' ≡ record sheet { batch = sheet.batch ++ Asks ∷ []; asked = sheet.asked ++ edit ∷ [] } → Onward opening limit known sheet known sheet' line
  gather_onward known sheet sheet' line edit serves even is =
      subst (λ (s : SheetRecord). Onward opening limit known sheet known s line) (sym is) (gather_at known sheet line edit serves even)

  -- a publish
  abbrev submitted_sheet : SheetRecord → List (Reply Why) → SheetRecord
  submitted_sheet sheet rs = record { replies = whole sheet rs; batch = []; asked = []; numbers = sheet.numbers ++ told_in rs }

  publish_at : (known known' : List Edit) (sheet : SheetRecord) (rs : List (Reply Why)) (s : Submits opening limit known sheet known' (submitted_sheet sheet rs) (length known')) → rs ≡ s.rs
      → Onward opening limit known sheet known' (record (submitted_sheet sheet rs) { batch = Told (Some (outcome_line (outcomes.Published (length known')))) ∷ [] }) (Reads commands.Publish)
  publish_at known known' sheet rs s is = record {
    even = refl;
    carries = λ none n lines own behind last served. (
      s.rs,
      s.tried,
      entered sheet.asked s.rs ++ own,
      Some (outcome_line (outcomes.Published (length known'))),
      (known', own, s.submitted, refl, refl, subst (λ (z : List (Reply Why)). Served opening limit lines known' [] z own behind last) (no_replies none n) served),
      ap (λ (z : List (Reply Why)). whole sheet z ++ Some (outcome_line (outcomes.Published (length known'))) ∷ []) (sym is),
      numbers-on sheet.numbers sheet.asked s.rs own s.tried ∙ ap (λ (z : List (Reply Why)). (sheet.numbers ++ told_in z) ++ numbers_of own) (sym is),
    );
  }

  pub publish_onward : (known known' : List Edit) (sheet sheet1 sheet' : SheetRecord) (published : ℕ) → Submits opening limit known sheet known' sheet1 published
      → sheet' ≡ record sheet1 { batch = sheet1.batch ++ Told (Some (outcome_line (outcomes.Published published))) ∷ [] } → Onward opening limit known sheet known' sheet' (Reads commands.Publish)
  publish_onward known known' sheet sheet1 sheet' published s is =
      let now : sheet' ≡ record (submitted_sheet sheet s.rs) { batch = Told (Some (outcome_line (outcomes.Published (length known')))) ∷ [] } =
      is ∙ ap (λ (z : SheetRecord). record z { batch = z.batch ++ Told (Some (outcome_line (outcomes.Published published))) ∷ [] }) s.after
      ∙ ap (λ (z : ℕ). record (submitted_sheet sheet s.rs) { batch = Told (Some (outcome_line (outcomes.Published z))) ∷ [] }) s.count in
      subst (λ (z : SheetRecord). Onward opening limit known sheet known' z (Reads commands.Publish)) (sym now)
      (publish_at known known' sheet s.rs (record { rs = s.rs; tried = s.tried; submitted = s.submitted; count = refl; after = refl }) refl)

module _ (form : Form) (opening : PoolRecord) (limit : ℕ) where
  -- ---- all lines

  pub served_begin : (known : List Edit) (sheet : SheetRecord) (bytes : List ℕ) → IsEven sheet → sheet.asked ≡ [] → ServedTo form opening limit known sheet bytes known sheet bytes
  served_begin known sheet bytes even none = record {
    even = even;
    carries = λ rs n lines own behind last are served.
        let no = no_replies rs (n ∙ ap length none) in
        record {
          lines = lines;
          are = are;
          own = own;
          told = behind;
          served = subst (λ (z : List Edit). Served opening limit lines known z [] own behind last) none (subst (λ (z : List (Reply Why)). Served opening limit lines known sheet.asked z own behind last) no served);
          whole = ap (λ (z : List (Reply Why)). whole sheet z ++ behind) no;
          numbered = refl;
        };
  }

  -- one line more, by the lines of what is left
  served_on : (known known1 known2 : List Edit) (sheet sheet1 sheet2 : SheetRecord) (bytes rest rest' line : List ℕ) → lines_of rest ≡ line ∷ lines_of rest'
      → ServedTo form opening limit known sheet bytes known1 sheet1 rest → LineServed form opening limit known1 sheet1 known2 sheet2 line → ServedTo form opening limit known sheet bytes known2 sheet2 rest'
  served_on known known1 known2 sheet sheet1 sheet2 bytes rest rest' line cut so l = record {
    even = l.onward.even;
    carries = λ rs n lines own behind last are served.
        let c = l.onward.carries rs n lines own behind last served in
        let b = so.carries c.0 c.1 (l.reading ∷ lines) c.2 (c.3 ∷ behind) last (subst (λ (z : List (List ℕ)). AreReadIn form z (l.reading ∷ lines)) (sym cut) (l.is, are)) c.4 in
        subst (λ (z : List ℕ). BytesServed form opening limit known sheet last (whole sheet2 rs ++ behind) z bytes) c.6
        (subst (λ (z : Sheet). BytesServed form opening limit known sheet last z (sheet1.numbers ++ numbers_of c.2) bytes) (sym (append_assoc (whole sheet1 c.0) (c.3 ∷ []) behind) ∙ ap (λ (z : Sheet). z ++ behind) c.5) b);
  }

  pub served_line : (known known1 known2 : List Edit) (sheet sheet1 sheet2 : SheetRecord) (bytes rest line behind : List ℕ) → rest ≡ line ++ (10 ∷ behind) → HasNoEnd line
      → ServedTo form opening limit known sheet bytes known1 sheet1 rest → LineServed form opening limit known1 sheet1 known2 sheet2 line → ServedTo form opening limit known sheet bytes known2 sheet2 behind
  served_line known known1 known2 sheet sheet1 sheet2 bytes rest line behind cut no_end so l =
      served_on known known1 known2 sheet sheet1 sheet2 bytes rest behind line (ap lines_of cut ∙ lines_of_ended line behind no_end) so l

  pub served_last : (known known1 known2 : List Edit) (sheet sheet1 sheet2 : SheetRecord) (bytes rest : List ℕ) → HasNoEnd rest → 0 < length rest
      → ServedTo form opening limit known sheet bytes known1 sheet1 rest → LineServed form opening limit known1 sheet1 known2 sheet2 rest → ServedTo form opening limit known sheet bytes known2 sheet2 []
  served_last known known1 known2 sheet sheet1 sheet2 bytes rest no_end some so l =
      served_on known known1 known2 sheet sheet1 sheet2 bytes rest [] rest (lines_of_open rest no_end some) so l

  pub served_end : (known known1 known2 : List Edit) (sheet sheet1 : SheetRecord) (replies : Sheet) (numbers bytes : List ℕ) → ServedTo form opening limit known sheet bytes known1 sheet1 [] → Ends opening limit known1 sheet1 known2 replies numbers
      → BytesServed form opening limit known sheet known2 replies numbers bytes
  served_end known known1 known2 sheet sheet1 replies numbers bytes so e =
      subst (λ (z : List ℕ). BytesServed form opening limit known sheet known2 replies z bytes) (ap (λ (ns : List ℕ). sheet1.numbers ++ ns) (numbers-entered sheet1.asked e.rs e.tried) ∙ sym e.numbers_are)
      (subst (λ (z : Sheet). BytesServed form opening limit known sheet known2 z (sheet1.numbers ++ numbers_of (entered sheet1.asked e.rs)) bytes) (append-nil (whole sheet1 e.rs) ∙ sym e.whole_of)
      (so.carries e.rs e.tried [] (entered sheet1.asked e.rs) [] known2 tt (refl, e.ends)))

  -- a file whose sheet was empty
  pub file_served : (known known' : List Edit) (sheet : SheetRecord) (bytes : List ℕ) → BytesServed form opening limit known blank known' sheet.replies sheet.numbers bytes → LeavesFile form opening limit known bytes sheet known'
  file_served known known' sheet bytes b = record {
    own = b.own;
    numbered = b.numbered;
    served = record { lines = b.lines; are = b.are; served = subst (λ (z : Sheet). Served opening limit b.lines known [] [] b.own z known') (sym b.whole) b.served };
  }
