-- What a session entered stands in the journal at the numbers that it was told.
use Rattle.std.proofs.Common.{◌≡◌, ℕ, zero, suc, ◌+◌, ◌<◌, ◌≤◌, ◌⊎◌, inl, inr, eqb, Bool, true, false, nat_le, List, [], ◌∷◌, ◌++◌, Option, Some, None, length, map, drop, fold, if◌then◌else◌, refl, sym, ap, subst, ◌∙◌, append_assoc, append-nil, length-append, add-one, arith}
use Rattle.std.specs.Prelude.{All, MatchBool, ⊤, slice_index_or}
use Rattle.std.proofs.lemmas.List.Elements.{All-head, All-tail}
use Rattle.std.proofs.Math.ListN.{get_or-map}
use Rattle.std.proofs.Math.Seq.{drop-cons}
use Rattle.std.proofs.lemmas.List.{drop_all, get_or_past}
use Rattle.std.proofs.lemmas.Bool.{cases_order}
use Rattle.std.proofs.lemmas.Bool.Decides.{nat_tests}
use mathlib.Core.List.{IsPrefix}
use Rattle.cq_board.specs.declared.edit.Why.{Why}
use Rattle.cq_board.specs.Pool.{PoolRecord}
use Rattle.cq_atom.specs.Edit.{Edit}
use Rattle.cq_board.specs.Edits.{why, pool_after}
use Rattle.cq_desk.specs.declared.journal.Entry.{Entry}
use Rattle.cq_desk.specs.declared.reply.Reply.{Reply}
use Rattle.cq_desk.specs.declared.reply.Reply.TheVariants.{Entered, JournalFull, Not}
use Rattle.cq_desk.specs.Replies.{admitted, accepted, journal_edits, reply_at, replies_at}
use Rattle.cq_room.specs.Receipts.{StandsAt}
use Rattle.cq_text.specs.declared.command.CommandKind.TheVariants as commands
use Rattle.cq_text.specs.declared.form.Form.{Form}
use Rattle.cq_report.specs.Reading.{Reading, Reads, Faulty}
use Rattle.cq_sessions.specs.Script.{Sheet}
use Rattle.cq_sessions.specs.Sessions.{Submitted, Served, EndsFile, FilesServed, entered, entered_by, owns_of, knowns_before}
use Rattle.cq_sessions.specs.Steps.Sheets.{numbers_of}
use Rattle.cq_sessions.specs.Steps.Rooms.{AreTold, numbers_told}
use Rattle.cq_sessions.proofs.Sheets.{numbers-append}

-- ---- lists that grow

longer-itself : (es : List Edit) → IsPrefix es es
longer-itself es = ([], append-nil es)

longer-twice : (es fs gs : List Edit) → IsPrefix es fs → IsPrefix fs gs → IsPrefix es gs
longer-twice es fs gs (r, e) (s, f) = (r ++ s, sym (append_assoc es r s) ∙ ap (λ (z : List Edit). z ++ s) e ∙ f)

abbrev pub Stands : List Edit → List (ℕ × Edit) → Type 0
Stands es [] = Unit {0}
Stands es (entry ∷ own) = StandsAt es entry.0 entry.1 × Stands es own

stands-longer : (es fs : List Edit) (own : List (ℕ × Edit)) → IsPrefix es fs → Stands es own → Stands fs own
stands-longer es fs [] front stand = tt
stands-longer es fs (entry ∷ own) (r, e) ((before, behind, at, number), stand) = (
  (before, behind ++ r, sym e ∙ ap (λ (z : List Edit). z ++ r) at ∙ append_assoc before (entry.1 ∷ behind) r, number),
  stands-longer es fs own (r, e) stand,
)

stands-append : (es : List Edit) (xs ys : List (ℕ × Edit)) → Stands es xs → Stands es ys → Stands es (xs ++ ys)
stands-append es [] ys here there = there
stands-append es (x ∷ xs) ys here there = (here.0, stands-append es xs ys here.1 there)

-- ---- what a submit enters

admitted-number : (entries n : ℕ) (reason : Option Why) → admitted entries reason ≡ Entered n → n ≡ entries + 1
admitted-number entries n (Some reason) is = absurd (cc is)
admitted-number entries n None is = cc is

told-number : (opening : PoolRecord) (limit n : ℕ) (before : List Edit) (edit : Edit) → reply_at pool_after why opening limit before edit ≡ Entered n → n ≡ length before + 1
told-number opening limit n before edit is =
    elim (nat_le limit (length before)) as (λ full. (if full then JournalFull else admitted (length before) (why (fold pool_after opening before) edit)) ≡ Entered n → n ≡ length before + 1)
    [ true ↦ λ p. absurd (cc p) | false ↦ λ p. admitted-number (length before) n (why (fold pool_after opening before) edit) p ] is

module _ (opening : PoolRecord) (limit : ℕ) where
  abbrev answers : List Edit → List Edit → List (Reply Why)
  answers before asked = replies_at pool_after why opening limit before asked

  entered-stands : (before asked : List Edit) (rs : List (Reply Why)) → rs ≡ answers before asked → Stands (before ++ accepted asked rs) (entered asked rs)
  entered-stands before [] rs is = tt
  entered-stands before (edit ∷ asked) [] is = tt
  entered-stands before (edit ∷ asked) (Entered n ∷ rs) is =
      let one : Entered n ≡ reply_at pool_after why opening limit before edit = cc is in
      let rest : rs ≡ answers (before ++ accepted (edit ∷ []) (reply_at pool_after why opening limit before edit ∷ [])) asked = cc is in
      let more : rs ≡ answers (before ++ edit ∷ []) asked = rest ∙ ap (λ r. answers (before ++ accepted (edit ∷ []) (r ∷ [])) asked) (sym one) in (
        (before, accepted asked rs, refl, told-number opening limit n before edit (sym one)),
        subst (λ (es : List Edit). Stands es (entered asked rs)) (append_assoc before (edit ∷ []) (accepted asked rs)) (entered-stands (before ++ edit ∷ []) asked rs more),
      )
  entered-stands before (edit ∷ asked) (JournalFull ∷ rs) is =
      let one : JournalFull ≡ reply_at pool_after why opening limit before edit = cc is in
      let rest : rs ≡ answers (before ++ accepted (edit ∷ []) (reply_at pool_after why opening limit before edit ∷ [])) asked = cc is in
      entered-stands before asked rs (rest ∙ ap (λ r. answers (before ++ accepted (edit ∷ []) (r ∷ [])) asked) (sym one) ∙ ap (λ z. answers z asked) (append-nil before))
  entered-stands before (edit ∷ asked) (Not reason ∷ rs) is =
      let one : Not reason ≡ reply_at pool_after why opening limit before edit = cc is in
      let rest : rs ≡ answers (before ++ accepted (edit ∷ []) (reply_at pool_after why opening limit before edit ∷ [])) asked = cc is in
      entered-stands before asked rs (rest ∙ ap (λ r. answers (before ++ accepted (edit ∷ []) (r ∷ [])) asked) (sym one) ∙ ap (λ z. answers z asked) (append-nil before))

  submitted-stands : (known known' asked : List Edit) (rs : List (Reply Why)) → Submitted opening limit known known' asked rs → Stands known' (entered asked rs)
  submitted-stands known known' asked rs s = subst (λ (es : List Edit). Stands es (entered asked rs)) (sym s.now) (entered-stands s.before asked rs s.told)

  submitted-longer : (known known' asked : List Edit) (rs : List (Reply Why)) → Submitted opening limit known known' asked rs → IsPrefix known known'
  submitted-longer known known' asked rs s = longer-twice known s.before known' s.seen (accepted asked rs, sym s.now)

  ends-stands : (known known' asked : List Edit) (rs : List (Reply Why)) → EndsFile opening limit known asked rs known' → Stands known' (entered asked rs) × IsPrefix known known'
  ends-stands known known' [] rs ends = (tt, subst (IsPrefix known) (sym ends) (longer-itself known))
  ends-stands known known' (edit ∷ asked) rs ends = (submitted-stands known known' (edit ∷ asked) rs ends, submitted-longer known known' (edit ∷ asked) rs ends)

  -- what the lines of a file enter, among the edits that its session knows of in the end
  pub served-stands : (lines : List Reading) (known asked : List Edit) (rs : List (Reply Why)) (own : List (ℕ × Edit)) (sheet : Sheet) (known' : List Edit) → Served opening limit lines known asked rs own sheet known' → Stands known' own × IsPrefix known known'
  served-stands [] known asked rs own [] known' s = let ends = ends-stands known known' asked rs s.1 in (subst (Stands known') (sym s.0) ends.0, ends.1)
  served-stands [] known asked rs own (told ∷ sheet) known' s = absurd s
  served-stands (line ∷ lines) known asked rs own [] known' s = absurd s
  served-stands (Faulty kind offset ∷ lines) known asked rs own (told ∷ sheet) known' s = served-stands lines known asked rs own sheet known' s.1
  served-stands (Reads commands.Blank ∷ lines) known asked rs own (told ∷ sheet) known' s = served-stands lines known asked rs own sheet known' s.1
  served-stands (Reads (commands.Setup setup) ∷ lines) known asked rs own (told ∷ sheet) known' s = served-stands lines known asked rs own sheet known' s.1
  served-stands (Reads (commands.Edit edit) ∷ lines) known asked rs own (told ∷ sheet) known' (r, is, s) = served-stands lines known _ _ own sheet known' s
  served-stands (Reads commands.Publish ∷ lines) known asked rs own (told ∷ sheet) known' (now, behind, submitted, is, at, s) =
      let rest = served-stands lines now [] [] behind sheet known' s in (
        subst (Stands known') (sym is) (stands-append known' (entered asked rs) behind (stands-longer now known' (entered asked rs) rest.1 (submitted-stands known now asked rs submitted)) rest.0),
        longer-twice known now known' (submitted-longer known now asked rs submitted) rest.1,
      )
  served-stands (Reads commands.Show ∷ lines) known asked rs own (told ∷ sheet) known' (seen, front, at, s) =
      let rest = served-stands lines seen asked rs own sheet known' s in (rest.0, longer-twice known seen known' front rest.1)

  -- ---- all files

  abbrev pub Each : List Edit → List (List (ℕ × Edit)) → Type 0
  Each es [] = Unit {0}
  Each es (own ∷ owns) = Stands es own × Each es owns

  files-stand : (form : Form) (es : List Edit) (knowns : List (List Edit)) (files : List (List ℕ)) (owns : List (List (ℕ × Edit))) (sheets : List Sheet) (knowns' : List (List Edit))
      → FilesServed form opening limit knowns files owns sheets knowns' → All (λ known. IsPrefix known es) knowns' → Each es owns
  files-stand form es [] [] [] [] [] served seen = tt
  files-stand form es (known ∷ knowns) (file ∷ files) (own ∷ owns) (sheet ∷ sheets) (known' ∷ knowns') served seen =
      let first = served.0 in (
        stands-longer known' es own (All-head (λ known. IsPrefix known es) known' knowns' seen) (served-stands first.lines known [] [] own sheet known' first.served).0,
        files-stand form es knowns files owns sheets knowns' served.1 (All-tail (λ known. IsPrefix known es) known' knowns' seen),
      )
  files-stand form es [] [] [] [] (known' ∷ knowns') served seen = absurd served
  files-stand form es [] [] [] (sheet ∷ sheets) knowns' served seen = absurd served
  files-stand form es [] [] (own ∷ owns) sheets knowns' served seen = absurd served
  files-stand form es [] (file ∷ files) owns sheets knowns' served seen = absurd served
  files-stand form es (known ∷ knowns) [] owns sheets knowns' served seen = absurd served
  files-stand form es (known ∷ knowns) (file ∷ files) [] sheets knowns' served seen = absurd served
  files-stand form es (known ∷ knowns) (file ∷ files) (own ∷ owns) [] knowns' served seen = absurd served
  files-stand form es (known ∷ knowns) (file ∷ files) (own ∷ owns) (sheet ∷ sheets) [] served seen = absurd served

  -- session 0 knows of what SETUP entered
  all-stand : (form : Form) (es known : List Edit) (setup : List (ℕ × Edit)) (files : List (List ℕ)) (owns : List (List (ℕ × Edit))) (sheets : List Sheet) (knowns : List (List Edit)) → Stands known setup
      → FilesServed form opening limit (knowns_before known files) files owns sheets knowns → All (λ known. IsPrefix known es) knowns → Each es (owns_of setup owns)
  all-stand form es known setup [] [] sheets knowns stand served seen = tt
  all-stand form es known setup [] (own ∷ owns) sheets knowns stand served seen = absurd served
  all-stand form es known setup (file ∷ files) [] sheets knowns stand served seen = absurd served
  all-stand form es known setup (file ∷ files) (own ∷ owns) [] knowns stand served seen = absurd served
  all-stand form es known setup (file ∷ files) (own ∷ owns) (sheet ∷ sheets) [] stand served seen = absurd served
  all-stand form es known setup (file ∷ files) (own ∷ owns) (sheet ∷ sheets) (known' ∷ knowns) stand served seen =
      let all = files-stand form es (knowns_before known (file ∷ files)) (file ∷ files) (own ∷ owns) (sheet ∷ sheets) (known' ∷ knowns) served seen in
      let first = (served-stands served.0.lines known [] [] own sheet known' served.0.served).1 in
      let front = longer-twice known known' es first (All-head (λ known. IsPrefix known es) known' knowns seen) in
      (stands-append es setup own (stands-longer known es setup front stand) all.0, all.1)

  each-at : (es : List Edit) (owns : List (List (ℕ × Edit))) (session : ℕ) → Each es owns → Stands es (slice_index_or owns session [])
  each-at es [] session each = tt
  each-at es (own ∷ owns) zero each = each.0
  each-at es (own ∷ owns) (suc session) each = each-at es owns session each.1

-- ---- the journal

one-at : (xs ys zs ws : List Edit) (e f : Edit) → xs ++ e ∷ zs ≡ ys ++ f ∷ ws → length xs ≡ length ys → e ≡ f
one-at [] [] zs ws e f is n = cc is
one-at [] (y ∷ ys) zs ws e f is n = absurd (omega (arith, n))
one-at (x ∷ xs) [] zs ws e f is n = absurd (omega (arith, n))
one-at (x ∷ xs) (y ∷ ys) zs ws e f is n = let rest : xs ++ e ∷ zs ≡ ys ++ f ∷ ws = cc is in one-at xs ys zs ws e f rest (omega (arith, n))

-- entries are told apart by their numbers
same-entries : (es : List Edit) (xs ys : List (ℕ × Edit)) → numbers_of xs ≡ numbers_of ys → Stands es xs → Stands es ys → xs ≡ ys
same-entries es [] [] is here there = refl
same-entries es [] (y ∷ ys) is here there = absurd (cc is)
same-entries es (x ∷ xs) [] is here there = absurd (cc is)
same-entries es ((m, e) ∷ xs) ((n, f) ∷ ys) is ((before, behind, at, number), here) ((before', behind', at', number'), there) =
    let same : m ≡ n = cc is in
    let rest : numbers_of xs ≡ numbers_of ys = cc is in
    let edit : e ≡ f = one-at before before' behind behind' e f (sym at ∙ at') (omega (arith, same, number, number')) in
    let more : xs ≡ ys = same-entries es xs ys rest here there in
    cc (same, edit, more)

stands-if : (es : List Edit) (b : Bool) (entry : ℕ × Edit) (own : List (ℕ × Edit)) → StandsAt es entry.0 entry.1 → Stands es own → Stands es ((if b then entry ∷ [] else []) ++ own)
stands-if es true entry own here rest = (here, rest)
stands-if es false entry own here rest = rest

journal-stands : (session number : ℕ) (before : List Edit) (entries : List (Entry Edit)) → number ≡ length before + 1 → Stands (before ++ journal_edits entries) (entered_by session number entries)
journal-stands session number before [] n = tt
journal-stands session number before (entry ∷ entries) n =
    let longer : number + 1 ≡ length (before ++ entry.edit ∷ []) + 1 = omega (arith, n, length-append before (entry.edit ∷ [])) in
    stands-if (before ++ entry.edit ∷ journal_edits entries) (eqb entry.author session) (number, entry.edit) (entered_by session (number + 1) entries) (before, journal_edits entries, refl, n)
    (subst (λ (es : List Edit). Stands es (entered_by session (number + 1) entries)) (append_assoc before (entry.edit ∷ []) (journal_edits entries)) (journal-stands session (number + 1) (before ++ entry.edit ∷ []) entries longer))

-- each session's entries are what it entered
pub entries-told : (opening : PoolRecord) (limit : ℕ) (form : Form) (known : List Edit) (setup : List (ℕ × Edit)) (files : List (List ℕ)) (owns : List (List (ℕ × Edit))) (sheets : List Sheet) (knowns : List (List Edit)) (journal : List (Entry Edit)) (numbers : List ℕ) (lists : List (List ℕ)) → Stands known setup
    → FilesServed form opening limit (knowns_before known files) files owns sheets knowns → All (λ known. IsPrefix known (journal_edits journal)) knowns → AreTold journal (numbers_told numbers lists) → numbers ≡ numbers_of setup → lists ≡ map numbers_of owns
    → (session : ℕ) → entered_by session 1 journal ≡ slice_index_or (owns_of setup owns) session []
entries-told opening limit form known setup files owns sheets knowns journal numbers lists stand served seen told is are session =
    let es = journal_edits journal in
    let own = slice_index_or (owns_of setup owns) session [] in
    same-entries es (entered_by session 1 journal) own
    (told session ∙ ap (λ (ns : List (List ℕ)). slice_index_or ns session []) (ap (λ (ns : List ℕ). numbers_told ns lists) is ∙ ap (numbers_told (numbers_of setup)) are ∙ joined setup owns) ∙ get_or-map numbers_of (owns_of setup owns) session [])
    (journal-stands session 1 [] journal refl)
    (each-at opening limit es (owns_of setup owns) session (all-stand opening limit form es known setup files owns sheets knowns stand served seen))
  where
    joined : (setup : List (ℕ × Edit)) (owns : List (List (ℕ × Edit))) → numbers_told (numbers_of setup) (map numbers_of owns) ≡ map numbers_of (owns_of setup owns)
    joined setup [] = refl
    joined setup (own ∷ owns) = ap (λ (ns : List ℕ). ns ∷ map numbers_of owns) (sym (numbers-append setup own))

-- ---- the comparison, entry by entry

numbers-if : (b : Bool) (number : ℕ) (edit : Edit) (own : List (ℕ × Edit)) (rest : List ℕ) → numbers_of own ≡ rest → numbers_of ((if b then (number, edit) ∷ [] else []) ++ own) ≡ (if b then number ∷ rest else rest)
numbers-if true number edit own rest is = ap (λ (ns : List ℕ). number ∷ ns) is
numbers-if false number edit own rest is = is

-- The entries from a place on have the numbers that are left, so all have all.
abbrev pub HaveLeft : ℕ → List (Entry Edit) → List ℕ → ℕ → List ℕ → Type 0
HaveLeft session journal numbers place left = numbers_of (entered_by session (place + 1) (drop place journal)) ≡ left → numbers_of (entered_by session 1 journal) ≡ numbers

pub left-on : (session : ℕ) (journal : List (Entry Edit)) (numbers : List ℕ) (place : ℕ) (entry : Entry Edit) (own : Bool) (left rest : List ℕ) → drop place journal ≡ entry ∷ drop (place + 1) journal → own ≡ eqb entry.author session → left ≡ (if own then (place + 1) ∷ rest else rest)
    → HaveLeft session journal numbers place left → HaveLeft session journal numbers (place + 1) rest
left-on session journal numbers place entry own left rest at is now have more =
    have (ap (λ (z : List (Entry Edit)). numbers_of (entered_by session (place + 1) z)) at
    ∙ numbers-if (eqb entry.author session) (place + 1) entry.edit (entered_by session (place + 1 + 1) (drop (place + 1) journal)) rest more
    ∙ ap (λ (b : Bool). if b then (place + 1) ∷ rest else rest) (sym is) ∙ sym now)

pub left-end : (session : ℕ) (journal : List (Entry Edit)) (numbers left : List ℕ) → left ≡ [] → HaveLeft session journal numbers (length journal) left → numbers_of (entered_by session 1 journal) ≡ numbers
left-end session journal numbers left none have = have (ap (λ (z : List (Entry Edit)). numbers_of (entered_by session (length journal + 1) z)) (drop_all (length journal) journal (omega arith)) ∙ sym none)

-- The entries from a place on are none of the session's, so none is.
abbrev pub HaveNone : ℕ → List (Entry Edit) → ℕ → Type 0
HaveNone session journal place = entered_by session (place + 1) (drop place journal) ≡ [] → entered_by session 1 journal ≡ []

pub none-on : (session : ℕ) (journal : List (Entry Edit)) (place : ℕ) (entry : Entry Edit) → drop place journal ≡ entry ∷ drop (place + 1) journal → entry.author < session → HaveNone session journal place → HaveNone session journal (place + 1)
none-on session journal place entry at low have more =
    let other : eqb entry.author session ≡ false = differs entry.author session low in
    have (ap (entered_by session (place + 1)) at ∙ ap (λ (b : Bool). (if b then (place + 1, entry.edit) ∷ [] else []) ++ entered_by session (place + 1 + 1) (drop (place + 1) journal)) other ∙ more)
  where
    differs : (a b : ℕ) → a < b → eqb a b ≡ false
    differs a b h = grind (arith, nat_tests)

pub none-end : (session : ℕ) (journal : List (Entry Edit)) → HaveNone session journal (length journal) → entered_by session 1 journal ≡ []
none-end session journal have = have (ap (entered_by session (length journal + 1)) (drop_all (length journal) journal (omega arith)))

-- ---- each session

pub told-each : (journal : List (Entry Edit)) (first : List ℕ) (setup : List ℕ) (lists : List (List ℕ)) (count : ℕ) → count ≡ length lists → first ≡ setup ++ slice_index_or lists 0 [] → ((session : ℕ) → count ≤ session → entered_by session 1 journal ≡ [])
    → ((session : ℕ) → session < count → numbers_of (entered_by session 1 journal) ≡ (if eqb session 0 then first else slice_index_or lists session [])) → AreTold journal (numbers_told setup lists)
told-each journal first setup [] count many is none each session = ap numbers_of (none session (omega (arith, many)))
told-each journal first setup (list ∷ lists) count many is none each zero = each 0 (omega (arith, many)) ∙ is
told-each journal first setup (list ∷ lists) count many is none each (suc session) = elim (below (suc session) count) [
  | inl low ↦ each (suc session) low ∙ ap (λ (b : Bool). if b then first else slice_index_or (list ∷ lists) (suc session) []) (later session)
  | inr high ↦ ap numbers_of (none (suc session) high) ∙ sym (get_or_past (list ∷ lists) (suc session) [] (omega (arith, many, high)))
]
  where
    later : (n : ℕ) → eqb (suc n) 0 ≡ false
    later n = grind (arith, nat_tests)

    below : (a b : ℕ) → (a < b) ⊎ (b ≤ a)
    below a b = elim (cases_order a b) [ inl same ↦ inr (omega (arith, same)) | inr apart ↦ elim apart [ inl low ↦ inl low | inr high ↦ inr (omega (arith, high)) ] ]

pub read-more : {X : Type 0} (xs : List X) (i : ℕ) (x : X) → i < length xs → x ≡ slice_index_or xs i x → drop i xs ≡ x ∷ drop (i + 1) xs
read-more xs i x low at = drop-cons xs i x low ∙ ap (λ y. y ∷ drop (suc i) xs) (sym at) ∙ ap (λ n. x ∷ drop n xs) (sym (add-one i))

pub numbers-on : (journal : List (Entry Edit)) (first : List ℕ) (lists : List (List ℕ)) (place : ℕ) (own : List ℕ) → own ≡ (if eqb place 0 then first else slice_index_or lists place []) → numbers_of (entered_by place 1 journal) ≡ own
    → ((session : ℕ) → session < place → numbers_of (entered_by session 1 journal) ≡ (if eqb session 0 then first else slice_index_or lists session []))
    → (session : ℕ) → session < place + 1 → numbers_of (entered_by session 1 journal) ≡ (if eqb session 0 then first else slice_index_or lists session [])
numbers-on journal first lists place own at has before session low = elim (cases_order session place) [
  | inl same ↦ subst (λ (s : ℕ). numbers_of (entered_by s 1 journal) ≡ (if eqb s 0 then first else slice_index_or lists s [])) (sym same) (has ∙ at)
  | inr apart ↦ elim apart [ inl less ↦ before session less | inr more ↦ absurd (omega (arith, low, more)) ]
]

pub where_true : {P Q : Type 0} (b : Bool) → (P → Q) → MatchBool b P ⊤ → MatchBool b Q ⊤
where_true true more p = more p
where_true false more p = tt
