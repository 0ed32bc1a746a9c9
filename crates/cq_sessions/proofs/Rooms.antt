-- What the threads of a room leave, put together.
use Rattle.std.proofs.Common.{Option, ◌≡◌, ℕ, ◌<◌, ◌≤◌, List, [], ◌∷◌, ◌++◌, length, map, refl, sym, ap, subst, ◌∙◌, append_assoc, arith}
use Rattle.std.specs.Prelude.{Result, Ok, Err, IfOk, codes}
use Rattle.std.specs.List.{flat_map, range_with_len}
use Rattle.std.proofs.lemmas.List.FromFn.{length-range_with_len}
use Rattle.cq_desk.specs.History.{edits_of}
use Rattle.cq_desk.specs.Replies.{journal_edits}
use Rattle.cq_room.specs.Sessions.{SessionRecord, newcomers}
use Rattle.cq_board.specs.Pool.{PoolRecord}
use Rattle.cq_atom.specs.Edit.{Edit}
use Rattle.cq_sessions.specs.declared.fault.ServeFault.{ServeFault}
use Rattle.cq_sessions.specs.declared.fault.ServeFault.TheVariants as serves
use Rattle.cq_sessions.specs.declared.task.Done.{Done}
use Rattle.cq_sessions.specs.declared.sheet.Line.TheVariants.{Told}
use Rattle.cq_text.specs.declared.form.Form.{Form}
use Rattle.cq_report.specs.Lines.{lines_of}
use Rattle.cq_report.specs.declared.numbering.Numbering.TheVariants.{Plain}
use Rattle.cq_report.specs.Machine.{SetupRecord, begin_state, form_of}
use Rattle.cq_sessions.specs.Script.{Sheet, form_line, declaration_line, limits_line, entries_from, replies_from, sheets_from}
use Rattle.cq_sessions.specs.Sessions.{IfWritten, SetupServed, Ran, knowns_before, pool_of, setup_sheet}
use Rattle.cq_sessions.specs.Steps.Sheets.{SheetRecord, BytesServed, LeavesEach, asks, filled, numbers_of, whole, IsEven}
use Rattle.cq_sessions.specs.Steps.Settings.{SetTo, RestBegins}
use Rattle.cq_sessions.specs.Steps.Rooms.{AreDone, LeavesFile, FilesDone, FirstServes, AllServed, PutEntries, RoomServed, numbers_told, sessions_fault}
use Rattle.cq_sessions.proofs.Told.{entries-told, served-stands}

-- ---- what threads left

one_more : (form : Form) (opening : PoolRecord) (limit : ℕ) (knowns : List (List Edit)) (files : List (List ℕ)) (sheets : List SheetRecord) (knowns' : List (List Edit)) (k : List Edit) (f : List ℕ) (sheet : SheetRecord) (k' : List Edit) → LeavesFile form opening limit k f sheet k' → FilesDone form opening limit knowns files sheets knowns'
    → FilesDone form opening limit (k ∷ knowns) (f ∷ files) (sheet ∷ sheets) (k' ∷ knowns')
one_more form opening limit knowns files sheets knowns' k f sheet k' one rest = record {
  owns = one.own ∷ rest.owns;
  numbered = ap (λ (z : List ℕ). z ∷ map (λ sheet. sheet.numbers) sheets) one.numbered ∙ ap (λ (z : List (List ℕ)). numbers_of one.own ∷ z) rest.numbered;
  served = (one.served, rest.served);
}

module _ {C A S : Type 0} (form : Form) (opening : PoolRecord) (limit : ℕ) (known : C → List Edit) (form_at : S → Form) (client : S → C) (file : S → List ℕ) where
  abbrev pub leaves : S → Result (Done C A) ServeFault → Type 0
  leaves seat left = IfOk left (λ done. LeavesFile (form_at seat) opening limit (known (client seat)) (file seat) done.sheet (known done.client))

  one_served : (seat : S) (done : Done C A) (c : C) (sheet : SheetRecord) → form_at seat ≡ form → c ≡ done.client → sheet ≡ done.sheet → leaves seat (Ok done) → LeavesFile form opening limit (known (client seat)) (file seat) sheet (known c)
  one_served seat done c sheet at is same left =
      subst (λ (z : SheetRecord). LeavesFile form opening limit (known (client seat)) (file seat) z (known c)) (sym same)
      (subst (λ (z : C). LeavesFile form opening limit (known (client seat)) (file seat) done.sheet (known z)) (sym is)
      (subst (λ (z : Form). LeavesFile z opening limit (known (client seat)) (file seat) done.sheet (known done.client)) at left))

  pub files_done : {D : Type 0} (seats : List S) (ds : List D) (lefts : List (Result (Done C A) ServeFault)) (clients : List C) (sheets : List SheetRecord) → map form_at seats ≡ map (λ _. form) ds
      → LeavesEach leaves seats lefts → length seats ≤ length lefts → AreDone lefts clients sheets
      → FilesDone form opening limit (map (λ seat. known (client seat)) seats) (map file seats) sheets (map known clients)
  files_done [] ds [] [] [] forms each many done = record { owns = []; numbered = refl; served = tt }
  files_done [] ds [] [] (sheet ∷ sheets) forms each many done = absurd done
  files_done [] ds [] (c ∷ clients) sheets forms each many done = absurd done
  files_done [] ds (left ∷ lefts) clients sheets forms each many done = absurd each
  files_done (seat ∷ seats) ds [] clients sheets forms each many done = absurd (omega (arith, many))
  files_done (seat ∷ seats) [] (left ∷ lefts) clients sheets forms each many done = absurd (cc forms)
  files_done (seat ∷ seats) (x ∷ ds) (Ok d ∷ lefts) [] sheets forms each many done = absurd done
  files_done (seat ∷ seats) (x ∷ ds) (Ok d ∷ lefts) (c ∷ clients) [] forms each many done = absurd done
  files_done (seat ∷ seats) (x ∷ ds) (Ok d ∷ lefts) (c ∷ clients) (sheet ∷ sheets) forms each many done =
      let at : form_at seat ≡ form = cc in
      let others : map form_at seats ≡ map (λ _. form) ds = cc in
      one_more form opening limit (map (λ seat. known (client seat)) seats) (map file seats) sheets (map known clients) (known (client seat)) (file seat) sheet (known c) (one_served seat d c sheet at done.0 done.1 each.0)
      (files_done seats ds lefts clients sheets others each.1 (omega (arith, many)) done.2)
  files_done (seat ∷ seats) (x ∷ ds) (Err fault ∷ lefts) clients sheets forms each many done = absurd done

module _ {C A : Type 0} where
  pub done_on : (lefts : List (Result (Done C A) ServeFault)) (clients : List C) (sheets : List SheetRecord) (left : Result (Done C A) ServeFault) (done : Done C A) → left ≡ Ok done → AreDone lefts clients sheets
      → AreDone (lefts ++ left ∷ []) (clients ++ done.client ∷ []) (sheets ++ done.sheet ∷ [])
  done_on [] [] [] left done is are = subst (λ (z : Result (Done C A) ServeFault). AreDone (z ∷ []) (done.client ∷ []) (done.sheet ∷ [])) (sym is) (refl, refl, tt)
  done_on [] [] (s ∷ sheets) left done is are = absurd are
  done_on [] (c ∷ clients) sheets left done is are = absurd are
  done_on (Ok d ∷ lefts) [] sheets left done is are = absurd are
  done_on (Ok d ∷ lefts) (c ∷ clients) [] left done is are = absurd are
  done_on (Ok d ∷ lefts) (c ∷ clients) (s ∷ sheets) left done is are = (are.0, are.1, done_on lefts clients sheets left done is are.2)
  done_on (Err fault ∷ lefts) clients sheets left done is are = absurd are

-- ---- what is known

pub map_map : {X Y Z : Type 0} (f : Y → Z) (h : X → Y) (xs : List X) → map f (map h xs) ≡ map (λ x. f (h x)) xs
map_map f h [] = refl
map_map {X} {Y} {Z} f h (x ∷ xs) = ap (λ (z : List Z). f (h x) ∷ z) (map_map f h xs)

pub map_same : {X Y Z : Type 0} (z : Z) (xs : List X) (ys : List Y) → length xs ≡ length ys → map (λ _. z) xs ≡ map (λ _. z) ys
map_same z [] [] e = refl
map_same z [] (y ∷ ys) e = absurd (omega (arith, e))
map_same z (x ∷ xs) [] e = absurd (omega (arith, e))
map_same {X} {Y} {Z} z (x ∷ xs) (y ∷ ys) e = ap (λ (zs : List Z). z ∷ zs) (map_same z xs ys (omega (arith, e)))

pub length_map : {X Y : Type 0} (f : X → Y) (xs : List X) → length (map f xs) ≡ length xs
length_map f [] = refl
length_map f (x ∷ xs) = let e = length_map f xs in omega (arith, e)

-- SETUP is served by the first of newcomers, and the others are newcomers still
pub record FirstServed (form : Form) (opening : PoolRecord) (limit : ℕ) (sheet sheet' : SheetRecord) (bytes : List ℕ) (knowns : List (List Edit)) (files : List (List ℕ)) : Type 0 where
  pub known : List Edit
  pub served : BytesServed form opening limit [] sheet known sheet'.replies sheet'.numbers bytes
  pub before : knowns ≡ knowns_before known files

module _ (form : Form) (opening : PoolRecord) (limit : ℕ) (sheet sheet' : SheetRecord) (bytes : List ℕ) where
  first_of_all : {F : Type 0} (knowns knowns' : List (List Edit)) (f : F → List ℕ) (file : F) (files : List F) → FirstServes form opening limit ([] ∷ knowns) sheet knowns' sheet' bytes → knowns ≡ map (λ _. []) files
      → FirstServed form opening limit sheet sheet' bytes knowns' (f file ∷ map f files)
  first_of_all knowns [] f file files served others = absurd served
  first_of_all knowns (known ∷ knowns') f file files served others = record {
    known = known;
    served = served.0;
    before = ap (λ (z : List (List Edit)). known ∷ z) (served.1 ∙ others ∙ sym (map_map (λ _. []) f files));
  }

  pub first_served : {F : Type 0} (knowns knowns' : List (List Edit)) (f : F → List ℕ) (files : List F) → 0 < length files → knowns ≡ map (λ _. []) files → FirstServes form opening limit knowns sheet knowns' sheet' bytes
      → FirstServed form opening limit sheet sheet' bytes knowns' (map f files)
  first_served knowns knowns' f [] some are served = absurd (omega (arith, some))
  first_served knowns knowns' f (file ∷ files) some are served =
      first_of_all (map (λ _. []) files) knowns' f file files (subst (λ (z : List (List Edit)). FirstServes form opening limit z sheet knowns' sheet' bytes) are served) refl

  pub all_served : {F : Type 0} (knowns knowns' : List (List Edit)) (f : F → List ℕ) (files : List F) (sheets : List SheetRecord) (ends : List (List Edit)) → 0 < length files → knowns ≡ map (λ _. []) files
      → FirstServes form opening limit knowns sheet knowns' sheet' bytes → FilesDone form opening limit knowns' (map f files) sheets ends → AllServed form opening limit sheet bytes sheet' (map f files) sheets ends
  all_served knowns knowns' f files sheets ends some are first served =
      let one = first_served knowns knowns' f files some are first in
      record {
        known = one.known;
        setup = one.served;
        done = subst (λ (z : List (List Edit)). FilesDone form opening limit z (map f files) sheets ends) one.before served;
      }

-- ---- all of it

pub told_even : (sheet : Sheet) → asks (map Told sheet) ≡ 0
told_even [] = refl
told_even (told ∷ sheet) = told_even sheet

told_whole : (sheet : Sheet) → filled (map Told sheet) [] ≡ sheet
told_whole [] = refl
told_whole (told ∷ sheet) = ap (λ (z : Sheet). told ∷ z) (told_whole sheet)

pub set_even : (bytes rest : List ℕ) (heading : Option Form) (setup : SetupRecord) (sheet : SheetRecord) → SetTo bytes rest heading setup sheet → IsEven sheet
set_even bytes rest heading setup sheet so = subst IsEven (sym so.told) (told_even (setup_sheet (begin_state Plain) so.front))

pub set_asked : (bytes rest : List ℕ) (heading : Option Form) (setup : SetupRecord) (sheet : SheetRecord) → SetTo bytes rest heading setup sheet → sheet.asked ≡ []
set_asked bytes rest heading setup sheet so = ap (λ (z : SheetRecord). z.asked) so.told

setup_served : (bytes rest : List ℕ) (heading : Option Form) (setup : SetupRecord) (sheet : SheetRecord) (replies : Sheet) (numbers : List ℕ) (known : List Edit) → SetTo bytes rest heading setup sheet → RestBegins (form_of heading) rest
    → (b : BytesServed (form_of heading) (pool_of setup) setup.limits.journal [] sheet known replies numbers rest) → SetupServed bytes heading setup b.own replies known
setup_served bytes rest heading setup sheet replies numbers known so begins b = record {
  first = so.lines;
  rest = lines_of rest;
  cut = so.cut;
  front = so.front;
  behind = b.lines;
  are_first = so.are;
  are_behind = b.are;
  set = so.set;
  begins = begins b.lines b.are;
  told = b.told;
  whole = b.whole ∙ ap (λ (z : SheetRecord). whole z [] ++ b.told) so.told ∙ ap (λ (z : Sheet). z ++ b.told) (told_whole (setup_sheet (begin_state Plain) so.front));
  served = b.served;
}

-- SETUP's lines told no number
setup_numbers : (bytes rest : List ℕ) (heading : Option Form) (setup : SetupRecord) (sheet : SheetRecord) (own : List (ℕ × Edit)) (numbers : List ℕ) → SetTo bytes rest heading setup sheet → numbers ≡ sheet.numbers ++ numbers_of own → numbers ≡ numbers_of own
setup_numbers bytes rest heading setup sheet own numbers so is = is ∙ ap (λ (z : SheetRecord). z.numbers ++ numbers_of own) so.told

-- a room that is closed, with all that came of it
pub room_served : (form : Form) (opening opening1 : PoolRecord) (limit limit1 : ℕ) (sheet : SheetRecord) (rest : List ℕ) (sheet' : SheetRecord) (files : List (List ℕ)) (sheets : List SheetRecord) (knowns : List (List Edit)) (page page1 page2 : List ℕ) → opening1 ≡ opening → limit1 ≡ limit
    → AllServed form opening1 limit1 sheet rest sheet' files sheets knowns → PutEntries knowns (numbers_told sheet'.numbers (map (λ sheet. sheet.numbers) sheets)) page page1
    → page2 ≡ page1 ++ (codes "publish\nshow\n" ++ replies_from (codes "setup") 1 sheet'.replies ++ sheets_from 0 (map (λ sheet. sheet.replies) sheets))
    → RoomServed form opening limit sheet rest files page page2
room_served form opening opening1 limit limit1 sheet rest sheet' files sheets knowns page page1 page2 is same served put behind = record {
  sheet' = sheet';
  sheets = sheets;
  knowns = knowns;
  served = subst (λ (z : ℕ). AllServed form opening z sheet rest sheet' files sheets knowns) same (subst (λ (z : PoolRecord). AllServed form z limit1 sheet rest sheet' files sheets knowns) is served);
  journal = put.journal;
  begins = put.begins;
  told = put.told;
  put = behind ∙ ap (λ (z : List ℕ). z ++ (codes "publish\nshow\n" ++ replies_from (codes "setup") 1 sheet'.replies ++ sheets_from 0 (map (λ sheet. sheet.replies) sheets))) put.put ∙ simp append_assoc;
}

-- newcomers know of nothing
pub newcomers_know : {F : Type 0} (count : ℕ) (files : List F) → count ≡ length files → map (λ (s : SessionRecord Edit). journal_edits (edits_of s.history)) (newcomers count) ≡ map (λ _. []) files
newcomers_know count files e =
    map_map (λ (s : SessionRecord Edit). journal_edits (edits_of s.history)) (λ k. record { number = k; history = []; known = [] }) (range_with_len 0 count) ∙ map_same [] (range_with_len 0 count) files (length-range_with_len 0 count ∙ e)

-- a fault of serving is none of writing
pub not_written : (fault : ServeFault) (P Q : Type 0) → Q → IfWritten (sessions_fault fault) P Q
not_written serves.Places P Q q = q
not_written serves.Thread P Q q = q
not_written serves.NoMemory P Q q = q

pub ran : (bytes rest : List ℕ) (heading : Option Form) (setup : SetupRecord) (sheet : SheetRecord) (opening : PoolRecord) (limit : ℕ) (files : List (List ℕ)) (page page' text : List ℕ) → SetTo bytes rest heading setup sheet → RestBegins (form_of heading) rest → opening ≡ pool_of setup → limit ≡ setup.limits.journal
    → page ≡ [] → page' ≡ page ++ (form_line (form_of heading) ++ flat_map declaration_line setup.catalog ++ limits_line setup.limits) → RoomServed (form_of heading) opening limit sheet rest files page' text → Ran bytes files text
ran bytes rest heading setup sheet opening limit files page page' text so begins is same empty put room =
    let form = form_of heading in
    let served : AllServed form (pool_of setup) setup.limits.journal sheet rest room.sheet' files room.sheets room.knowns =
    subst (λ (z : ℕ). AllServed form (pool_of setup) z sheet rest room.sheet' files room.sheets room.knowns) same
    (subst (λ (z : PoolRecord). AllServed form z limit sheet rest room.sheet' files room.sheets room.knowns) is room.served) in
    let sheets = map (λ (sheet : SheetRecord). sheet.replies) room.sheets in
    let behind = entries_from 1 room.journal ++ codes "publish\nshow\n" ++ replies_from (codes "setup") 1 room.sheet'.replies ++ sheets_from 0 sheets in
    let set_up = form_line form ++ flat_map declaration_line setup.catalog ++ limits_line setup.limits in
    let first : page' ≡ set_up = put ∙ ap (λ (z : List ℕ). z ++ set_up) empty in
    record {
      heading = heading;
      set = setup;
      own = served.setup.own;
      sheet = room.sheet'.replies;
      known = served.known;
      setup_served = setup_served bytes rest heading setup sheet room.sheet'.replies room.sheet'.numbers served.known so begins served.setup;
      owns = served.done.owns;
      sheets = sheets;
      knowns = room.knowns;
      files_served = served.done.served;
      journal = room.journal;
      entries = entries-told (pool_of setup) setup.limits.journal form served.known served.setup.own files served.done.owns sheets room.knowns room.journal room.sheet'.numbers (map (λ (sheet : SheetRecord). sheet.numbers) room.sheets)
          (served-stands (pool_of setup) setup.limits.journal served.setup.lines [] [] [] served.setup.own served.setup.told served.known served.setup.served).0 served.done.served room.begins room.told
          (setup_numbers bytes rest heading setup sheet served.setup.own room.sheet'.numbers so served.setup.numbered) served.done.numbered;
      begins = room.begins;
      is = room.put ∙ ap (λ (z : List ℕ). z ++ behind) first ∙ simp append_assoc;
    }
