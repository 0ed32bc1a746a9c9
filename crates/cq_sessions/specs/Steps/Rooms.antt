-- What the threads of a room leave, and what is put of it.
use Rattle.std.specs.Prelude.{◌≡◌, ℕ, ◌≤◌, List, [], ◌∷◌, ◌++◌, ◌⊎◌, Option, Some, None, Result, Ok, Err, codes, All, map, slice_index_or}
use Rattle.std.specs.List.{Contains}
use mathlib.Core.List.{IsPrefix}
use Rattle.cq_board.specs.Pool.{PoolRecord}
use Rattle.cq_atom.specs.Edit.{Edit}
use Rattle.cq_desk.specs.Replies.{journal_edits}
use Rattle.cq_desk.specs.declared.journal.Entry.{Entry}
use Rattle.cq_sessions.specs.declared.fault.ServeFault.{ServeFault}
use Rattle.cq_sessions.specs.declared.fault.ServeFault.TheVariants as serves
use Rattle.cq_sessions.specs.declared.fault.SessionsFault.{SessionsFault}
use Rattle.cq_sessions.specs.declared.fault.SessionsFault.TheVariants as faults
use Rattle.cq_sessions.specs.declared.task.Done.{Done}
use Rattle.cq_text.specs.declared.form.Form.{Form}
use Rattle.cq_sessions.specs.Script.{entries_from, replies_from, sheets_from}
use Rattle.cq_sessions.specs.Sessions.{FileServed, FilesServed, knowns_before, entered_by}
use Rattle.cq_sessions.specs.Steps.Sheets.{SheetRecord, BytesServed, numbers_of}

-- How a fault of serving is reported.
abbrev pub sessions_fault : ServeFault → SessionsFault
sessions_fault serves.Places = faults.Places
sessions_fault serves.Thread = faults.Thread
sessions_fault serves.NoMemory = faults.NoMemory

-- These are the clients and the sheets of what all threads left.
abbrev pub AreDone : {C A : Type 0} → List (Result (Done C A) ServeFault) → List C → List SheetRecord → Type 0
AreDone [] [] [] = Unit {0}
AreDone (Ok done ∷ lefts) (client ∷ clients) (sheet ∷ sheets) = (client ≡ done.client) × (sheet ≡ done.sheet) × AreDone lefts clients sheets
AreDone lefts clients sheets = ⊥

-- Which of two faults is reported: the one of the lesser rank.
abbrev pub rank : ServeFault → ℕ
rank serves.Places = 0
rank serves.Thread = 1
rank serves.NoMemory = 2

-- A fault of threads, by what they left: it ended one of them, or one was not started, where one is missing.
abbrev pub IsFaultOf : {D : Type 0} → Type 0 → List (Result D ServeFault) → ServeFault → Type 0
IsFaultOf missing lefts fault = Contains lefts (Err fault) ⊎ (missing × (fault ≡ serves.Thread))

-- The fault is reported of threads: it is one of theirs, and none has a lesser rank.
pub record IsToldOf {D : Type 0} (missing : Type 0) (lefts : List (Result D ServeFault)) (fault : ServeFault) : Type 0 where
  pub theirs : IsFaultOf missing lefts fault
  pub first : (other : ServeFault) → IsFaultOf missing lefts other → rank fault ≤ rank other

-- One of these is reported, or there is none.
abbrev pub IsFirstOf : {D : Type 0} → Type 0 → List (Result D ServeFault) → Option ServeFault → Type 0
IsFirstOf missing lefts None = (fault : ServeFault) → IsFaultOf missing lefts fault → ⊥
IsFirstOf missing lefts (Some fault) = IsToldOf missing lefts fault

-- What a file's thread leaves: the file is served, and on its sheet stand the numbers of what its session entered.
pub record LeavesFile (form : Form) (opening : PoolRecord) (limit : ℕ) (known : List Edit) (file : List ℕ) (sheet : SheetRecord) (known' : List Edit) : Type 0 where
  pub own : List (ℕ × Edit)
  pub numbered : sheet.numbers ≡ numbers_of own
  pub served : FileServed form opening limit known file own sheet.replies known'

-- What the files' threads leave: each file is served, and on its sheet stand the numbers of what its session entered.
pub record FilesDone (form : Form) (opening : PoolRecord) (limit : ℕ) (knowns : List (List Edit)) (files : List (List ℕ)) (sheets : List SheetRecord) (knowns' : List (List Edit)) : Type 0 where
  pub owns : List (List (ℕ × Edit))
  pub numbered : map (λ sheet. sheet.numbers) sheets ≡ map numbers_of owns
  pub served : FilesServed form opening limit knowns files owns (map (λ sheet. sheet.replies) sheets) knowns'

-- The first of those who know of these entries serves the bytes; the others learn of nothing.
abbrev pub FirstServes : Form → PoolRecord → ℕ → List (List Edit) → SheetRecord → List (List Edit) → SheetRecord → List ℕ → Type 0
FirstServes form opening limit (known ∷ knowns) sheet (known' ∷ knowns') sheet' bytes = BytesServed form opening limit known sheet known' sheet'.replies sheet'.numbers bytes × (knowns' ≡ knowns)
FirstServes form opening limit knowns sheet knowns' sheet' bytes = ⊥

-- SETUP's rest is served by one who knows of nothing, and then the files.
pub record AllServed (form : Form) (opening : PoolRecord) (limit : ℕ) (sheet : SheetRecord) (rest : List ℕ) (sheet' : SheetRecord) (files : List (List ℕ)) (sheets : List SheetRecord) (knowns : List (List Edit)) : Type 0 where
  pub known : List Edit
  pub setup : BytesServed form opening limit [] sheet known sheet'.replies sheet'.numbers rest
  pub done : FilesDone form opening limit (knowns_before known files) files sheets knowns

-- The numbers that each session was told, where these stand on SETUP's sheet and those on the sheets of the files.
abbrev pub numbers_told : List ℕ → List (List ℕ) → List (List ℕ)
numbers_told numbers [] = []
numbers_told numbers (first ∷ others) = (numbers ++ first) ∷ others

-- Each session's entries stand in the journal at the numbers that it was told, and there are no others.
abbrev pub AreTold : List (Entry Edit) → List (List ℕ) → Type 0
AreTold journal numbers = (session : ℕ) → numbers_of (entered_by session 1 journal) ≡ slice_index_or numbers session []

-- The entries of a journal are put that begins with all that is known, and holds what was told.
pub record PutEntries (knowns : List (List Edit)) (numbers : List (List ℕ)) (page page' : List ℕ) : Type 0 where
  pub journal : List (Entry Edit)
  pub begins : All (λ known. IsPrefix known (journal_edits journal)) knowns
  pub told : AreTold journal numbers
  pub put : page' ≡ page ++ entries_from 1 journal

-- SETUP's rest and the files are served in a room, and all that came of it is put.
pub record RoomServed (form : Form) (opening : PoolRecord) (limit : ℕ) (sheet : SheetRecord) (rest : List ℕ) (files : List (List ℕ)) (page page' : List ℕ) : Type 0 where
  pub sheet' : SheetRecord
  pub sheets : List SheetRecord
  pub knowns : List (List Edit)
  pub served : AllServed form opening limit sheet rest sheet' files sheets knowns
  pub journal : List (Entry Edit)
  pub begins : All (λ known. IsPrefix known (journal_edits journal)) knowns
  pub told : AreTold journal (numbers_told sheet'.numbers (map (λ sheet. sheet.numbers) sheets))
  pub put : page' ≡ page ++ (entries_from 1 journal ++ codes "publish\nshow\n" ++ replies_from (codes "setup") 1 sheet'.replies ++ sheets_from 0 (map (λ sheet. sheet.replies) sheets))
