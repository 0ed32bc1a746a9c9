-- How SETUP and files are served over one board, each file by a session of its own. (this project's profile)
use Rattle.std.specs.Prelude.{◌≡◌, ℕ, ◌+◌, ◌==◌, Bool, true, false, List, [], ◌∷◌, ◌++◌, Option, Some, None, length, map, All, slice_index_or, if◌then◌else◌}
use Rattle.std.specs.Io.KnownBytes.{Appends}
use mathlib.Core.List.{IsPrefix}
use Rattle.cq_devices.specs.Device.{TakesFront}
use Rattle.cq_text.specs.declared.form.Form.{Form}
use Rattle.cq_text.specs.declared.command.CommandKind.TheVariants as commands
use Rattle.cq_board.specs.declared.edit.Why.{Why}
use Rattle.cq_board.specs.Pool.{PoolRecord, opening_pool}
use Rattle.cq_atom.specs.Edit.{Edit}
use Rattle.cq_board.specs.Edits.{why, pool_after}
use Rattle.cq_desk.specs.Replies.{accepted, replies_at, journal_edits}
use Rattle.cq_desk.specs.declared.journal.Entry.{Entry}
use Rattle.cq_desk.specs.declared.reply.Reply.{Reply}
use Rattle.cq_desk.specs.declared.reply.Reply.TheVariants as replies
use Rattle.cq_report.specs.declared.stage.Stage.TheVariants as stages
use Rattle.cq_report.specs.Lines.{lines_of}
use Rattle.cq_report.specs.Reading.{Reading, Reads, Faulty, AreReadIn}
use Rattle.cq_report.specs.declared.numbering.Numbering.TheVariants.{Plain}
use Rattle.cq_report.specs.Machine.{SetupRecord, State, begin_state, form_of, next, reply}
use Rattle.cq_report.specs.Output.{AreReadings}
use Rattle.cq_report.specs.declared.outcome.Outcome.TheVariants as outcomes
use Rattle.cq_report.specs.declared.refusal.Refusal.TheVariants as refusals
use Rattle.cq_report.specs.Reply.{reply_outcome, outcome_line}
use Rattle.cq_sessions.specs.declared.fault.SessionsFault.{SessionsFault}
use Rattle.cq_sessions.specs.declared.fault.SessionsFault.TheVariants as faults
use Rattle.cq_sessions.specs.Script.{Sheet, script_of}

-- ---- a file

-- A submit of edits by a session that knows of these entries: others may stand after them by then; the edits are answered in turn after all those, and what the session knows of then is all of it with the accepted ones.
pub record Submitted (opening : PoolRecord) (limit : ℕ) (known known' asked : List Edit) (rs : List (Reply Why)) : Type 0 where
  pub before : List Edit
  pub seen : IsPrefix known before
  pub told : rs ≡ replies_at pool_after why opening limit before asked
  pub now : known' ≡ before ++ accepted asked rs

-- The edits whose replies say that they were entered, each with the number that it was told.
abbrev pub entered : List Edit → List (Reply Why) → List (ℕ × Edit)
entered [] rs = []
entered (edit ∷ asked) [] = []
entered (edit ∷ asked) (replies.Entered number ∷ rs) = (number, edit) ∷ entered asked rs
entered (edit ∷ asked) (replies.JournalFull ∷ rs) = entered asked rs
entered (edit ∷ asked) (replies.Not reason ∷ rs) = entered asked rs

-- The end of a file submits the edits that wait, where any do.
abbrev pub EndsFile : PoolRecord → ℕ → (known asked : List Edit) → List (Reply Why) → (known' : List Edit) → Type 0
EndsFile opening limit known [] rs known' = known' ≡ known
EndsFile opening limit known (edit ∷ asked) rs known' = Submitted opening limit known known' (edit ∷ asked) rs

-- Lines are served by a session that knows of the entries `known`, while the edits `asked` wait and will be answered `rs`; each line has a reply, or none, and in the end the session knows of `known'`. Of the edits that waited
-- and those of the lines, `own` are those that were entered, in order, with the numbers that they were told.
-- A setup's line comes too late; an edit waits; a publish submits what waits, and tells how many entries are published then; a look shows no fewer entries than the session knew of, and tells how many.
abbrev pub Served : PoolRecord → ℕ → List Reading → (known asked : List Edit) → List (Reply Why) → (own : List (ℕ × Edit)) → Sheet → (known' : List Edit) → Type 0
Served opening limit [] known asked rs own [] known' = (own ≡ entered asked rs) × EndsFile opening limit known asked rs known'
Served opening limit [] known asked rs own (told ∷ sheet) known' = ⊥
Served opening limit (line ∷ lines) known asked rs own [] known' = ⊥
Served opening limit (Faulty kind offset ∷ lines) known asked rs own (told ∷ sheet) known' = (told ≡ Some (outcome_line (outcomes.Refused (refusals.Text kind offset)))) × Served opening limit lines known asked rs own sheet known'
Served opening limit (Reads commands.Blank ∷ lines) known asked rs own (told ∷ sheet) known' = (told ≡ None) × Served opening limit lines known asked rs own sheet known'
Served opening limit (Reads (commands.Setup setup) ∷ lines) known asked rs own (told ∷ sheet) known' = (told ≡ Some (outcome_line (outcomes.Refused refusals.Late))) × Served opening limit lines known asked rs own sheet known'
Served opening limit (Reads (commands.Edit edit) ∷ lines) known asked rs own (told ∷ sheet) known' =
    (r : Reply Why) × (told ≡ Some (outcome_line (reply_outcome r))) × Served opening limit lines known (asked ++ edit ∷ []) (rs ++ r ∷ []) own sheet known'
Served opening limit (Reads commands.Publish ∷ lines) known asked rs own (told ∷ sheet) known' =
    (now : List Edit) × (behind : List (ℕ × Edit)) × Submitted opening limit known now asked rs × (own ≡ entered asked rs ++ behind) × (told ≡ Some (outcome_line (outcomes.Published (length now)))) × Served opening limit lines now [] [] behind sheet known'
Served opening limit (Reads commands.Show ∷ lines) known asked rs own (told ∷ sheet) known' =
    (seen : List Edit) × IsPrefix known seen × (told ≡ Some (outcome_line (outcomes.Shown (length seen)))) × Served opening limit lines seen asked rs own sheet known'

-- A file's bytes are served line by line.
pub record FileServed (form : Form) (opening : PoolRecord) (limit : ℕ) (known : List Edit) (file : List ℕ) (own : List (ℕ × Edit)) (sheet : Sheet) (known' : List Edit) : Type 0 where
  pub lines : List Reading
  pub are : AreReadIn form (lines_of file) lines
  pub served : Served opening limit lines known [] [] own sheet known'

-- Each file is served; what its session knows of before and after it, and what it entered, stands at the file's place.
abbrev pub FilesServed : Form → PoolRecord → ℕ → List (List Edit) → List (List ℕ) → List (List (ℕ × Edit)) → List Sheet → List (List Edit) → Type 0
FilesServed form opening limit [] [] [] [] [] = Unit {0}
FilesServed form opening limit (known ∷ knowns) (file ∷ files) (own ∷ owns) (sheet ∷ sheets) (known' ∷ knowns') = FileServed form opening limit known file own sheet known' × FilesServed form opening limit knowns files owns sheets knowns'
FilesServed form opening limit knowns files owns sheets knowns' = ⊥

-- ---- SETUP

-- The line sets up a board, or says nothing: the first other one begins the board.
abbrev pub is_of_setup : Reading → Bool
is_of_setup (Faulty kind offset) = true
is_of_setup (Reads commands.Blank) = true
is_of_setup (Reads (commands.Setup setup)) = true
is_of_setup (Reads (commands.Edit edit)) = false
is_of_setup (Reads commands.Publish) = false
is_of_setup (Reads commands.Show) = false

-- No line of a setup comes first: there is no line, or another one.
abbrev pub BeginsBoard : List Reading → Type 0
BeginsBoard [] = Unit {0}
BeginsBoard (line ∷ lines) = is_of_setup line ≡ false

-- A reply, or none where nothing is answered.
abbrev pub told_or_none : List ℕ → Option (List ℕ)
told_or_none [] = None
told_or_none (byte ∷ bytes) = Some (byte ∷ bytes)

-- Lines of a setup have the replies that a replay gives them.
abbrev pub setup_sheet : State → List Reading → Sheet
setup_sheet state [] = []
setup_sheet state (line ∷ lines) = told_or_none (reply state line) ∷ setup_sheet (next state line) lines

-- A script is in its setup, where this form is settled, if any, and its replies have no numbers.
pub record IsInSetup (state : State) (heading : Option Form) (setup : SetupRecord) : Type 0 where
  pub unnumbered : state.numbering ≡ Plain
  pub settled : state.heading ≡ heading
  pub stage : state.stage ≡ stages.Setup setup

-- The state after lines of a setup is that of a replay.
abbrev pub IsSetBy : State → List Reading → Option Form → SetupRecord → Type 0
IsSetBy state [] heading setup = IsInSetup state heading setup
IsSetBy state (line ∷ lines) heading setup = (is_of_setup line ≡ true) × IsSetBy (next state line) lines heading setup

-- The pool that a setup opens.
abbrev pub pool_of : SetupRecord → PoolRecord
pool_of setup = opening_pool setup.catalog setup.limits

-- SETUP is served: lines of a setup first, which settle the form, and all lines after them, read in it, by session 0, which knows of no entry before.
pub record SetupServed (file : List ℕ) (heading : Option Form) (setup : SetupRecord) (own : List (ℕ × Edit)) (sheet : Sheet) (known : List Edit) : Type 0 where
  pub first : List (List ℕ)
  pub rest : List (List ℕ)
  pub cut : lines_of file ≡ first ++ rest
  pub front : List Reading
  pub behind : List Reading
  pub are_first : AreReadings first front
  pub are_behind : AreReadIn (form_of heading) rest behind
  pub set : IsSetBy (begin_state Plain) front heading setup
  pub begins : BeginsBoard behind
  pub told : Sheet
  pub whole : sheet ≡ setup_sheet (begin_state Plain) front ++ told
  pub served : Served (pool_of setup) setup.limits.journal behind [] [] [] own told known

-- ---- all of it

-- What the sessions of so many files know of before their files: session 0 has served SETUP, the others are new.
abbrev pub knowns_before : List Edit → List (List ℕ) → List (List Edit)
knowns_before known [] = []
knowns_before known (file ∷ files) = known ∷ map (λ _. []) files

-- The entries of one session, each by its number and its edit; the first of all these entries has that number.
abbrev pub entered_by : ℕ → ℕ → List (Entry Edit) → List (ℕ × Edit)
entered_by session number [] = []
entered_by session number (entry ∷ entries) = (if entry.author == session then (number, entry.edit) ∷ [] else []) ++ entered_by session (number + 1) entries

-- What each session entered: session 0 what SETUP and then its file did, the others what their files did.
abbrev pub owns_of : List (ℕ × Edit) → List (List (ℕ × Edit)) → List (List (ℕ × Edit))
owns_of own [] = []
owns_of own (first ∷ owns) = (own ++ first) ∷ owns

-- The text is the script of a room in which SETUP and then the files were served. Its journal is what the sessions entered, and nothing else: under each session stand the edits of its lines that were told a number, in their order and at these
-- numbers, and under a number that is no session's stands nothing. It begins with all that each session knows of in the end.
pub record Ran (setup : List ℕ) (files : List (List ℕ)) (text : List ℕ) : Type 0 where
  pub heading : Option Form
  pub set : SetupRecord
  pub own : List (ℕ × Edit)
  pub sheet : Sheet
  pub known : List Edit
  pub setup_served : SetupServed setup heading set own sheet known
  pub owns : List (List (ℕ × Edit))
  pub sheets : List Sheet
  pub knowns : List (List Edit)
  pub files_served : FilesServed (form_of heading) (pool_of set) set.limits.journal (knowns_before known files) files owns sheets knowns
  pub journal : List (Entry Edit)
  pub entries : (session : ℕ) → entered_by session 1 journal ≡ slice_index_or (owns_of own owns) session []
  pub begins : All (λ known. IsPrefix known (journal_edits journal)) knowns
  pub is : text ≡ script_of (form_of heading) set.catalog set.limits journal sheet sheets

-- ---- what is written

-- The text was written whole.
pub record Wrote (setup : List ℕ) (files : List (List ℕ)) (taken taken' : Option (List ℕ)) : Type 0 where
  pub text : List ℕ
  pub ran : Ran setup files text
  pub wrote : Appends taken taken' text

-- A front of the text was written.
pub record WroteFrontOf (setup : List ℕ) (files : List (List ℕ)) (taken taken' : Option (List ℕ)) : Type 0 where
  pub text : List ℕ
  pub ran : Ran setup files text
  pub wrote : TakesFront taken taken' text

-- What holds after a fault of writing, and what after any other.
abbrev pub IfWritten : SessionsFault → Type 0 → Type 0 → Type 0
IfWritten faults.Write written other = written
IfWritten faults.Places written other = other
IfWritten faults.Thread written other = other
IfWritten faults.NoMemory written other = other

-- How much the writer's failures rise with a fault: by one with its own, and else not.
abbrev pub failures_of : SessionsFault → ℕ
failures_of faults.Write = 1
failures_of faults.Places = 0
failures_of faults.Thread = 0
failures_of faults.NoMemory = 0
