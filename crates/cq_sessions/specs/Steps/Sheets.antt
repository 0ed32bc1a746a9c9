-- A sheet while its file is served, and how a line carries it on.
use Rattle.std.specs.Prelude.{◌≡◌, ℕ, suc, List, [], ◌∷◌, ◌++◌, Option, Some, None, length, map, option_map}
use Rattle.cq_board.specs.declared.edit.Why.{Why}
use Rattle.cq_board.specs.Pool.{PoolRecord}
use Rattle.cq_atom.specs.Edit.{Edit}
use Rattle.cq_desk.specs.declared.reply.Reply.{Reply}
use Rattle.cq_desk.specs.declared.reply.Reply.TheVariants.{Entered, JournalFull, Not}
use Rattle.cq_sessions.specs.declared.sheet.Line.{Line}
use Rattle.cq_sessions.specs.declared.sheet.Line.TheVariants.{Told, Asks}
use Rattle.cq_text.specs.declared.form.Form.{Form}
use Rattle.cq_report.specs.Lines.{lines_of}
use Rattle.cq_report.specs.Reading.{Reading, IsReading, AreReadIn}
use Rattle.cq_sessions.specs.Script.{Sheet}
use Rattle.cq_report.specs.Reply.{reply_outcome, outcome_line}
use Rattle.cq_sessions.specs.Sessions.{Served}

-- The replies to the lines before the batch, the lines of the batch, the edits of the batch that wait, and the numbers that edits before the batch were told.
pub record SheetRecord : Type 0 where
  pub replies : Sheet
  pub batch : List (Line (List ℕ))
  pub asked : List Edit
  pub numbers : List ℕ

-- A sheet on which nothing stands.
abbrev pub blank : SheetRecord
blank = record { replies = []; batch = []; asked = []; numbers = [] }

-- The numbers of entries.
abbrev pub numbers_of : List (ℕ × Edit) → List ℕ
numbers_of own = map (λ entry. entry.0) own

-- The numbers that replies tell.
abbrev pub told_in : List (Reply Why) → List ℕ
told_in [] = []
told_in (Entered number ∷ rs) = number ∷ told_in rs
told_in (JournalFull ∷ rs) = told_in rs
told_in (Not reason ∷ rs) = told_in rs

-- A line by the bytes of its reply.
abbrev pub line_map : {T U : Type 0} → (T → U) → Line T → Line U
line_map f (Told reply) = Told (option_map f reply)
line_map f Asks = Asks

-- How many lines of a batch wait.
abbrev pub asks : List (Line (List ℕ)) → ℕ
asks [] = 0
asks (Told reply ∷ lines) = asks lines
asks (Asks ∷ lines) = suc (asks lines)

-- The replies to a batch, where its edits have these, in order.
abbrev pub filled : List (Line (List ℕ)) → List (Reply Why) → Sheet
filled [] rs = []
filled (Told reply ∷ lines) rs = reply ∷ filled lines rs
filled (Asks ∷ lines) [] = None ∷ filled lines []
filled (Asks ∷ lines) (r ∷ rs) = Some (outcome_line (reply_outcome r)) ∷ filled lines rs

-- The replies to all lines so far, where the edits that wait have these.
abbrev pub whole : SheetRecord → List (Reply Why) → Sheet
whole sheet rs = sheet.replies ++ filled sheet.batch rs

-- Each line that waits has its edit.
abbrev pub IsEven : SheetRecord → Type 0
IsEven sheet = asks sheet.batch ≡ length sheet.asked

-- However the lines after are served from here on, the file was served so from there on.
abbrev pub Carries : PoolRecord → ℕ → (known : List Edit) → SheetRecord → (known' : List Edit) → SheetRecord → Reading → Type 0
Carries opening limit known sheet known' sheet' line =
    (rs : List (Reply Why)) → length rs ≡ length sheet'.asked → (lines : List Reading) (own : List (ℕ × Edit)) (behind : Sheet) (last : List Edit) → Served opening limit lines known' sheet'.asked rs own behind last
    → (rs0 : List (Reply Why)) × (length rs0 ≡ length sheet.asked) × (own0 : List (ℕ × Edit)) × (told : Option (List ℕ)) × Served opening limit (line ∷ lines) known sheet.asked rs0 own0 (told ∷ behind) last × (whole sheet rs0 ++ told ∷ [] ≡ whole sheet' rs)
    × (sheet.numbers ++ numbers_of own0 ≡ sheet'.numbers ++ numbers_of own)

-- A line that is read so is served.
pub record Onward (opening : PoolRecord) (limit : ℕ) (known : List Edit) (sheet : SheetRecord) (known' : List Edit) (sheet' : SheetRecord) (line : Reading) : Type 0 where
  pub even : IsEven sheet'
  pub carries : Carries opening limit known sheet known' sheet' line

-- A line's bytes are served.
pub record LineServed (form : Form) (opening : PoolRecord) (limit : ℕ) (known : List Edit) (sheet : SheetRecord) (known' : List Edit) (sheet' : SheetRecord) (bytes : List ℕ) : Type 0 where
  pub reading : Reading
  pub is : IsReading form bytes reading
  pub onward : Onward opening limit known sheet known' sheet' reading

-- All bytes are served after what a sheet held: these are the replies and the numbers that stand on it then.
pub record BytesServed (form : Form) (opening : PoolRecord) (limit : ℕ) (known : List Edit) (sheet : SheetRecord) (known' : List Edit) (replies : Sheet) (numbers : List ℕ) (bytes : List ℕ) : Type 0 where
  pub lines : List Reading
  pub are : AreReadIn form (lines_of bytes) lines
  pub own : List (ℕ × Edit)
  pub told : Sheet
  pub served : Served opening limit lines known [] [] own told known'
  pub whole : replies ≡ whole sheet [] ++ told
  pub numbered : numbers ≡ sheet.numbers ++ numbers_of own

-- However the rest is served from here on, all bytes were served from there on.
abbrev pub RestCarries : Form → PoolRecord → ℕ → (known : List Edit) → SheetRecord → List ℕ → (known' : List Edit) → SheetRecord → (rest : List ℕ) → Type 0
RestCarries form opening limit known sheet bytes known' sheet' rest =
    (rs : List (Reply Why)) → length rs ≡ length sheet'.asked → (lines : List Reading) (own : List (ℕ × Edit)) (behind : Sheet) (last : List Edit) → AreReadIn form (lines_of rest) lines → Served opening limit lines known' sheet'.asked rs own behind last
    → BytesServed form opening limit known sheet last (whole sheet' rs ++ behind) (sheet'.numbers ++ numbers_of own) bytes

-- Bytes are served up to the rest.
pub record ServedTo (form : Form) (opening : PoolRecord) (limit : ℕ) (known : List Edit) (sheet : SheetRecord) (bytes : List ℕ) (known' : List Edit) (sheet' : SheetRecord) (rest : List ℕ) : Type 0 where
  pub even : IsEven sheet'
  pub carries : RestCarries form opening limit known sheet bytes known' sheet' rest

-- Each job that was run left what it leaves; the last of them may not have been run.
abbrev pub LeavesEach : {J L : Type 0} → (J → L → Type 0) → List J → List L → Type 0
LeavesEach leaves jobs [] = Unit {0}
LeavesEach leaves [] (left ∷ lefts) = ⊥
LeavesEach leaves (job ∷ jobs) (left ∷ lefts) = leaves job left × LeavesEach leaves jobs lefts
