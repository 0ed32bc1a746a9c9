-- The lines of a setup, one after another.
use Rattle.std.specs.Prelude.{◌≡◌, ℕ, true, false, Option, List, [], ◌∷◌, ◌++◌, map}
use Rattle.cq_text.specs.declared.form.Form.{Form}
use Rattle.cq_sessions.specs.declared.sheet.Line.TheVariants.{Told}
use Rattle.cq_report.specs.declared.stage.Stage.TheVariants as stages
use Rattle.cq_report.specs.Lines.{lines_of}
use Rattle.cq_report.specs.Reading.{Reading, IsReading, AreReadIn}
use Rattle.cq_report.specs.declared.numbering.Numbering.TheVariants.{Plain}
use Rattle.cq_report.specs.Machine.{SetupRecord, begin_state, form_of, headed, staged}
use Rattle.cq_report.specs.Reply.{outcome_line}
use Rattle.cq_report.specs.Output.{AreReadings}
use Rattle.cq_sessions.specs.Sessions.{is_of_setup, IsSetBy, BeginsBoard, setup_sheet, told_or_none}
use Rattle.cq_sessions.specs.Steps.Sheets.{SheetRecord, blank}

-- A command of a setup is answered as a replay answers it, where this form is settled before it, if any.
pub record Sets (heading : Option Form) (setup : SetupRecord) (sheet : SheetRecord) (setup' : SetupRecord) (sheet' : SheetRecord) (reading : Reading) : Type 0 where
  pub of_setup : is_of_setup reading ≡ true
  pub stage : (staged (stages.Setup setup) heading reading).0 ≡ stages.Setup setup'
  pub told : sheet' ≡ record sheet { batch = sheet.batch ++ Told (told_or_none (outcome_line (staged (stages.Setup setup) heading reading).1)) ∷ [] }

-- The command is none of a setup, and nothing was done.
pub record Stays (setup : SetupRecord) (sheet : SheetRecord) (setup' : SetupRecord) (sheet' : SheetRecord) (reading : Reading) : Type 0 where
  pub other : is_of_setup reading ≡ false
  pub setup_stays : setup' ≡ setup
  pub sheet_stays : sheet' ≡ sheet

-- A line of a setup is answered.
pub record SetsLine (heading : Option Form) (setup : SetupRecord) (sheet : SheetRecord) (heading' : Option Form) (setup' : SetupRecord) (sheet' : SheetRecord) (line : List ℕ) : Type 0 where
  pub reading : Reading
  pub is : IsReading (form_of heading) line reading
  pub settles : heading' ≡ headed heading reading
  pub sets : Sets heading setup sheet setup' sheet' reading

-- The line is none of a setup, and nothing was done.
pub record IsBehind (heading : Option Form) (setup : SetupRecord) (sheet : SheetRecord) (heading' : Option Form) (setup' : SetupRecord) (sheet' : SheetRecord) (line : List ℕ) : Type 0 where
  pub other : (reading : Reading) → IsReading (form_of heading) line reading → is_of_setup reading ≡ false
  pub heading_stays : heading' ≡ heading
  pub setup_stays : setup' ≡ setup
  pub sheet_stays : sheet' ≡ sheet

-- The bytes up to the rest are lines of a setup, all of which are answered.
pub record SetTo (bytes rest : List ℕ) (heading : Option Form) (setup : SetupRecord) (sheet : SheetRecord) : Type 0 where
  pub lines : List (List ℕ)
  pub cut : lines_of bytes ≡ lines ++ lines_of rest
  pub front : List Reading
  pub are : AreReadings lines front
  pub set : IsSetBy (begin_state Plain) front heading setup
  pub told : sheet ≡ record blank { batch = map Told (setup_sheet (begin_state Plain) front) }

-- The rest, read in this form, has no line of a setup first.
abbrev pub RestBegins : Form → List ℕ → Type 0
RestBegins form rest = (behind : List Reading) → AreReadIn form (lines_of rest) behind → BeginsBoard behind
