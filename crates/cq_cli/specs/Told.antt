-- What is told in the end of a script that is replayed, also with why lines are refused. (this project's profile)
use Rattle.std.specs.Prelude.{◌≡◌, ℕ, ◌-◌, ◌^◌, nat_lt, Bool, true, false, List, [], ◌++◌, take, codes, Option, if◌then◌else◌}
use Rattle.std.specs.Option.{is_some}
use Rattle.cq_rel.specs.Tables.{Declaration}
use Rattle.cq_board.specs.declared.limits.Limits.{Limits}
use Rattle.cq_render.specs.Report.{line}
use Rattle.cq_devices.specs.declared.stop.Stop.{Stop}
use Rattle.cq_devices.specs.declared.stop.Stop.TheVariants as stops
use Rattle.cq_report.specs.Lines.{lines_of}
use Rattle.cq_report.specs.declared.numbering.Numbering.{Numbering}
use Rattle.cq_report.specs.declared.numbering.Numbering.TheVariants.{Plain}
use Rattle.cq_report.specs.Machine.{State, begin_state, shown}
use Rattle.cq_report.specs.Output.{Heard, left_in}
use Rattle.cq_report.specs.Summary.{summary}
use Rattle.cq_why.specs.Why.{AreWhys, is_mark}
use Rattle.cq_cli.specs.declared.status.Status.{Status}
use Rattle.cq_cli.specs.declared.status.Status.TheVariants.{BadFile, Failed, NoMemory}
use Rattle.cq_cli.specs.Status.{status_after}
use Rattle.cq_cli.specs.Views.{mark_note}

-- As many lines as were heard, or the most that are told of.
abbrev pub told_lines : ℕ → ℕ
told_lines lines = if nat_lt lines (2 ^ 64 - 1) then lines else 2 ^ 64 - 1

-- The summary, where it is asked for.
abbrev pub summary_if : Bool → List ℕ → State → List ℕ
summary_if false origin state = []
summary_if true origin state = line (codes "board: " ++ origin ++ summary (left_in state))

-- What is told in the end: that a byte order mark stands in front of the script, where one does, and the summary, where it is asked for.
abbrev pub end_words : List ℕ → (marked is_summed : Bool) → State → List ℕ
end_words origin marked is_summed state = mark_note origin marked ++ summary_if is_summed origin state

-- The lines of a script were heard, down to the first that is refused where it is strict; their output was written, that was told in the end, and the status tells whether a strict replay met such a line.
pub record IsReplayed (is_strict is_summed : Bool) (numbering : Numbering) (origin input : List ℕ) (status : Status) (taken taken' : Option (List ℕ)) (Noted : List ℕ → Type 0) : Type 0 where
  pub state : State
  pub heard : Heard is_strict numbering input taken taken' state
  pub ends : status ≡ status_after is_strict (is_some state.tally.first)
  pub told : Noted (end_words origin (is_mark [] input) is_summed state)

-- The relations that a script declares.
abbrev pub relations_of : State → List Declaration
relations_of state = (shown (left_in state).floor).tables.catalog

-- The limits of its board.
abbrev pub limits_of : State → Limits
limits_of state = (shown (left_in state).floor).limits

-- What is wrong with the lines that were heard, and the summary.
pub record IsToldOf (origin : List ℕ) (is_summed : Bool) (script : List ℕ) (state : State) (text : List ℕ) : Type 0 where
  pub whys : List ℕ
  pub are : AreWhys origin (limits_of state) (relations_of state) (begin_state Plain) (take (told_lines state.lines) (lines_of script)) whys
  pub is : text ≡ whys ++ summary_if is_summed origin state

-- A script that is read whole is no device: one that is too long is a file that fails.
abbrev pub status_of_text : Stop → Status
status_of_text (stops.Read turn) = BadFile
status_of_text stops.Write = Failed
status_of_text stops.NoMemory = NoMemory
