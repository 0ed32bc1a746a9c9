-- What is written for a script (this project's profile).
use Rattle.std.specs.Prelude.{◌≡◌, ◌⊎◌, ℕ, Bool, true, List, [], ◌∷◌, ◌++◌, Option, Some, None}
use Rattle.std.specs.Io.KnownBytes.{Appends}
use Rattle.cq_text.specs.declared.form.Form.{Form}
use Rattle.cq_board.specs.Pool.{PoolRecord}
use Rattle.cq_report.specs.declared.numbering.Numbering.{Numbering}
use Rattle.cq_report.specs.declared.numbering.Numbering.TheVariants.{Plain}
use Rattle.cq_report.specs.declared.refusal.Refusal.{Refusal}
use Rattle.cq_report.specs.declared.tally.Tally.{Tally}
use Rattle.cq_report.specs.Lines.{lines_of}
use Rattle.cq_report.specs.Reading.{Reading, IsReading}
use Rattle.cq_report.specs.Refusals.{no_refusal}
use Rattle.cq_report.specs.Machine.{State, ServingRecord, begin_state, form_in, form_of, headed, next, reply, serving_of, shown}

-- Each line has its reading, in the form that is settled before it.
abbrev pub AreReadFrom : Option Form → List (List ℕ) → List Reading → Type 0
AreReadFrom heading [] [] = Unit {0}
AreReadFrom heading [] (reading ∷ readings) = ⊥
AreReadFrom heading (line ∷ lines) [] = ⊥
AreReadFrom heading (line ∷ lines) (reading ∷ readings) = IsReading (form_of heading) line reading × AreReadFrom (headed heading reading) lines readings

-- Each line of a script has its reading.
abbrev pub AreReadings : List (List ℕ) → List Reading → Type 0
AreReadings lines readings = AreReadFrom None lines readings

-- The state after some lines.
abbrev pub state_after : State → List Reading → State
state_after state [] = state
state_after state (reading ∷ readings) = state_after (next state reading) readings

-- The replies to lines, one after another.
abbrev pub output_from : State → List Reading → List ℕ
output_from state [] = []
output_from state (reading ∷ readings) = reply state reading ++ output_from (next state reading) readings

-- What is written for lines that are read so, with the numbers of the lines or without them.
abbrev pub output : Numbering → List Reading → List ℕ
output numbering readings = output_from (begin_state numbering) readings

-- The last of the lines so far was refused, and none before it.
abbrev pub IsRefusedLast : State → Type 0
IsRefusedLast state = (why : Refusal) × (state.tally ≡ record { refused = 1; first = Some (record { line = state.lines; why = why }) })

-- All lines of a script, or, where it is strict and a line is refused, those down to the first such line: they have readings, and however they are read,
-- their output was written, and this state is left.
pub record Heard (is_strict : Bool) (numbering : Numbering) (input : List ℕ) (taken taken' : Option (List ℕ)) (state : State) : Type 0 where
  pub lines : List (List ℕ)
  pub more : List (List ℕ)
  pub cut : lines_of input ≡ lines ++ more
  pub ends : ((more ≡ []) × (is_strict ≡ true → state.tally ≡ no_refusal)) ⊎ ((is_strict ≡ true) × IsRefusedLast state)
  pub readings : List Reading
  pub are : AreReadings lines readings
  pub wrote : (rs : List Reading) → AreReadings lines rs → (state ≡ state_after (begin_state numbering) rs) × Appends taken taken' (output numbering rs)

-- What a script leaves: its floor, its form, how many lines it had, and which of them were refused.
pub record Left : Type 0 where
  pub floor : ServingRecord
  pub form : Form
  pub lines : ℕ
  pub tally : Tally

-- Where the lines end no setup, the floor is the one that it opens.
abbrev pub left_in : State → Left
left_in state = record { floor = serving_of state.stage; form = form_in state; lines = state.lines; tally = state.tally }

-- What lines leave that are read so.
abbrev pub left_after : List Reading → Left
left_after readings = left_in (state_after (begin_state Plain) readings)

-- The floor of it.
abbrev pub floor_left : List Reading → ServingRecord
floor_left readings = (left_after readings).floor

-- The pool that a look would show after them.
abbrev pub pool_left : List Reading → PoolRecord
pool_left readings = shown (floor_left readings)
