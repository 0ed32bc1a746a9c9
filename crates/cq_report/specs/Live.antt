-- What is written for lines that are answered one at a time, and what an allocation that fails leaves. (this project's profile)
use Rattle.std.specs.Prelude.{◌≡◌, ◌≤◌, ◌<◌, ◌+◌, ◌^◌, ◌⊎◌, ◌&&◌, ℕ, nat_le, Bool, List, [], ◌∷◌, ◌++◌, length, Option, Some, None, true, false, ⊤}
use Rattle.std.specs.Option.{is_some}
use Rattle.std.specs.Io.KnownBytes.{Appends, Consumes}
use Rattle.cq_devices.specs.Device.{TakesFront}
use Rattle.cq_devices.specs.Limits.{max_piece, max_reads}
use Rattle.cq_devices.specs.declared.stop.Stop.{Stop}
use Rattle.cq_devices.specs.declared.stop.Stop.TheVariants as faults
use Rattle.cq_text.specs.declared.form.Form.{Form}
use Rattle.cq_report.specs.Lines.{lines_of, whole_lines}
use Rattle.cq_report.specs.Reading.{Reading, IsReading}
use Rattle.cq_desk.specs.declared.event.Event.TheVariants as events
use Rattle.cq_report.specs.Machine.{State, Staged, after, form_in, next, counted, memory_told, numbered, spoken, reply, begin_life, outcome, serving_of}
use Rattle.cq_report.specs.declared.stage.Stage.TheVariants.{Setup, Serving}
use Rattle.cq_ask.specs.Ask.{AskRecord, asked, is_checkpoint, is_find, is_quit}
use Rattle.cq_ask.specs.declared.ask.AskKind.{AskKind}
use Rattle.cq_ask.specs.declared.ask.AskKind.TheVariants as kinds
use Rattle.cq_ask.specs.Answer.{FloorRecord, IsTold, ending, published_pool}
use Rattle.cq_ask.specs.Data.{IsMember}
use Rattle.cq_report.specs.Find.{IsFindTold, place_of}
use Rattle.cq_report.specs.declared.manner.Manner.{Manner}
use Rattle.cq_report.specs.declared.manner.Manner.TheVariants as manners
use Rattle.cq_report.specs.declared.numbering.Numbering.{Numbering}
use Rattle.cq_report.specs.declared.numbering.Numbering.TheVariants.{Plain, Numbered, Json}

-- What comes of a line: it is served as it is read; or it is, and then a checkpoint is made that is due; or it asks, and this is told; or an allocation
-- failed; or the board is over, and does not hear it.
pub data Turn : Type 0 where
  Served : Reading → Turn
  Renewed : Reading → Turn
  Asked : AskRecord → List ℕ → Turn
  OutOfMemory : Turn
  Unheard : Turn

-- What is asked is answered in lines.
abbrev pub IsAnswer : Form → FloorRecord → AskRecord → List ℕ → Type 0
IsAnswer form floor ask told = (text : List ℕ) × IsTold form floor ask text × (told ≡ text ++ ending ask.kind)

-- What is asked is answered, in lines, or by a member of a JSON object.
abbrev pub IsAskTold : Form → Numbering → FloorRecord → AskRecord → List ℕ → Type 0
IsAskTold form Plain floor ask told = IsAnswer form floor ask told
IsAskTold form Numbered floor ask told = IsAnswer form floor ask told
IsAskTold form Json floor ask told = IsMember form floor ask told

-- A checkpoint that is asked for is answered as the floor answers it; groundings are told one by one; anything else is told. Only a checkpoint changes anything.
abbrev pub IsSettled : Bool → Bool → Form → Numbering → FloorRecord → AskRecord → List ℕ → Type 0
IsSettled true finds form numbering floor ask told = told ≡ spoken numbering (outcome floor events.Checkpoint) []
IsSettled false true form numbering floor ask told = IsFindTold form (place_of ask.kind) numbering (published_pool floor) ask.text told
IsSettled false false form numbering floor ask told = IsAskTold form numbering floor ask told

-- The stage after a checkpoint, which may be refused. A setup lasts, since nothing has happened yet.
abbrev pub stage_renewed : Staged → Staged
stage_renewed (Setup setup) = Setup setup
stage_renewed (Serving serving) = Serving (after serving events.Checkpoint)

-- The board after that.
abbrev pub renewed : State → State
renewed state = record state { stage = stage_renewed state.stage }

-- A checkpoint is due: so many entries were entered since the last one, and all are published. None ever is where that number is 0.
abbrev pub is_due : State → Bool
is_due state = nat_le 1 state.every && (nat_le state.every (length (serving_of state.stage).journal) && nat_le (length (serving_of state.stage).journal) (serving_of state.stage).published)

-- What is asked needs memory to be told, unless it is counts, or that no further line is heard.
abbrev pub needs_memory : AskKind → Bool
needs_memory kinds.Count = false
needs_memory kinds.Quit = false
needs_memory _ = true

-- What a line asks. Lines of a script ask nothing.
abbrev pub asked_in : Manner → List ℕ → Option AskRecord
asked_in manners.Live line = asked line
asked_in (manners.Script is_strict) line = None

-- No further line is heard: `quit` was answered; or the script is strict, and a line of it was refused.
abbrev pub is_done : Manner → State → Bool
is_done manners.Live state = state.is_over
is_done (manners.Script is_strict) state = is_strict && is_some state.tally.first

-- How many bytes of a line there is always room for.
abbrev pub line_room : ℕ
line_room = 64

-- An allocation may fail at any line that is longer than that, and at any other but `count` and `quit`.
abbrev pub MayStarve : List ℕ → Type 0
MayStarve line = (line_room < length line) ⊎ ((ask : AskRecord) → asked line ≡ Some ask → needs_memory ask.kind ≡ true)

-- A line that does not ask is served as it is read in this state; one that asks has an answer of what is published. If an allocation fails, only a script
-- ends. A live board makes a checkpoint that is due, unless an allocation fails: then it is due after later lines too.
abbrev pub IsTurn : Manner → State → List ℕ → Turn → Type 0
IsTurn manner state line (Served reading) = (is_done manner state ≡ false) × (asked_in manner line ≡ None) × IsReading (form_in state) line reading
IsTurn manner state line (Renewed reading) = (is_done manner state ≡ false) × (manner ≡ manners.Live) × (asked_in manner line ≡ None) × IsReading (form_in state) line reading × (is_due (next state reading) ≡ true)
IsTurn manner state line (Asked ask told) = (is_done manner state ≡ false) × (asked_in manner line ≡ Some ask) × IsSettled (is_checkpoint ask.kind) (is_find ask.kind) (form_in state) state.numbering (serving_of state.stage) ask told
IsTurn manner state line OutOfMemory = (is_done manner state ≡ false) × (manner ≡ manners.Live) × MayStarve line
IsTurn manner state line Unheard = is_done manner state ≡ true

-- The stage after what is asked: only a checkpoint changes it.
abbrev pub stage_asked : Bool → Staged → Staged
stage_asked true stage = stage_renewed stage
stage_asked false stage = stage

-- The board after a line. One that asks for no checkpoint changes nothing, but that it is counted, and that the board may be over; one at which an allocation
-- failed is counted alone.
abbrev pub turned : State → Turn → State
turned state (Served reading) = next state reading
turned state (Renewed reading) = renewed (next state reading)
turned state (Asked ask told) = record (counted state) { stage = stage_asked (is_checkpoint ask.kind) state.stage; is_over = is_quit ask.kind }
turned state OutOfMemory = counted state
turned state Unheard = state

-- The reply to a line.
abbrev pub turn_reply : State → Turn → List ℕ
turn_reply state (Served reading) = reply state reading
turn_reply state (Renewed reading) = reply state reading
turn_reply state (Asked ask told) = numbered state.numbering state.lines told
turn_reply state OutOfMemory = numbered state.numbering state.lines (memory_told state.numbering)
turn_reply state Unheard = []

-- These come of the lines, one after another.
abbrev pub AreTurns : Manner → State → List (List ℕ) → List Turn → Type 0
AreTurns manner state [] [] = ⊤
AreTurns manner state [] (turn ∷ turns) = ⊥
AreTurns manner state (line ∷ lines) [] = ⊥
AreTurns manner state (line ∷ lines) (turn ∷ turns) = IsTurn manner state line turn × AreTurns manner (turned state turn) lines turns

-- The board after lines of which these come.
abbrev pub state_turned : State → List Turn → State
state_turned state [] = state
state_turned state (turn ∷ turns) = state_turned (turned state turn) turns

-- The replies to them.
abbrev pub replies_to : State → List Turn → List ℕ
replies_to state [] = []
replies_to state (turn ∷ turns) = turn_reply state turn ++ replies_to (turned state turn) turns

-- ---- what a life leaves after

-- The replies to these lines were written, and nothing else.
pub record Answered (numbering : Numbering) (every : ℕ) (lines : List (List ℕ)) (taken taken' : Option (List ℕ)) : Type 0 where
  pub turns : List Turn
  pub are : AreTurns manners.Live (begin_life numbering every) lines turns
  pub wrote : Appends taken taken' (replies_to (begin_life numbering every) turns)

-- All that was read is this: bytes after whose whole lines the board was not over, and the piece that the last read brought. The replies to all lines of both were written.
pub record ReadNoFurther (numbering : Numbering) (every : ℕ) (left left' taken taken' : Option (List ℕ)) : Type 0 where
  pub before : List ℕ
  pub piece : List ℕ
  pub read : Consumes left left' (before ++ piece)
  pub small : length piece ≤ max_piece
  pub turns : List Turn
  pub are : AreTurns manners.Live (begin_life numbering every) (whole_lines before) turns
  pub goes_on : (state_turned (begin_life numbering every) turns).is_over ≡ false
  pub more : List Turn
  pub all : AreTurns manners.Live (begin_life numbering every) (lines_of (before ++ piece)) (turns ++ more)
  pub wrote : Appends taken taken' (replies_to (begin_life numbering every) (turns ++ more))

-- Bytes were read, and the replies to their whole lines were written.
pub record AnsweredWhole (numbering : Numbering) (every : ℕ) (left left' taken taken' : Option (List ℕ)) : Type 0 where
  pub bytes : List ℕ
  pub read : Consumes left left' bytes
  pub answered : Answered numbering every (whole_lines bytes) taken taken'

-- Bytes were read, and a front of the replies to some first lines of them was written.
pub record AnsweredFront (numbering : Numbering) (every : ℕ) (left left' taken taken' : Option (List ℕ)) : Type 0 where
  pub bytes : List ℕ
  pub read : Consumes left left' bytes
  pub lines : List (List ℕ)
  pub more : List (List ℕ)
  pub cut : lines_of bytes ≡ lines ++ more
  pub turns : List Turn
  pub are : AreTurns manners.Live (begin_life numbering every) lines turns
  pub wrote : TakesFront taken taken' (replies_to (begin_life numbering every) turns)

-- What is known after a fault: after one of reading all whole lines are answered, and where there was no memory to begin with nothing was read or written.
abbrev pub Leaves : Numbering → ℕ → Stop → (left left' taken taken' : Option (List ℕ)) → Type 0
Leaves numbering every (faults.Read turn) left left' taken taken' = AnsweredWhole numbering every left left' taken taken'
Leaves numbering every faults.Write left left' taken taken' = AnsweredFront numbering every left left' taken taken'
Leaves numbering every faults.NoMemory left left' taken taken' = (left' ≡ left) × (taken' ≡ taken)

-- The most reads of one life.
abbrev pub max_live_reads : ℕ
max_live_reads = 2 ^ 62

-- The most reads that are made to serve lines in this manner.
abbrev pub most_reads : Manner → ℕ
most_reads (manners.Script is_strict) = max_reads
most_reads manners.Live = max_live_reads

-- What a fault says of the reads: the turn is the number of the one that failed; or all that may be made were made, and the turn is one more. With another
-- fault none failed.
abbrev pub ReadsFailed : ℕ → Stop → (reads reads' failures failures' : ℕ) → Type 0
ReadsFailed most (faults.Read turn) reads reads' failures failures' =
    ((reads' ≡ reads + turn) × (failures' ≡ failures + 1))
    ⊎ ((turn ≡ most + 1) × (reads' ≡ reads + most) × (failures' ≡ failures))
ReadsFailed most faults.Write reads reads' failures failures' = failures' ≡ failures
ReadsFailed most faults.NoMemory reads reads' failures failures' = failures' ≡ failures
