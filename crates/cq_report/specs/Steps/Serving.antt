-- How far lines have been served.
use Rattle.std.specs.Prelude.{◌≡◌, ◌==◌, ◌<◌, ◌≤◌, ◌+◌, ◌⊎◌, ℕ, Bool, true, false, List, [], ◌∷◌, ◌++◌, length, Option, Some, None, ⊤}
use Rattle.std.specs.Io.KnownBytes.{Consumes, IsAtEnd}
use Rattle.cq_report.specs.declared.output.Output.{Output}
use Rattle.cq_devices.specs.declared.stop.Stop.{Stop}
use Rattle.cq_devices.specs.declared.stop.Stop.TheVariants as stops
use Rattle.cq_devices.specs.Limits.{max_piece}
use Rattle.cq_report.specs.Lines.{lines_of, whole_lines, HasNoEnd}
use Rattle.cq_report.specs.declared.manner.Manner.{Manner}
use Rattle.cq_report.specs.declared.manner.Manner.TheVariants as manners
use Rattle.cq_report.specs.Machine.{State}
use Rattle.cq_report.specs.Live.{Turn, IsTurn, AreTurns, MayStarve, is_done, line_room, turned, turn_reply, state_turned, replies_to}
use Rattle.cq_report.specs.Steps.Written.{Puts, Breaks}
use Rattle.cq_report.specs.Steps.Kept.{kept}

-- No line has an LF.
abbrev pub HaveNoEnd : List (List ℕ) → Type 0
HaveNoEnd [] = Unit {0}
HaveNoEnd (line ∷ lines) = HasNoEnd line × HaveNoEnd lines

-- The bytes of lines, each with its LF.
abbrev pub ended : List (List ℕ) → List ℕ
ended [] = []
ended (line ∷ lines) = line ++ (10 ∷ ended lines)

-- Lines are those of a script.
abbrev pub IsScript : Manner → Type 0
IsScript (manners.Script is_strict) = ⊤
IsScript manners.Live = ⊥

-- The same writer, and no failure of it.
pub record IsSound {W A : Type 0} (failures : W → ℕ) (old new : Output W A) : Type 0 where
  pub writer : new.sink.ghost_name ≡ old.sink.ghost_name
  pub failed : failures new.sink.now ≡ failures old.sink.now

-- ---- what is kept of a line

-- What is kept of the front of a line; nothing, if an allocation failed while it was kept.
abbrev pub Keeps : Option (List ℕ) → List ℕ → Type 0
Keeps None pending = line_room < length pending
Keeps (Some line) pending = line ≡ kept pending

-- Nothing of the line was read.
abbrev pub is_new : Option (List ℕ) → Bool
is_new None = false
is_new (Some line) = length line == 0

-- More bytes of the line were kept, or an allocation failed then or before.
abbrev pub KeepsOn : Option (List ℕ) → List ℕ → Option (List ℕ) → Type 0
KeepsOn None bytes None = ⊤
KeepsOn None bytes (Some line) = ⊥
KeepsOn (Some front) bytes None = line_room < length front + length bytes
KeepsOn (Some front) bytes (Some line) = (line ≡ kept (front ++ bytes)) ⊎ ((bytes ≡ []) × (line ≡ front))

-- The last bytes of the line were kept, unless it begins with them.
abbrev pub Ends : Option (List ℕ) → List ℕ → Option (List ℕ) → Type 0
Ends (Some []) last new = new ≡ Some []
Ends line last new = KeepsOn line last new

-- The line: its last bytes if it begins with them, and else what is kept.
abbrev pub whole_in : Option (List ℕ) → List ℕ → Option (List ℕ)
whole_in None last = None
whole_in (Some []) last = Some last
whole_in (Some (b ∷ bs)) last = Some (b ∷ bs)

-- What is known of a line that ended with these bytes in all: as much of it as is kept of any line; or nothing.
abbrev pub IsLine : Option (List ℕ) → List ℕ → Type 0
IsLine None all = line_room < length all
IsLine (Some line) all = kept line ≡ kept all

-- A line of which this is known is one at which an allocation may fail, if lines are not those of a script.
abbrev pub MayBeStarved : Manner → Option (List ℕ) → Type 0
MayBeStarved manner line = manner ≡ manners.Live → (all : List ℕ) → IsLine line all → MayStarve all

-- ---- one line

-- A line was served.
pub record Turns {W A : Type 0} (manner : Manner) (taken : W → Option (List ℕ)) (failures : W → ℕ) (old new : Output W A) (state state' : State) (line : List ℕ) : Type 0 where
  pub turn : Turn
  pub is : IsTurn manner state line turn
  pub after : state' ≡ turned state turn
  pub puts : Puts taken failures old new (turn_reply state turn)

-- The writer failed at the reply to a line.
pub record TurnBreaks {W A : Type 0} (manner : Manner) (taken : W → Option (List ℕ)) (failures : W → ℕ) (old new : Output W A) (state : State) (line : List ℕ) : Type 0 where
  pub turn : Turn
  pub is : IsTurn manner state line turn
  pub breaks : Breaks taken failures old new (turn_reply state turn) stops.Write

-- Memory ran out, which ends a script: nothing was put, and nothing waits. Lines were still heard.
pub record Starves {W A : Type 0} (manner : Manner) (taken : W → Option (List ℕ)) (failures : W → ℕ) (old new : Output W A) (state : State) : Type 0 where
  pub script : IsScript manner
  pub goes_on : is_done manner state ≡ false
  pub puts : Puts taken failures old new []
  pub held : new.held.now.items ≡ []

-- A line of which this is known was served.
abbrev pub Answers : {W A : Type 0} → Manner → (W → Option (List ℕ)) → (W → ℕ) → (old new : Output W A) → (state state' : State) → Option (List ℕ) → Type 0
Answers manner taken failures old new state state' line = (all : List ℕ) → IsLine line all → Turns manner taken failures old new state state' all

-- What is known of why it was not: the writer failed at what waited, or at the reply; or memory ran out.
abbrev pub AnswerStops : {W A : Type 0} → Manner → (W → Option (List ℕ)) → (W → ℕ) → (old new : Output W A) → State → Option (List ℕ) → Stop → Type 0
AnswerStops manner taken failures old new state line (stops.Read turn) = ⊥
AnswerStops manner taken failures old new state line stops.Write = Breaks taken failures old new [] stops.Write ⊎ ((all : List ℕ) → IsLine line all → TurnBreaks manner taken failures old new state all)
AnswerStops manner taken failures old new state line stops.NoMemory = Starves manner taken failures old new state

-- ---- bytes

-- The bytes are whole lines, which were served, and the front of a line.
pub record Served {W A : Type 0} (manner : Manner) (taken : W → Option (List ℕ)) (failures : W → ℕ) (first : Output W A) (opening : State) (now : Output W A) (state : State) (line : Option (List ℕ)) (bytes : List ℕ) : Type 0 where
  pub lines : List (List ℕ)
  pub pending : List ℕ
  pub cut : bytes ≡ ended lines ++ pending
  pub no_end : HaveNoEnd lines
  pub open_end : HasNoEnd pending
  pub keeps : Keeps line pending
  pub turns : List Turn
  pub are : AreTurns manner opening lines turns
  pub after : state ≡ state_turned opening turns
  pub puts : Puts taken failures first now (replies_to opening turns)

-- The writer failed while the bytes were served: a front of the replies to some first lines of them was written.
pub record Broken {W A : Type 0} (manner : Manner) (taken : W → Option (List ℕ)) (failures : W → ℕ) (first : Output W A) (opening : State) (now : Output W A) (bytes : List ℕ) : Type 0 where
  pub lines : List (List ℕ)
  pub more : List (List ℕ)
  pub cut : lines_of bytes ≡ lines ++ more
  pub turns : List Turn
  pub are : AreTurns manner opening lines turns
  pub breaks : Breaks taken failures first now (replies_to opening turns) stops.Write

-- Memory ran out in the piece behind the bytes, which ends a script: a front of the piece was served, and nothing else was put. Lines were still heard.
pub record Starved {W A : Type 0} (manner : Manner) (taken : W → Option (List ℕ)) (failures : W → ℕ) (first : Output W A) (opening : State) (now : Output W A) (bytes piece : List ℕ) : Type 0 where
  pub script : IsScript manner
  pub done : List ℕ
  pub rest : List ℕ
  pub cut : done ++ rest ≡ piece
  pub state : State
  pub line : Option (List ℕ)
  pub goes_on : is_done manner state ≡ false
  pub served : Served manner taken failures first opening now state line (bytes ++ done)
  pub held : now.held.now.items ≡ []

-- All lines of the bytes were served.
pub record Finished {W A : Type 0} (manner : Manner) (taken : W → Option (List ℕ)) (failures : W → ℕ) (first : Output W A) (opening : State) (now : Output W A) (state : State) (bytes : List ℕ) : Type 0 where
  pub turns : List Turn
  pub are : AreTurns manner opening (lines_of bytes) turns
  pub after : state ≡ state_turned opening turns
  pub puts : Puts taken failures first now (replies_to opening turns)

-- Some bytes more were served, whatever was served before them.
abbrev pub ServesOn : {W A : Type 0} → Manner → (W → Option (List ℕ)) → (W → ℕ) → (old new : Output W A) → (state state' : State) → (line line' : Option (List ℕ)) → (piece : List ℕ) → Type 0
ServesOn {W} {A} manner taken failures old new state state' line line' piece =
    (first : Output W A) (opening : State) (bytes : List ℕ) → Served manner taken failures first opening old state line bytes → Served manner taken failures first opening new state' line' (bytes ++ piece)

-- A stop came while some bytes more were served, whatever was served before them.
abbrev pub StopsOn : {W A : Type 0} → Manner → (W → Option (List ℕ)) → (W → ℕ) → (old new : Output W A) → State → (line : Option (List ℕ)) → (piece : List ℕ) → Stop → Type 0
StopsOn manner taken failures old new state line piece (stops.Read turn) = ⊥
StopsOn {W} {A} manner taken failures old new state line piece stops.Write =
    (first : Output W A) (opening : State) (bytes : List ℕ) → Served manner taken failures first opening old state line bytes → Broken manner taken failures first opening new (bytes ++ piece)
StopsOn {W} {A} manner taken failures old new state line piece stops.NoMemory =
    (first : Output W A) (opening : State) (bytes : List ℕ) → Served manner taken failures first opening old state line bytes → Starved manner taken failures first opening new bytes piece

-- The end came, whatever was served before it.
abbrev pub Finishes : {W A : Type 0} → Manner → (W → Option (List ℕ)) → (W → ℕ) → (old new : Output W A) → (state state' : State) → Option (List ℕ) → Type 0
Finishes {W} {A} manner taken failures old new state state' line =
    (first : Output W A) (opening : State) (bytes : List ℕ) → Served manner taken failures first opening old state line bytes → Finished manner taken failures first opening new state' bytes

-- ---- a source

-- The bytes were served, and no further line is heard.
pub record Ceased {W A : Type 0} (manner : Manner) (taken : W → Option (List ℕ)) (failures : W → ℕ) (first : Output W A) (opening : State) (now : Output W A) (state : State) (bytes : List ℕ) : Type 0 where
  pub line : Option (List ℕ)
  pub over : is_done manner state ≡ true
  pub served : Served manner taken failures first opening now state line bytes

-- Lines were heard before the last read, and the lines of all that was read were served.
pub record LastRead {W A : Type 0} (manner : Manner) (taken : W → Option (List ℕ)) (failures : W → ℕ) (opening : State) (left left' : Option (List ℕ)) (first now : Output W A) : Type 0 where
  pub before : List ℕ
  pub piece : List ℕ
  pub read : Consumes left left' (before ++ piece)
  pub small : length piece ≤ max_piece
  pub turns : List Turn
  pub are : AreTurns manner opening (whole_lines before) turns
  pub goes_on : is_done manner (state_turned opening turns) ≡ false
  pub more : List Turn
  pub all : AreTurns manner opening (lines_of (before ++ piece)) (turns ++ more)
  pub puts : Puts taken failures first now (replies_to opening (turns ++ more))

-- Bytes were read, and all lines of the source served: no bytes were left, or no further line is heard.
pub record ServedOut {W A : Type 0} (manner : Manner) (taken : W → Option (List ℕ)) (failures : W → ℕ) (opening state : State) (left left' : Option (List ℕ)) (first now : Output W A) : Type 0 where
  pub bytes : List ℕ
  pub read : Consumes left left' bytes
  pub ends : (IsAtEnd left' × Finished manner taken failures first opening now state bytes) ⊎ Ceased manner taken failures first opening now state bytes
  pub last : LastRead manner taken failures opening left left' first now
  pub held : now.held.now.items ≡ []

-- Bytes were read, all whole lines served, and nothing waits.
pub record BrokeOff {W A : Type 0} (manner : Manner) (taken : W → Option (List ℕ)) (failures : W → ℕ) (opening : State) (left left' : Option (List ℕ)) (first now : Output W A) : Type 0 where
  pub bytes : List ℕ
  pub read : Consumes left left' bytes
  pub state : State
  pub line : Option (List ℕ)
  pub goes_on : is_done manner state ≡ false
  pub served : Served manner taken failures first opening now state line bytes
  pub held : now.held.now.items ≡ []

-- Bytes were read, and the writer failed while they were served.
pub record BrokeDown {W A : Type 0} (manner : Manner) (taken : W → Option (List ℕ)) (failures : W → ℕ) (opening : State) (left left' : Option (List ℕ)) (first now : Output W A) : Type 0 where
  pub bytes : List ℕ
  pub read : Consumes left left' bytes
  pub broken : Broken manner taken failures first opening now bytes

-- Bytes were read, and memory ran out while the last piece of them was served.
pub record RanOut {W A : Type 0} (manner : Manner) (taken : W → Option (List ℕ)) (failures : W → ℕ) (opening : State) (left left' : Option (List ℕ)) (first now : Output W A) : Type 0 where
  pub bytes : List ℕ
  pub piece : List ℕ
  pub read : Consumes left left' (bytes ++ piece)
  pub short : length piece ≤ max_piece
  pub starved : Starved manner taken failures first opening now bytes piece

-- What is known of a stop.
abbrev pub Stopped : {W A : Type 0} → Manner → (W → Option (List ℕ)) → (W → ℕ) → State → (left left' : Option (List ℕ)) → (first now : Output W A) → Stop → Type 0
Stopped manner taken failures opening left left' first now (stops.Read turn) = BrokeOff manner taken failures opening left left' first now
Stopped manner taken failures opening left left' first now stops.Write = BrokeDown manner taken failures opening left left' first now
Stopped manner taken failures opening left left' first now stops.NoMemory = RanOut manner taken failures opening left left' first now
