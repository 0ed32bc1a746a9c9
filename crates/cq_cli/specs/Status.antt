-- How the program ends. (this project's profile)
use Rattle.std.specs.Prelude.{ℕ, Bool, true, false, Result, Ok, Err}
use Rattle.cq_devices.specs.declared.stop.Stop.{Stop}
use Rattle.cq_devices.specs.declared.stop.Stop.TheVariants as stops
use Rattle.cq_sessions.specs.declared.fault.SessionsFault.{SessionsFault}
use Rattle.cq_sessions.specs.declared.fault.SessionsFault.TheVariants as sessions
use Rattle.cq_cli.specs.declared.rows.RowsFault.{RowsFault}
use Rattle.cq_cli.specs.declared.rows.RowsFault.TheVariants as rows
use Rattle.cq_cli.specs.declared.sessions.FileFault.TheVariants as file
use Rattle.cq_cli.specs.declared.sessions.FilesFault.{FilesFault}
use Rattle.cq_cli.specs.declared.sessions.FilesFault.TheVariants as files
use Rattle.cq_going.specs.declared.telling.Outcome.{Outcome}
use Rattle.cq_going.specs.declared.telling.Outcome.TheVariants as sought
use Rattle.cq_cli.specs.declared.choices.ChoiceFault.{ChoiceFault}
use Rattle.cq_cli.specs.declared.choices.ChoiceFault.TheVariants as choices
use Rattle.cq_cli.specs.declared.status.Status.{Status}
use Rattle.cq_cli.specs.declared.status.Status.TheVariants.{Done, Failed, Usage, NoMemory, BadRecord, Unserved, NotSo, Undecided, BadFile, LineRefused}

-- Done is 0, a device that failed is 1, and so are sessions that were not served and a file that failed, a fault of usage is 2, out of memory is 3, a record at fault is 4, what is not so on a board is 5, what was not decided is 6, a line at which a strict replay ends is 7.
abbrev pub code_of : Status → ℕ
code_of Done = 0
code_of Failed = 1
code_of Usage = 2
code_of NoMemory = 3
code_of BadRecord = 4
code_of Unserved = 1
code_of NotSo = 5
code_of Undecided = 6
code_of BadFile = 1
code_of LineRefused = 7

-- A read or a write that fails is a device that failed.
abbrev pub status_of_run : Stop → Status
status_of_run (stops.Read turn) = Failed
status_of_run stops.Write = Failed
status_of_run stops.NoMemory = NoMemory

-- A file whose reading fails is none of the standard devices. Nothing is written to it.
abbrev pub status_of_reading : Stop → Status
status_of_reading (stops.Read turn) = Unserved
status_of_reading stops.Write = Unserved
status_of_reading stops.NoMemory = NoMemory

-- A fault of writing is a device that failed; sessions without a place or a thread were not served.
abbrev pub status_of_sessions : SessionsFault → Status
status_of_sessions sessions.Write = Failed
status_of_sessions sessions.Places = Unserved
status_of_sessions sessions.Thread = Unserved
status_of_sessions sessions.NoMemory = NoMemory

-- No file and too many are a fault of usage; a file that does not open is none of the standard devices.
abbrev pub status_of_files : FilesFault → Status
status_of_files files.NoFile = Usage
status_of_files files.TooMany = Usage
status_of_files (files.File (file.Open path)) = Unserved
status_of_files (files.File (file.Read fault)) = status_of_reading fault
status_of_files (files.Run fault) = status_of_sessions fault

-- A relation's name and an arity are words, so they are a fault of usage; a record at fault is neither.
abbrev pub status_of_rows : RowsFault → Status
status_of_rows rows.BadName = Usage
status_of_rows rows.BadArity = Usage
status_of_rows rows.BadDelimiter = Usage
status_of_rows (rows.Read turn) = Failed
status_of_rows rows.Write = Failed
status_of_rows (rows.Width line index arity fields) = BadRecord
status_of_rows (rows.Text line index field flaw) = BadRecord
status_of_rows rows.NoMemory = NoMemory

-- A choice that was found is told; that there is none is what is not so.
abbrev pub status_of_outcome : Outcome → Status
status_of_outcome sought.Found = Done
status_of_outcome sought.Impossible = NotSo
status_of_outcome sought.Undecided = Undecided

-- Words that are no choice and no name are a fault of usage.
abbrev pub status_of_choices : ChoiceFault → Status
status_of_choices (choices.Bad word) = Usage
status_of_choices (choices.Name word) = Usage
status_of_choices choices.NoMemory = NoMemory

-- How the program ends where this was reported, or where that fault kept it from being reported.
abbrev pub ended : Result Status Stop → Status
ended (Ok status) = status
ended (Err fault) = status_of_run fault

-- What was asked for was refused before anything of it was written: for its words, for a record of CSV, or for what sessions want.
abbrev pub IsRefused : Status → Type 0
IsRefused Done = ⊥
IsRefused Failed = ⊥
IsRefused Usage = Unit {0}
IsRefused NoMemory = ⊥
IsRefused BadRecord = Unit {0}
IsRefused Unserved = Unit {0}
IsRefused NotSo = ⊥
IsRefused Undecided = ⊥
IsRefused BadFile = ⊥
IsRefused LineRefused = ⊥

-- What failed where a file was read and the sink did not fail was the file.
abbrev pub over_file : Status → Bool → Status
over_file Failed true = BadFile
over_file Failed false = Failed
over_file Done whole = Done
over_file Usage whole = Usage
over_file NoMemory whole = NoMemory
over_file BadRecord whole = BadRecord
over_file Unserved whole = Unserved
over_file NotSo whole = NotSo
over_file Undecided whole = Undecided
over_file BadFile whole = BadFile
over_file LineRefused whole = LineRefused

-- Over a file, such a failure is the file's; over standard input, each status stays.
abbrev pub over_source : (is_file whole : Bool) → Status → Status
over_source true whole status = over_file status whole
over_source false whole status = status

-- How the program ends after a script, of which a line may have been refused.
abbrev pub status_after : (is_strict has_refused : Bool) → Status
status_after true true = LineRefused
status_after true false = Done
status_after false has_refused = Done

-- What was asked of a board was told.
abbrev pub IsTold : Status → Type 0
IsTold Done = Unit {0}
IsTold Failed = ⊥
IsTold Usage = ⊥
IsTold NoMemory = ⊥
IsTold BadRecord = ⊥
IsTold Unserved = ⊥
IsTold NotSo = Unit {0}
IsTold Undecided = Unit {0}
IsTold BadFile = ⊥
IsTold LineRefused = ⊥
