-- What is said of a board that a script leaves.
use Rattle.std.proofs.Common.{◌≡◌, ◌∙◌, ◌<◌, ℕ, Bool, true, false, ◌+◌, nat_le, List, [], Option, refl, sym, ap, subst, arith, inl, inr}
use Rattle.std.proofs.lemmas.Bool.Decides.{nat_tests}
use Rattle.std.specs.Prelude.{◌⊎◌, Result, Ok, Err, IfOk, IfErr, IfSome}
use Rattle.std.proofs.lemmas.Option.{IfSome_then}
use Rattle.cq_board.specs.Choice.{ChoiceRecord}
use Rattle.cq_report.specs.Live.{ReadsFailed, max_live_reads}
use Rattle.cq_devices.specs.declared.stop.Stop.{Stop}
use Rattle.cq_devices.specs.declared.stop.Stop.TheVariants as stops
use Rattle.cq_devices.specs.Device.{FailedAtTurn, IfAtTurn, IsAtTurn, write_failures_of}
use Rattle.cq_report.specs.Lines.{lines_of}
use Rattle.cq_report.specs.Reading.{Reading}
use Rattle.cq_report.specs.Output.{AreReadings, Left, left_after}
use Rattle.cq_cli.specs.declared.choices.ChoiceFault.{ChoiceFault}
use Rattle.cq_cli.specs.declared.choices.ChoiceFault.TheVariants as choices
use Rattle.cq_cli.specs.declared.status.Status.{Status}
use Rattle.cq_cli.specs.declared.rows.RowsFault.{RowsFault}
use Rattle.cq_cli.specs.declared.rows.RowsFault.TheVariants as rows
use Rattle.cq_cli.specs.declared.status.Status.TheVariants.{Done, Failed, Usage, NoMemory, BadRecord, Unserved, NotSo, Undecided, BadFile, LineRefused}
use Rattle.cq_going.specs.declared.telling.Outcome.{Outcome}
use Rattle.cq_going.specs.declared.telling.Outcome.TheVariants as sought
use Rattle.cq_cli.specs.Status.{IsRefused, IsTold, ended, over_file, over_source, status_of_outcome, status_of_choices, status_of_rows, status_of_run}
use Rattle.cq_cli.specs.Devices.{DeviceCounts, EndsRun, LeavesRefused, ReportsFailures, ReportsOver, ReportsWriting}
use Rattle.cq_cli.specs.Rows.{MatchFault, IsOfReader}
use Rattle.cq_cli.specs.Rows as rows_failures
use Rattle.cq_ask.specs.Choices.{StandForChoices}
use Rattle.cq_why.specs.Why.{is_mark}

-- it ended by a fault of reading the script
pub read_ends : {X : Type 0} (before after : DeviceCounts) (fault : Stop) → IfAtTurn fault (λ turn. FailedAtTurn turn before.reads after.reads before.read_failures after.read_failures) → ((IsAtTurn fault → ⊥) → after.read_failures ≡ before.read_failures)
    → write_failures_of fault ≡ 0 → after.write_failures ≡ before.write_failures → EndsRun {X = X} before after (Err fault)
read_ends before after fault at unread none same = record { turn = at; read_failures = unread; write_failures = omega (arith, same, none) }

-- it ended by a fault of an answer, which is none of reading
pub answer_ends : {X : Type 0} (before after : DeviceCounts) (fault : Stop) → (IsAtTurn fault → ⊥) → after.read_failures ≡ before.read_failures → after.write_failures ≡ before.write_failures + write_failures_of fault → EndsRun {X = X} before after (Err fault)
answer_ends before after (stops.Read turn) no_read same writes = absurd (no_read tt)
answer_ends before after stops.Write no_read same writes = record { turn = tt; read_failures = λ _. same; write_failures = writes }
answer_ends before after stops.NoMemory no_read same writes = record { turn = tt; read_failures = λ _. same; write_failures = writes }

-- what holds whether a run failed or not holds where it failed
pub where_failed : (r : Result Status Stop) {P : Type 0} → P → IfErr r (λ fault. P)
where_failed (Ok status) p = tt
where_failed (Err fault) p = p

-- what is said of choices is said of words that stand for them
pub said_of_words : (left : Option (List ℕ)) (words : List (List ℕ)) (choices : List ChoiceRecord) (Says : Bool → Left → List ChoiceRecord → Type 0) → StandForChoices words choices
    → IfSome left (λ input. (readings : List Reading) → AreReadings (lines_of input) readings → Says (is_mark [] input) (left_after readings) choices)
    → IfSome left (λ input. (readings : List Reading) → AreReadings (lines_of input) readings → (chosen : List ChoiceRecord) × StandForChoices words chosen × Says (is_mark [] input) (left_after readings) chosen)
said_of_words left words choices Says stand said = IfSome_then left said (λ input says readings are. (choices, stand, says readings are))

-- no device failed
pub none_failed : (before after : DeviceCounts) (status : Status) → (status ≡ Failed → ⊥) → after.read_failures ≡ before.read_failures → after.write_failures ≡ before.write_failures → ReportsFailures before after status
none_failed before after status other reads writes = record {
  read = λ rises. absurd (omega (arith, rises, reads));
  write = λ rises. absurd (omega (arith, rises, writes));
  failed = λ is. absurd (other is);
}

-- the status after a fault of a run reports it
pub run_reported : (before after : DeviceCounts) (fault : Stop) → IfAtTurn fault (λ turn. FailedAtTurn turn before.reads after.reads before.read_failures after.read_failures) → ((IsAtTurn fault → ⊥) → after.read_failures ≡ before.read_failures)
    → after.write_failures ≡ before.write_failures + write_failures_of fault → ReportsFailures before after (status_of_run fault)
run_reported before after (stops.Read n) turn reads writes = record { read = λ _. refl; write = λ _. refl; failed = λ _. inr (inl (n, turn)) }
run_reported before after stops.Write turn reads writes = record { read = λ _. refl; write = λ _. refl; failed = λ _. inl (omega (arith, writes)) }
run_reported before after stops.NoMemory turn reads writes = none_failed before after NoMemory (λ is. cc) (reads (λ no. no)) (omega (arith, writes))

told_no_failure : (status : Status) → IsTold status → status ≡ Failed → ⊥
told_no_failure status told is = subst IsTold is told

-- what is so or not so was told
pub either_told : (status : Status) → (status ≡ Done) ⊎ (status ≡ NotSo) → IsTold status
either_told status (inl e) = subst IsTold (sym e) tt
either_told status (inr e) = subst IsTold (sym e) tt

pub outcome_told : (status : Status) (outcome : Outcome) → status ≡ status_of_outcome outcome → IsTold status
outcome_told status sought.Found e = subst IsTold (sym e) tt
outcome_told status sought.Impossible e = subst IsTold (sym e) tt
outcome_told status sought.Undecided e = subst IsTold (sym e) tt

pub ended_reported : (before after : DeviceCounts) (r : Result Status Stop) → IfOk r IsTold → EndsRun before after r → ReportsFailures before after (ended r)
ended_reported before after (Ok status) told ends = none_failed before after status (told_no_failure status told) ends.read_failures ends.write_failures
ended_reported before after (Err fault) told ends = run_reported before after fault ends.turn ends.read_failures ends.write_failures

-- a sink's failures alone are reported
pub sink_reported : (before after : DeviceCounts) (status : Status) → after.read_failures ≡ before.read_failures → ReportsWriting before.write_failures after.write_failures status → ReportsFailures before after status
sink_reported before after status same told = record {
  read = λ rises. absurd (omega (arith, rises, same));
  write = told.write;
  failed = λ is. inl (told.failed is);
}

-- words that are no choices are no failure
pub choices_reported : (now : DeviceCounts) (fault : ChoiceFault) → ReportsFailures now now (status_of_choices fault)
choices_reported now (choices.Bad word) = none_failed now now Usage (λ is. cc) refl refl
choices_reported now (choices.Name word) = none_failed now now Usage (λ is. cc) refl refl
choices_reported now choices.NoMemory = none_failed now now NoMemory (λ is. cc) refl refl

-- what was not refused owes nothing
pub not_refused : {R W : Type 0} (source source' : R) (sink sink' : W) (status : Status) → (IsRefused status → ⊥) → LeavesRefused source source' sink sink' status
not_refused source source' sink sink' status other = record {
  refused = λ is. absurd (other is);
  unread = λ is. absurd (other (subst IsRefused (sym is) tt));
}

-- the status after a fault of lines that were answered on and on reports it
pub live_reported : (before after : DeviceCounts) (fault : Stop) → ReadsFailed max_live_reads fault before.reads after.reads before.read_failures after.read_failures → after.write_failures ≡ before.write_failures + write_failures_of fault
    → ReportsFailures before after (status_of_run fault)
live_reported before after (stops.Read n) (inl failed) writes = record { read = λ _. refl; write = λ _. refl; failed = λ _. inr (inl (n, inl failed)) }
live_reported before after (stops.Read n) (inr endless) writes = record { read = λ _. refl; write = λ _. refl; failed = λ _. inr (inr endless.1) }
live_reported before after stops.Write same writes = record { read = λ _. refl; write = λ _. refl; failed = λ _. inl (omega (arith, writes)) }
live_reported before after stops.NoMemory same writes = none_failed before after NoMemory (λ is. cc) same (omega (arith, writes))

pub run_not_refused : (fault : Stop) → IsRefused (status_of_run fault) → ⊥
run_not_refused (stops.Read n) is = is
run_not_refused stops.Write is = is
run_not_refused stops.NoMemory is = is

told_not_refused : (status : Status) → IsTold status → IsRefused status → ⊥
told_not_refused Done told is = is
told_not_refused Failed told is = told
told_not_refused Usage told is = told
told_not_refused NoMemory told is = told
told_not_refused BadRecord told is = told
told_not_refused Unserved told is = told
told_not_refused NotSo told is = is
told_not_refused Undecided told is = is
told_not_refused BadFile told is = told
told_not_refused LineRefused told is = told

pub ended_not_refused : (r : Result Status Stop) → IfOk r IsTold → IsRefused (ended r) → ⊥
ended_not_refused (Ok status) told is = told_not_refused status told is
ended_not_refused (Err fault) told is = run_not_refused fault is

pub ended_usage : (r : Result Status Stop) → IfOk r IsTold → ended r ≡ Usage → ⊥
ended_usage (Ok status) told e = subst IsTold e told
ended_usage (Err (stops.Read n)) told e = cc
ended_usage (Err stops.Write) told e = cc
ended_usage (Err stops.NoMemory) told e = cc

-- the status after a fault of rows reports it
pub rows_reported : (before after : DeviceCounts) (words writer of_record of_memory : Type 0) (fault : RowsFault) → MatchFault fault words (λ turn. FailedAtTurn turn before.reads after.reads before.read_failures after.read_failures) writer of_record of_memory
    → ((IsOfReader fault → ⊥) → after.read_failures ≡ before.read_failures) → after.write_failures ≡ before.write_failures + rows_failures.failures_of fault → ReportsFailures before after (status_of_rows fault)
rows_reported before after words writer of_record of_memory (rows.Read n) h reads writes = record { read = λ _. refl; write = λ _. refl; failed = λ _. inr (inl (n, h)) }
rows_reported before after words writer of_record of_memory rows.Write h reads writes = record { read = λ _. refl; write = λ _. refl; failed = λ _. inl (omega (arith, writes)) }
rows_reported before after words writer of_record of_memory rows.BadName h reads writes = none_failed before after Usage (λ is. cc) (reads (λ no. no)) (omega (arith, writes))
rows_reported before after words writer of_record of_memory rows.BadArity h reads writes = none_failed before after Usage (λ is. cc) (reads (λ no. no)) (omega (arith, writes))
rows_reported before after words writer of_record of_memory rows.BadDelimiter h reads writes = none_failed before after Usage (λ is. cc) (reads (λ no. no)) (omega (arith, writes))
rows_reported before after words writer of_record of_memory (rows.Width line index arity fields) h reads writes = none_failed before after BadRecord (λ is. cc) (reads (λ no. no)) (omega (arith, writes))
rows_reported before after words writer of_record of_memory (rows.Text line index field flaw) h reads writes = none_failed before after BadRecord (λ is. cc) (reads (λ no. no)) (omega (arith, writes))
rows_reported before after words writer of_record of_memory rows.NoMemory h reads writes = none_failed before after NoMemory (λ is. cc) (reads (λ no. no)) (omega (arith, writes))

not_below : (m n : ℕ) → m < n → nat_le n m ≡ false
not_below m n h = grind arith

below : (m n : ℕ) → nat_le n m ≡ false → m < n
below m n e = grind (arith, nat_tests)

-- only a device that failed and a sink that is not whole leave a failed device
over_failed : (status : Status) (whole : Bool) → over_file status whole ≡ Failed → whole ≡ false
over_failed Failed true is = cc
over_failed Failed false is = refl
over_failed Done whole is = cc
over_failed Usage whole is = cc
over_failed NoMemory whole is = cc
over_failed BadRecord whole is = cc
over_failed Unserved whole is = cc
over_failed NotSo whole is = cc
over_failed Undecided whole is = cc
over_failed BadFile whole is = cc
over_failed LineRefused whole is = cc

-- over a file a failed device is the sink
pub file_reported : (before after : DeviceCounts) (status : Status) (whole : Bool) → whole ≡ nat_le after.write_failures before.write_failures → ReportsFailures before after status → ReportsWriting before.write_failures after.write_failures (over_file status whole)
file_reported before after status whole is told = record {
  write = λ rises. ap (λ (s : Status). over_file s whole) (told.write rises) ∙ ap (over_file Failed) (is ∙ not_below before.write_failures after.write_failures rises);
  failed = λ failed. below before.write_failures after.write_failures (sym is ∙ over_failed status whole failed);
}

over_file_refused : (status : Status) (whole : Bool) → IsRefused (over_file status whole) → IsRefused status
over_file_refused Failed true is = is
over_file_refused Failed false is = is
over_file_refused Done whole is = is
over_file_refused Usage whole is = is
over_file_refused NoMemory whole is = is
over_file_refused BadRecord whole is = is
over_file_refused Unserved whole is = is
over_file_refused NotSo whole is = is
over_file_refused Undecided whole is = is
over_file_refused BadFile whole is = is
over_file_refused LineRefused whole is = is

over_file_usage : (status : Status) (whole : Bool) → over_file status whole ≡ Usage → status ≡ Usage
over_file_usage Failed true is = cc
over_file_usage Failed false is = cc
over_file_usage Done whole is = is
over_file_usage Usage whole is = is
over_file_usage NoMemory whole is = is
over_file_usage BadRecord whole is = is
over_file_usage Unserved whole is = is
over_file_usage NotSo whole is = is
over_file_usage Undecided whole is = is
over_file_usage BadFile whole is = is
over_file_usage LineRefused whole is = is

-- what a task reports is reported of a file or of standard input
pub over_reported : (is_file : Bool) (before after : DeviceCounts) (status : Status) → ReportsFailures before after status → ReportsOver is_file before after (over_source is_file (nat_le after.write_failures before.write_failures) status)
over_reported false before after status told = told
over_reported true before after status told = file_reported before after status (nat_le after.write_failures before.write_failures) refl told

-- what a task leaves when it is refused it leaves over a file too
pub over_refused : {R W : Type 0} (is_file whole : Bool) (source source' : R) (sink sink' : W) (status : Status) → LeavesRefused source source' sink sink' status → LeavesRefused source source' sink sink' (over_source is_file whole status)
over_refused false whole source source' sink sink' status left = left
over_refused true whole source source' sink sink' status left = record {
  refused = λ is. left.refused (over_file_refused status whole is);
  unread = λ is. left.unread (over_file_usage status whole is);
}
