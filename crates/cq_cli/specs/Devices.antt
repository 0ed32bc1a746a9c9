-- What the devices of the program did, and how that is reported. (this project's profile)
use Rattle.std.specs.Prelude.{◌≡◌, ◌<◌, ◌+◌, ◌^◌, ℕ, ◌⊎◌, Bool, true, false, List, Option, Some, None, Result, MatchResult, IfErr}
use Rattle.std.specs.Io.KnownBytes.{prepend_known}
use Rattle.cq_devices.specs.declared.stop.Stop.{Stop}
use Rattle.cq_devices.specs.Device.{FailedAtTurn, IfAtTurn, IsAtTurn, write_failures_of}
use Rattle.cq_report.specs.Live.{max_live_reads}
use Rattle.cq_cli.specs.declared.status.Status.{Status}
use Rattle.cq_cli.specs.declared.status.Status.TheVariants.{Failed, Usage}
use Rattle.cq_cli.specs.Status.{IsRefused}

-- A device that is looked at before it is read: the bytes that it gave and that are still to be read, and the numbers of reads and of those that failed.
pub record AheadRecord (D : Type 0) : Type 0 where
  pub device : D
  pub held : List ℕ
  pub reads : ℕ
  pub failures : ℕ

-- The bytes that are still to be read: those that it gave, and those that it has left.
abbrev pub left_of : {D : Type 0} → (remaining : D → Option (List ℕ)) → AheadRecord D → Option (List ℕ)
left_of remaining ahead = prepend_known ahead.held (remaining ahead.device)

-- The bytes that are still to be read of the file, if there is one, and of standard input otherwise.
abbrev pub left_of_input : {S F : Type 0} → (left_standard : S → Option (List ℕ)) → (left_file : F → Option (List ℕ)) → S → Option F → Option (List ℕ)
left_of_input left_standard left_file standard None = left_standard standard
left_of_input left_standard left_file standard (Some file) = left_file file

-- What was counted: the reads of a source, those of them that failed, and the calls of a sink that failed.
pub record DeviceCounts : Type 0 where
  pub reads : ℕ
  pub read_failures : ℕ
  pub write_failures : ℕ

-- The counts of these two devices.
abbrev pub counts : {R W : Type 0} → (reads_made failures_met : R → ℕ) → (write_failures : W → ℕ) → R → W → DeviceCounts
counts reads_made failures_met write_failures source sink = record { reads = reads_made source; read_failures = failures_met source; write_failures = write_failures sink }

-- The counts have room for all that one run of the program adds to them.
pub record HaveRoom (now : DeviceCounts) : Type 0 where
  pub reads : now.reads < 2 ^ 62
  pub read_failures : now.read_failures < 2 ^ 62
  pub write_failures : now.write_failures < 2 ^ 62

-- The sink failed, or the source did at some read or gave no end, in as many reads as a run makes or as lines are answered by.
abbrev pub DeviceFailed : (before after : DeviceCounts) → Type 0
DeviceFailed before after =
    (before.write_failures < after.write_failures)
    ⊎ ((turn : ℕ) × FailedAtTurn turn before.reads after.reads before.read_failures after.read_failures)
    ⊎ (after.reads ≡ before.reads + max_live_reads)

-- A run ended by a fault exactly where a device failed or memory ran out, and the fault tells which.
pub record EndsRun {X : Type 0} (before after : DeviceCounts) (ended : Result X Stop) : Type 0 where
  -- A fault of reading tells the turn of the read that failed.
  pub turn : IfErr ended (λ fault. IfAtTurn fault (λ turn. FailedAtTurn turn before.reads after.reads before.read_failures after.read_failures))
  -- No read failed but with a fault of reading.
  pub read_failures : MatchResult ended (λ _. after.read_failures ≡ before.read_failures) (λ fault. (IsAtTurn fault → ⊥) → after.read_failures ≡ before.read_failures)
  -- The sink failed with its own fault, and with no other.
  pub write_failures : MatchResult ended (λ _. after.write_failures ≡ before.write_failures) (λ fault. after.write_failures ≡ before.write_failures + write_failures_of fault)

-- The status reports that a device failed.
pub record ReportsFailures (before after : DeviceCounts) (status : Status) : Type 0 where
  -- Where a read failed,
  pub read : before.read_failures < after.read_failures → status ≡ Failed
  -- where the sink failed,
  pub write : before.write_failures < after.write_failures → status ≡ Failed
  -- and nowhere else, but for a source without end.
  pub failed : status ≡ Failed → DeviceFailed before after

-- The same of a sink alone, by its failures.
pub record ReportsWriting (before after : ℕ) (status : Status) : Type 0 where
  -- Where the sink failed,
  pub write : before < after → status ≡ Failed
  -- and nowhere else.
  pub failed : status ≡ Failed → before < after

-- The status reports that a device failed: over a file, that the sink did.
abbrev pub ReportsOver : (is_file : Bool) → (before after : DeviceCounts) → Status → Type 0
ReportsOver false before after status = ReportsFailures before after status
ReportsOver true before after status = ReportsWriting before.write_failures after.write_failures status

-- What was refused left the devices as they were.
pub record LeavesRefused {R W : Type 0} (source source' : R) (sink sink' : W) (status : Status) : Type 0 where
  -- Nothing of it was written.
  pub refused : IsRefused status → sink' ≡ sink
  -- For words that ask for nothing, nothing was read.
  pub unread : status ≡ Usage → source' ≡ source
