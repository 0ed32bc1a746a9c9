-- A device whose calls are counted, as contracts see it (this project's profile).
use Rattle.std.specs.Prelude.{◌≡◌, ℕ, ◌+◌, List, ◌++◌, Option, ◌⊎◌}
use Rattle.std.specs.Io.KnownBytes.{Appends, Consumes, IsAtEnd}
use Rattle.cq_devices.specs.Limits.{max_reads}
use Rattle.cq_devices.specs.declared.stop.Stop.{Stop}
use Rattle.cq_devices.specs.declared.stop.Stop.TheVariants.{Read, Write, NoMemory}

-- the device itself, the number of reads made of it, and the number of its calls that failed
pub record CountedRecord (D : Type 0) : Type 0 where
  pub device : D
  pub reads : ℕ
  pub failures : ℕ

-- A writer took a front of the bytes.
pub record TakesFront (taken taken' : Option (List ℕ)) (bytes : List ℕ) : Type 0 where
  pub front : List ℕ
  pub rest : List ℕ
  pub took : Appends taken taken' front
  pub whole : front ++ rest ≡ bytes

-- These are all the bytes that a reader had left, and it is at its end.
pub record ReadWhole (left left' : Option (List ℕ)) (bytes : List ℕ) : Type 0 where
  pub read : Consumes left left' bytes
  pub at_end : IsAtEnd left'

-- The turn is the number of the read that failed; or all the reads that a call may make were made, and the turn is one more.
abbrev pub FailedAtTurn : (turn reads reads' failures failures' : ℕ) → Type 0
FailedAtTurn turn reads reads' failures failures' =
    ((reads' ≡ reads + turn) × (failures' ≡ failures + 1))
    ⊎ ((turn ≡ max_reads + 1) × (reads' ≡ reads + max_reads) × (failures' ≡ failures))

-- ---- why a call stops before its end

-- What is known if it is a read that failed, by the turn that is reported.
abbrev pub IfAtTurn : Stop → (ℕ → Type 0) → Type 0
IfAtTurn (Read turn) P = P turn
IfAtTurn Write P = Unit {0}
IfAtTurn NoMemory P = Unit {0}

-- It is a read that failed.
abbrev pub IsAtTurn : Stop → Type 0
IsAtTurn (Read turn) = Unit {0}
IsAtTurn Write = ⊥
IsAtTurn NoMemory = ⊥

-- What is known if memory ran out.
abbrev pub IfMemory : Stop → Type 0 → Type 0
IfMemory (Read turn) P = Unit {0}
IfMemory Write P = Unit {0}
IfMemory NoMemory P = P

-- How much the writer's failures rise: by one if a write failed, and else not.
abbrev pub write_failures_of : Stop → ℕ
write_failures_of (Read turn) = 0
write_failures_of Write = 1
write_failures_of NoMemory = 0
