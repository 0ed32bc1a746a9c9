-- What a writer has taken, and what waits before it.
use Rattle.std.specs.Prelude.{◌≡◌, ℕ, ◌+◌, List, ◌++◌, Option}
use Rattle.std.specs.Io.KnownBytes.{Appends}
use Rattle.cq_devices.specs.Device.{TakesFront, write_failures_of}
use Rattle.cq_report.specs.declared.output.Output.{Output}
use Rattle.cq_devices.specs.declared.stop.Stop.{Stop}

-- The writer took `front`: that, and what waits now, are what waited before and then the bytes that were put.
pub record Passes (taken taken' : Option (List ℕ)) (held bytes held' : List ℕ) : Type 0 where
  pub front : List ℕ
  pub took : Appends taken taken' front
  pub whole : front ++ held' ≡ held ++ bytes

-- Bytes were put: the same writer, no failure of it, and no byte lost or made up.
pub record Puts {W A : Type 0} (taken : W → Option (List ℕ)) (failures : W → ℕ) (old new : Output W A) (bytes : List ℕ) : Type 0 where
  pub writer : new.sink.ghost_name ≡ old.sink.ghost_name
  pub failed : failures new.sink.now ≡ failures old.sink.now
  pub passed : Passes (taken old.sink.now) (taken new.sink.now) old.held.now.items bytes new.held.now.items

-- Bytes were to be put, and a fault came first: the writer took a front of what waited and of these bytes; the rest is lost.
pub record Breaks {W A : Type 0} (taken : W → Option (List ℕ)) (failures : W → ℕ) (old new : Output W A) (bytes : List ℕ) (fault : Stop) : Type 0 where
  pub writer : new.sink.ghost_name ≡ old.sink.ghost_name
  pub failed : failures new.sink.now ≡ failures old.sink.now + write_failures_of fault
  pub took : TakesFront (taken old.sink.now) (taken new.sink.now) (old.held.now.items ++ bytes)

-- A fault came, and the writer's failures rose where it is theirs.
pub record Fails {W A : Type 0} (failures : W → ℕ) (old new : Output W A) (fault : Stop) : Type 0 where
  pub writer : new.sink.ghost_name ≡ old.sink.ghost_name
  pub failed : failures new.sink.now ≡ failures old.sink.now + write_failures_of fault
