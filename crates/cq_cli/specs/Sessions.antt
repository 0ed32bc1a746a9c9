-- What `sessions` writes, and whose fault it is. (this project's profile)
use Rattle.std.specs.Prelude.{ℕ, List, Option}
use Rattle.cq_sessions.specs.declared.fault.SessionsFault.TheVariants as sessions
use Rattle.cq_sessions.specs.Sessions.{Wrote}
use Rattle.cq_sessions.specs.Sessions as served
use Rattle.cq_ask.specs.Choices.{ArePaired}
use Rattle.cq_cli.specs.declared.sessions.FilesFault.{FilesFault}
use Rattle.cq_cli.specs.declared.sessions.FilesFault.TheVariants.{NoFile, TooMany, File, Run}

-- SETUP and the files are held under their paths, each under the path in its place, and the script of their sessions was written whole.
pub record WroteScript (Held : (path bytes : List ℕ) → Type 0) (path : List ℕ) (paths : List (List ℕ)) (taken taken' : Option (List ℕ)) : Type 0 where
  pub setup : List ℕ
  pub files : List (List ℕ)
  pub is_setup : Held path setup
  pub are_files : ArePaired Held paths files
  pub wrote : Wrote setup files taken taken'

-- The fault is that of writing.
abbrev pub IsOfWriting : FilesFault → Type 0
IsOfWriting NoFile = ⊥
IsOfWriting TooMany = ⊥
IsOfWriting (File fault) = ⊥
IsOfWriting (Run sessions.Write) = Unit {0}
IsOfWriting (Run sessions.Places) = ⊥
IsOfWriting (Run sessions.Thread) = ⊥
IsOfWriting (Run sessions.NoMemory) = ⊥

-- The fault is that of the number of files.
abbrev pub IsOfCount : FilesFault → Type 0
IsOfCount NoFile = Unit {0}
IsOfCount TooMany = Unit {0}
IsOfCount (File fault) = ⊥
IsOfCount (Run fault) = ⊥

-- How much the writer's failures rise with a fault: by one with its own, and else not.
abbrev pub failures_of : FilesFault → ℕ
failures_of NoFile = 0
failures_of TooMany = 0
failures_of (File fault) = 0
failures_of (Run fault) = served.failures_of fault
