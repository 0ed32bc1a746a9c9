-- What a run leaves after (this project's profile).
use Rattle.std.specs.Prelude.{◌≡◌, ◌≤◌, ℕ, List, ◌++◌, length, Option}
use Rattle.std.specs.Io.KnownBytes.{Consumes, Appends}
use Rattle.cq_report.specs.declared.numbering.Numbering.{Numbering}
use Rattle.cq_report.specs.Lines.{lines_of, whole_lines}
use Rattle.cq_report.specs.Reading.{Reading}
use Rattle.cq_report.specs.Output.{AreReadings, output}
use Rattle.cq_devices.specs.Device.{TakesFront}
use Rattle.cq_devices.specs.Limits.{max_piece}

-- Bytes were read; their whole lines have readings, and however they are read, their output was written and nothing else.
pub record WroteWholeLines (numbering : Numbering) (left left' taken taken' : Option (List ℕ)) : Type 0 where
  pub bytes : List ℕ
  pub read : Consumes left left' bytes
  pub readings : List Reading
  pub are : AreReadings (whole_lines bytes) readings
  pub wrote : (rs : List Reading) → AreReadings (whole_lines bytes) rs → Appends taken taken' (output numbering rs)

-- Bytes were read, and of their whole lines the first ones have readings: all that had ended before the last piece of up to 4,096 bytes, and some
-- that ended in it. However these are read, their output was written and nothing else.
pub record WroteFirstLines (numbering : Numbering) (left left' taken taken' : Option (List ℕ)) : Type 0 where
  pub bytes : List ℕ
  pub piece : List ℕ
  pub read : Consumes left left' (bytes ++ piece)
  pub short : length piece ≤ max_piece
  pub more : List (List ℕ)
  pub behind : List (List ℕ)
  pub whole : whole_lines (bytes ++ piece) ≡ (whole_lines bytes ++ more) ++ behind
  pub readings : List Reading
  pub are : AreReadings (whole_lines bytes ++ more) readings
  pub wrote : (rs : List Reading) → AreReadings (whole_lines bytes ++ more) rs → Appends taken taken' (output numbering rs)

-- Bytes were read, and however their lines are read, a front of their output was written.
pub record WroteFront (numbering : Numbering) (left left' taken taken' : Option (List ℕ)) : Type 0 where
  pub bytes : List ℕ
  pub read : Consumes left left' bytes
  pub wrote : (rs : List Reading) → AreReadings (lines_of bytes) rs → TakesFront taken taken' (output numbering rs)
