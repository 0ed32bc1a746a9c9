-- What a line of a script is read as. (this project's profile)
use Rattle.std.specs.Prelude.{ℕ, List, [], ◌∷◌}
use Rattle.cq_text.specs.declared.fault.Kind.{Kind}
use Rattle.cq_text.specs.declared.form.Form.{Form}
use Rattle.cq_text.specs.Grammar.{CommandContent, StandsFor}
use Rattle.cq_text.specs.Fault.{FirstFault}

-- A command, or the first fault of a line that is none.
pub data Reading : Type 0 where
  Reads : CommandContent → Reading
  Faulty : Kind → ℕ → Reading

-- The line, of a script in this form, stands for the command, or has the fault.
abbrev pub IsReading : Form → List ℕ → Reading → Type 0
IsReading form line (Reads command) = StandsFor form line command
IsReading form line (Faulty kind offset) = FirstFault form line kind offset

-- The lines of a script whose form is settled have these readings.
abbrev pub AreReadIn : Form → List (List ℕ) → List Reading → Type 0
AreReadIn form [] [] = Unit {0}
AreReadIn form [] (reading ∷ readings) = ⊥
AreReadIn form (line ∷ lines) [] = ⊥
AreReadIn form (line ∷ lines) (reading ∷ readings) = IsReading form line reading × AreReadIn form lines readings
