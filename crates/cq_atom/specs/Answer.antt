-- What a constructor answers.
use Rattle.std.specs.Prelude.{◌≡◌, Option, Some, None, Result, Ok, Err}

-- The refusal, where there is one; else the value, or that memory ran out. (this project)
abbrev pub Answers : {V E : Type 0} → E → Option E → V → Result V E → Type 0
Answers memory (Some fault) v r = r ≡ Err fault
Answers memory None v (Ok x) = x ≡ v
Answers memory None v (Err e) = e ≡ memory
