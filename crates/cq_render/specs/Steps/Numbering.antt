-- How names are numbered.
use Rattle.std.specs.Prelude.{ℕ, Option, Some, None}

-- The number, where there is one, and else the other.
abbrev pub first_of : Option ℕ → Option ℕ → Option ℕ
first_of None other = other
first_of (Some n) other = Some n
