-- What is held of a source, to know whether a byte order mark comes next.
use Rattle.std.specs.Prelude.{◌≡◌, ◌≤◌, ◌⊎◌, ◌==◌, ℕ, Bool, true, false, List, [], ◌∷◌, length, Option}
use Rattle.std.specs.Io.KnownBytes.{IsAtEnd}

-- The bytes may begin a byte order mark.
abbrev pub may_begin_mark : List ℕ → Bool
may_begin_mark [] = true
may_begin_mark (byte ∷ bytes) = byte == 239

-- As many bytes are held as tell whether a byte order mark comes next.
abbrev pub IsFilled : (held : List ℕ) → (remaining : Option (List ℕ)) → Type 0
IsFilled held remaining = (3 ≤ length held) ⊎ ((may_begin_mark held ≡ false) ⊎ IsAtEnd remaining)
