-- The test of a text's bytes, byte after byte.
use Rattle.std.specs.Prelude.{ℕ, Bool, ◌&&◌}
use Rattle.cq_atom.specs.Text.{is_plain_byte}

-- The bytes before are plain, and this one is.
abbrev pub still_plain : Bool → ℕ → Bool
still_plain are_plain b = are_plain && is_plain_byte b
