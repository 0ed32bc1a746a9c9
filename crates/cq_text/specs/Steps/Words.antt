-- Identifiers.
use Rattle.std.specs.Prelude.{ℕ, List, Bool, ◌&&◌}
use Rattle.std.specs.List.{list_all}
use Rattle.cq_atom.specs.Text.{begins_with_letter, is_word_byte}

-- A letter, and then word bytes.
abbrev pub is_identifier : List ℕ → Bool
is_identifier w = begins_with_letter w && list_all is_word_byte w
