-- Where the bytes of a text lie. No public clause names this.
use Rattle.std.specs.Prelude.{ℕ, List, string_bytes}
use Rattle.cq_atom.specs.declared.bytes.Kept.{Kept}
use Rattle.cq_atom.specs.declared.bytes.Kept.TheVariants.{Short, Long}

-- The bytes, wherever they lie.
abbrev pub bytes_in : {A : Type 0} → Kept A → List ℕ
bytes_in (Short text) = text.bytes
bytes_in (Long text) = string_bytes text
