-- What becomes of an element of a list in blocks.
use Rattle.std.specs.Prelude.{◌≡◌, Bool, true, false}
use Rattle.cq_blocks.specs.declared.fate.Fate.{Fate}
use Rattle.cq_blocks.specs.declared.fate.Fate.TheVariants.{Stays, Goes, Ends}

-- It stays where it is equal and passes, it goes where it is equal and does not, and else it is an end.
abbrev pub IsFate : Bool → Bool → Fate → Type 0
IsFate equal passes Stays = (equal ≡ true) × (passes ≡ true)
IsFate equal passes Goes = (equal ≡ true) × (passes ≡ false)
IsFate equal passes Ends = equal ≡ false
