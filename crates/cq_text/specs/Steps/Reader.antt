-- What is ahead of a reader, and what its tokens keep.
use Rattle.std.specs.Prelude.{◌≤◌, length, drop}
use Rattle.cq_text.specs.declared.reading.Reader.TheInside.{Inside}
use Rattle.cq_text.specs.Lexing.{lexemes}
use Rattle.cq_text.specs.Steps.Lexemes.{Ahead}

abbrev pub ahead_of : {A : Type 0} → Inside A → Ahead
ahead_of r = record { lexemes = lexemes 0 r.at (drop r.at r.text.now); end = length r.text.now }

abbrev pub IsReader : {A : Type 0} → Inside A → Type 0
IsReader r = r.at ≤ length r.text.now
