use Rattle.std.proofs.Common.{◌≡◌, ◌++◌, string_bytes}
use Rattle.std.specs.Prelude.{encode_utf8_all}
use Rattle.cq_text.specs.Print.{escaped}
use Rattle.cq_text.proofs.printing.push_escaped.Given as goal

abbrev pub invariant-loop-character : goal.invariant-loop-character
invariant-loop-character g l = string_bytes l.printed ≡ string_bytes l.initial.printed ++ escaped (encode_utf8_all l.yielded)
