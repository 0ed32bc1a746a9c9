use Rattle.std.proofs.Common.{◌≡◌, ℕ, ◌<◌, true, take, get_or}
use Rattle.std.specs.Char.{is_ascii_digit}
use Rattle.cq_text.specs.Lexing.{magnitude}
use Rattle.cq_text.proofs.lexing.front_digits.Given as goal

abbrev pub invariant-loop-len : goal.invariant-loop-len
invariant-loop-len l = record {
  value : l.value ≡ magnitude (take l.len l.bytes);
  digits : (k : ℕ) → k < l.len → is_ascii_digit (get_or l.bytes k 0) ≡ true;
}
