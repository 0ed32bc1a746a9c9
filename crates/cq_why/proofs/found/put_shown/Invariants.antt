use Rattle.std.proofs.Common.{◌≡◌, ◌++◌, take}
use Rattle.std.specs.Prelude.{string_bytes}
use Rattle.cq_why.specs.Why.{shown}
use Rattle.cq_why.proofs.found.put_shown.Given as goal

-- the page has the bytes so far
abbrev pub invariant-loop-byte : goal.invariant-loop-byte
invariant-loop-byte g l = string_bytes l.page ≡ string_bytes l.initial.page ++ shown (take l.byte-index l.bytes)
