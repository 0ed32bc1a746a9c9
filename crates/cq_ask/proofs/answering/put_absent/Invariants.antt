use Rattle.std.proofs.Common.{◌≡◌, ◌++◌, drop}
use Rattle.std.specs.Prelude.{string_bytes}
use Rattle.cq_ask.specs.Answer.{absent_lines}
use Rattle.cq_ask.proofs.answering.put_absent.Given as goal

abbrev pub invariant-loop-name : goal.invariant-loop-name
invariant-loop-name g l = string_bytes l.page ++ absent_lines l.board (drop l.name-index l.names) ≡ string_bytes l.initial.page ++ absent_lines l.board l.names
