use Rattle.std.proofs.Common.{◌≡◌, ◌++◌, drop}
use Rattle.std.specs.Prelude.{string_bytes}
use Rattle.cq_going.specs.Reasons.{barred_lines}
use Rattle.cq_going.proofs.reasons.put_all_barred.Given as goal

-- the page, and the names that are left
abbrev pub invariant-loop-name : goal.invariant-loop-name
invariant-loop-name g l = string_bytes l.page ++ barred_lines l.board (drop l.name-index l.names) ≡ string_bytes l.initial.page ++ barred_lines l.board l.names
