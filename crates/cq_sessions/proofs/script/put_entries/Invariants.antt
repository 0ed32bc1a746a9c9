use Rattle.std.proofs.Common.{◌≡◌, ◌+◌, ◌++◌, drop}
use Rattle.std.specs.Prelude.{string_bytes}
use Rattle.cq_sessions.specs.Script.{entries_from}
use Rattle.cq_sessions.proofs.script.put_entries.Given as goal

abbrev pub invariant-loop-place : goal.invariant-loop-place
invariant-loop-place g l = string_bytes l.page ++ entries_from (l.place + 1) (drop l.place l.journal) ≡ string_bytes l.initial.page ++ entries_from 1 l.journal
