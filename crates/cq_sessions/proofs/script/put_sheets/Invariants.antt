use Rattle.std.proofs.Common.{◌≡◌, ◌++◌, drop, map}
use Rattle.std.specs.Prelude.{string_bytes}
use Rattle.cq_sessions.specs.Script.{sheets_from}
use Rattle.cq_sessions.proofs.script.put_sheets.Given as goal

abbrev pub invariant-loop-number : goal.invariant-loop-number
invariant-loop-number g l = string_bytes l.page ++ sheets_from l.number (map (λ sheet. sheet.replies) (drop l.number l.sheets)) ≡ string_bytes l.initial.page ++ sheets_from 0 (map (λ sheet. sheet.replies) l.sheets)
