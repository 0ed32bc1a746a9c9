use Rattle.std.proofs.Common.{◌≡◌, ◌+◌, ◌++◌, drop}
use Rattle.std.specs.Prelude.{string_bytes}
use Rattle.cq_sessions.specs.Script.{replies_from}
use Rattle.cq_sessions.proofs.script.put_replies.Given as goal

abbrev pub invariant-loop-place : goal.invariant-loop-place
invariant-loop-place g l = string_bytes l.page ++ replies_from l.words (l.place + 1) (drop l.place l.sheet.replies) ≡ string_bytes l.initial.page ++ replies_from l.words 1 l.sheet.replies
