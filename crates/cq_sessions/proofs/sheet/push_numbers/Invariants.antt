use Rattle.std.proofs.Common.{◌≡◌, ◌++◌, length}
use Rattle.cq_sessions.specs.Steps.Sheets.{told_in}
use Rattle.cq_sessions.proofs.sheet.push_numbers.Given as goal

abbrev pub decreases-loop-reply : goal.decreases-loop-reply
decreases-loop-reply g l = length l.left

abbrev pub invariant-loop-reply : goal.invariant-loop-reply
invariant-loop-reply g l = l.numbers.items ++ told_in l.left ≡ l.initial.numbers.items ++ told_in l.replies
