use Rattle.std.proofs.Common.{◌≤◌, ◌+◌, length}
use Rattle.cq_budget.specs.Steps.Rules.{GoesOn}
use Rattle.cq_budget.proofs.count.Count.change.Given as goal

-- the history was seen to go on, and each try has seen one change more
abbrev pub invariant-loop-tried : goal.invariant-loop-tried
invariant-loop-tried l = GoesOn l.self.seen.book l.self.seen.log l.seen.book l.seen.log × (length l.self.seen.log + l._tried ≤ length l.seen.log)
