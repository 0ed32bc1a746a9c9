use Rattle.std.proofs.Common.{◌-◌, ◌≤◌, length}
use Rattle.cq_desk.specs.Steps.Turns.{LeadsOn}
use Rattle.cq_desk.proofs.turns.catch_up.Given as goal

abbrev pub invariant-loop-taken : goal.invariant-loop-taken
invariant-loop-taken g l = LeadsOn g.L.Live.after l.journal (g.L.Live.content l.initial.state) l.initial.taken (g.L.Live.content l.state) l.taken × (l.taken ≤ length l.journal) × (l.initial.taken ≤ l.taken)

abbrev pub decreases-loop-taken : goal.decreases-loop-taken
decreases-loop-taken g l = length l.journal - l.taken
