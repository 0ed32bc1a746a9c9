use Rattle.std.proofs.Common.{◌≤◌, ◌-◌}
use Rattle.cq_select.specs.Steps.Facts.{IsScanning}
use Rattle.cq_select.proofs.search.run.Given as goal

abbrev pub invariant-loop-trail : goal.invariant-loop-trail
invariant-loop-trail g l = record {
  state : IsScanning l.supply l.wanted l.trail;
  within : l.steps ≤ l.budget;
}

abbrev pub decreases-loop-trail : goal.decreases-loop-trail
decreases-loop-trail g l = l.budget - l.steps
