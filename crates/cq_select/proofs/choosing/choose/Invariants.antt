use Rattle.std.proofs.Common.{ℕ, ◌≤◌, List, vec_len}
use Rattle.cq_select.specs.Steps.Facts.{IsChoosing}
use Rattle.cq_select.proofs.choosing.choose.Given as goal

abbrev pub invariant-loop-trail : goal.invariant-loop-trail
invariant-loop-trail g l = record {
  state : (wanted : List ℕ) → IsChoosing l.supply wanted l.initial.trail → IsChoosing l.supply wanted l.trail;
  rising : l.initial.steps ≤ l.steps;
  within : l.steps ≤ l.budget;
}

abbrev pub decreases-loop-trail : goal.decreases-loop-trail
decreases-loop-trail g l = vec_len l.trail.frames
