use Rattle.std.proofs.Common.{◌≡◌, ℕ, ◌-◌, ◌≤◌, List, length}
use Rattle.cq_select.specs.Selection.{suppliers_of}
use Rattle.cq_select.specs.Steps.Facts.{IsChoosing}
use Rattle.cq_select.proofs.choosing.try_suppliers.Given as goal

abbrev pub invariant-loop-trail : goal.invariant-loop-trail
invariant-loop-trail g l = record {
  state : (wanted : List ℕ) → IsChoosing l.supply wanted l.initial.trail → IsChoosing l.supply wanted l.trail;
  frames : l.trail.frames ≡ l.initial.trail.frames;
  atom : l.suppliers ≡ suppliers_of l.supply l.trail.choice.atom;
  rising : l.initial.steps ≤ l.steps;
  within : l.steps ≤ l.budget;
}

abbrev pub decreases-loop-trail : goal.decreases-loop-trail
decreases-loop-trail g l = length l.suppliers - l.trail.choice.tried
