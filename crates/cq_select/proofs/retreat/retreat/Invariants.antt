use Rattle.std.proofs.Common.{ℕ, ◌≤◌, List, length, vec_len}
use Rattle.cq_select.specs.Steps.Facts.{IsBlocked, IsExhausted}
use Rattle.cq_select.proofs.retreat.retreat.Given as goal

abbrev pub invariant-loop-frame : goal.invariant-loop-frame
invariant-loop-frame g l = record {
  state : (wanted : List ℕ) → IsExhausted l.supply wanted l.fn.trail → IsBlocked l.supply wanted l.trail;
  fewer : length l.trail.frames.items ≤ length l.fn.trail.frames.items;
}

abbrev pub decreases-loop-frame : goal.decreases-loop-frame
decreases-loop-frame g l = vec_len l.trail.frames
