use Rattle.std.proofs.Common.{◌≡◌, ◌-◌, true, length, vec_capacity}
use Rattle.cq_match.specs.Steps.Settle.{stands}
use Rattle.cq_match.specs.Steps.Kept.{edges_from, Reaching}
use Rattle.cq_match.proofs.marks.Marks.reach.Given as goal

abbrev pub invariant-loop-index : goal.invariant-loop-index
invariant-loop-index g l = record {
  reaching : Reaching l.graph.places.items l.graph.leaving.items (edges_from l.graph.places.items 0 l.graph.leaving.items) l.fn.self.matched.items l.self.matched.items l.self.raised.items l.self.counts.items l.self.reached.items l.index;
  up : stands l.self.matched.items l.node ≡ true;
  waiting : l.self.waiting ≡ l.fn.self.waiting;
  capacity : vec_capacity l.self.reached ≡ vec_capacity l.fn.self.reached;
}

abbrev pub decreases-loop-index : goal.decreases-loop-index
decreases-loop-index g l = length l.graph.places.items - l.index
