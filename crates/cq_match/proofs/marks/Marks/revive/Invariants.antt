use Rattle.std.proofs.Common.{◌≡◌, ◌≤◌, vec_capacity}
use Rattle.cq_match.specs.Steps.Kept.{edges_from, busy, Checking}
use Rattle.cq_match.proofs.marks.Marks.revive.Given as goal

abbrev pub invariant-loop-index : goal.invariant-loop-index
invariant-loop-index g l = record {
  checking : Checking l.graph.places.items (edges_from l.graph.places.items 0 l.graph.leaving.items) l.self.matched.items l.self.raised.items l.self.counts.items l.self.waiting.items l.self.reached.items l.index;
  reached : l.self.reached ≡ l.initial.self.reached;
  room : busy l.self.matched.items l.self.waiting.items ≤ vec_capacity l.self.waiting;
  capacity : vec_capacity l.self.waiting ≡ vec_capacity l.initial.self.waiting;
}
