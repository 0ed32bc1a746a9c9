use Rattle.std.proofs.Common.{◌≡◌, take, drop, vec_capacity}
use Rattle.cq_match.specs.Steps.Kept.{edges_left, edges_from, Counting, Grown, Reaches}
use Rattle.cq_match.proofs.marks.Marks.raise_all.Given as goal

abbrev pub invariant-loop-out : goal.invariant-loop-out
invariant-loop-out g l = record {
  counting : Counting l.graph.places.items (edges_from l.graph.places.items 0 l.graph.leaving.items) l.self.raised.items l.self.counts.items (edges_left l.graph.places.items l.node (drop l.out-index l.outs));
  grown : Grown l.graph.places.items l.initial.self.matched.items l.initial.self.reached.items l.self.matched.items l.self.reached.items;
  reaches : Reaches l.graph.places.items l.self.matched.items (edges_left l.graph.places.items l.node (take l.out-index l.outs));
  raised : l.self.raised.items ≡ l.initial.self.raised.items;
  waiting : l.self.waiting ≡ l.initial.self.waiting;
  capacity : vec_capacity l.self.reached ≡ vec_capacity l.initial.self.reached;
}
