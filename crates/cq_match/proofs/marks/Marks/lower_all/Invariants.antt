use Rattle.std.proofs.Common.{◌≡◌, ◌+◌, ◌≤◌, min, length, drop, vec_capacity}
use Rattle.cq_match.specs.Steps.Kept.{edges_left, edges_from, busy, Pruning}
use Rattle.cq_match.proofs.marks.Marks.lower_all.Given as goal

abbrev pub invariant-loop-out : goal.invariant-loop-out
invariant-loop-out g l = record {
  pruning : Pruning l.graph.places.items (edges_from l.graph.places.items 0 l.graph.leaving.items) l.self.matched.items l.self.raised.items l.self.counts.items l.self.waiting.items (edges_left l.graph.places.items l.node (drop l.out-index l.outs));
  raised : l.self.raised.items ≡ l.initial.self.raised.items;
  busy : busy l.self.matched.items l.self.waiting.items ≡ busy l.initial.self.matched.items l.initial.self.waiting.items;
  reached : l.self.reached ≡ l.initial.self.reached;
  capacity : vec_capacity l.self.waiting ≡ vec_capacity l.initial.self.waiting;
  fits : l.meter ≤ 18446744073709551615;
  counted : min (l.meter + length (edges_left l.graph.places.items l.node (drop l.out-index l.outs))) 18446744073709551615 ≡ min (l.initial.meter + length (edges_left l.graph.places.items l.node l.outs)) 18446744073709551615;
}
