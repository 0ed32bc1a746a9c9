use Rattle.std.proofs.Common.{◌≡◌, ◌+◌, ◌≤◌, min, ℕ, true, count_by, vec_capacity, []}
use Rattle.cq_match.specs.Steps.Settle.{stands}
use Rattle.cq_match.specs.Steps.Kept.{edges_from, busy, was_raised, Pruning}
use Rattle.cq_match.proofs.marks.Marks.prune.Given as goal

abbrev pub invariant-loop-node : goal.invariant-loop-node
invariant-loop-node g l = record {
  pruning : Pruning l.graph.places.items (edges_from l.graph.places.items 0 l.graph.leaving.items) l.self.matched.items l.self.raised.items l.self.counts.items l.self.waiting.items [];
  room : busy l.self.matched.items l.self.waiting.items ≤ vec_capacity l.self.waiting;
  reached : l.self.reached ≡ l.initial.self.reached;
  capacity : vec_capacity l.self.waiting ≡ vec_capacity l.initial.self.waiting;
  less : (n : ℕ) → stands l.self.raised.items n ≡ true → stands l.initial.self.raised.items n ≡ true;
  counted : l.meter ≡ min (l.initial.meter + count_by (was_raised (stands l.initial.self.raised.items) (stands l.self.raised.items)) (edges_from l.graph.places.items 0 l.graph.leaving.items)) 18446744073709551615;
}

abbrev pub decreases-loop-node : goal.decreases-loop-node
decreases-loop-node g l = busy l.self.matched.items l.self.waiting.items
