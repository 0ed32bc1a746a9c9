use Rattle.std.proofs.Common.{◌≡◌, ◌+◌, ◌-◌, ℕ, length, vec_capacity}
use Rattle.cq_match.specs.Steps.Kept.{nodes_from, edges_from, marked_from, IsKept}
use Rattle.cq_match.proofs.matcher.make_room.Given as goal

abbrev pub invariant-loop-alloc : goal.invariant-loop-alloc
invariant-loop-alloc g l = record {
  kept : (number next : ℕ) → IsKept l.initial.graph.places.items l.initial.graph.leaving.items l.initial.graph.totals.items l.initial.marks.matched.items l.initial.marks.raised.items l.initial.marks.counts.items l.initial.marks.waiting.items l.initial.marks.reached.items (vec_capacity l.initial.marks.waiting) number next
      → IsKept l.graph.places.items l.graph.leaving.items l.graph.totals.items l.marks.matched.items l.marks.raised.items l.marks.counts.items l.marks.waiting.items l.marks.reached.items (vec_capacity l.marks.waiting) number next;
  nodes : nodes_from 0 l.graph.places.items ≡ nodes_from 0 l.initial.graph.places.items;
  edges : edges_from l.graph.places.items 0 l.graph.leaving.items ≡ edges_from l.initial.graph.places.items 0 l.initial.graph.leaving.items;
  matched : marked_from 0 l.marks.matched.items ≡ marked_from 0 l.initial.marks.matched.items;
}

abbrev pub decreases-loop-alloc : goal.decreases-loop-alloc
decreases-loop-alloc g l = l.node + 1 - length l.graph.places.items
