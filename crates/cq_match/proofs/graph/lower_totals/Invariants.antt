use Rattle.std.proofs.Common.{◌≡◌, ◌+◌, ℕ, [], length, get_or, drop, count_by}
use Rattle.cq_match.specs.Graph.{leads_to}
use Rattle.cq_match.specs.Steps.Kept.{edges_left, count_at}
use Rattle.cq_match.proofs.graph.lower_totals.Given as goal

abbrev pub invariant-loop-out : goal.invariant-loop-out
invariant-loop-out g l = record {
  len : length l.totals.items ≡ length l.initial.totals.items;
  rows : (n : ℕ) → length (get_or l.totals.items n []) ≡ length (get_or l.initial.totals.items n []);
  lowered : (n k : ℕ) → count_at l.totals.items n k + count_by (leads_to n k) (edges_left l.places l.node l.outs) ≡ count_at l.initial.totals.items n k + count_by (leads_to n k) (edges_left l.places l.node (drop l.out-index l.outs));
}
