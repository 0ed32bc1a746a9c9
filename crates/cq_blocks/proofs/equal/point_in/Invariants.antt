use Rattle.std.proofs.Common.{◌-◌, ◌≤◌}
use Rattle.std.specs.Fn.{ComputesKey}
use Rattle.std.specs.List.Sorted.{IsPartitionedBy}
use Rattle.std.specs.declared.cmp.Ordering.{Ordering}
use Rattle.cq_blocks.specs.Blocks.{is_passed, IsBetween}
use Rattle.cq_blocks.proofs.equal.point_in.Given as goal

abbrev pub invariant-halving : goal.invariant-halving
invariant-halving g l = record {
  low : l.from ≤ l.low;
  order : l.low ≤ l.high;
  high : l.high ≤ l.to;
  callable : goal.F-IsAlwaysCallable g l.f;
  computes : (ord : g.row.T.Denot → Ordering) → ComputesKey g.F.FnMut ord l.fn.f → ComputesKey g.F.FnMut ord l.f;
  between : (ord : g.row.T.Denot → Ordering) → ComputesKey g.F.FnMut ord l.fn.f → IsPartitionedBy (λ x. is_passed l.upto (ord x)) l.block → IsBetween (λ x. is_passed l.upto (ord x)) l.block l.from l.to
      → IsBetween (λ x. is_passed l.upto (ord x)) l.block l.low l.high;
}

abbrev pub decreases-halving : goal.decreases-halving
decreases-halving g l = l.high - l.low
