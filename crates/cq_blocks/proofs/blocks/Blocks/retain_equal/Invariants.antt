use Rattle.std.proofs.Common.{◌-◌, ◌≤◌, not, Bool, length}
use Rattle.std.specs.Fn.{ComputesKey}
use Rattle.std.specs.List.Sorted.{IsPartitionedBy}
use Rattle.std.specs.declared.cmp.Ordering.{Ordering}
use Rattle.std.specs.Ordering.{is_lt, is_gt}
use Rattle.cq_blocks.specs.Blocks.{elements}
use Rattle.cq_blocks.proofs.Fates.{AreKept}
use Rattle.cq_blocks.proofs.blocks.Blocks.retain_equal.Given as goal

abbrev pub invariant-equal : goal.invariant-equal
invariant-equal g l = record {
  within : l.index ≤ length (elements l.self);
  order : goal.F-IsAlwaysCallable g l.order;
  pred : goal.P-IsAlwaysCallable g l.pred;
  kept : (ord : g.row.T.Denot → Ordering) (p : g.row.T.Denot → Bool) → ComputesKey g.F.FnMut ord l.fn.order → ComputesKey g.P.FnMut p l.fn.pred
      → ComputesKey g.F.FnMut ord l.order × ComputesKey g.P.FnMut p l.pred × (IsPartitionedBy (λ x. is_lt (ord x)) (elements l.fn.self) → IsPartitionedBy (λ x. not (is_gt (ord x))) (elements l.fn.self) → AreKept ord p (elements l.fn.self) (elements l.self) l.index);
}

abbrev pub decreases-equal : goal.decreases-equal
decreases-equal g l = length (elements l.self) - l.index
