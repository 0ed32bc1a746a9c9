use Rattle.std.proofs.Common.{◌≡◌, ◌-◌, ◌<◌, ◌≤◌, length, true}
use Rattle.std.specs.Fn.{ComputesKey}
use Rattle.std.specs.List.{AllWithin}
use Rattle.std.specs.List.Sorted.{IsPartitionedBy}
use Rattle.std.specs.declared.cmp.Ordering.{Ordering}
use Rattle.cq_blocks.specs.Blocks.{elements, lists_of, begin_of, is_passed, IsBetween}
use Rattle.cq_blocks.proofs.equal.block_from.Given as goal

abbrev pub invariant-halving : goal.invariant-halving
invariant-halving g l = record {
  low : l.from ≤ l.low;
  order : l.low < l.high;
  high : l.high ≤ length (lists_of l.blocks);
  callable : goal.F-IsAlwaysCallable g l.f;
  computes : (ord : g.row.T.Denot → Ordering) → ComputesKey g.F.FnMut ord l.fn.f → ComputesKey g.F.FnMut ord l.f;
  between : (ord : g.row.T.Denot → Ordering) → ComputesKey g.F.FnMut ord l.fn.f → IsPartitionedBy (λ x. is_passed l.upto (ord x)) (elements (lists_of l.blocks))
      → AllWithin (λ x. is_passed l.upto (ord x) ≡ true) (elements (lists_of l.blocks)) 0 (begin_of (lists_of l.blocks) l.from)
      → IsBetween (λ x. is_passed l.upto (ord x)) (elements (lists_of l.blocks)) (begin_of (lists_of l.blocks) l.low) (begin_of (lists_of l.blocks) l.high);
}

abbrev pub decreases-halving : goal.decreases-halving
decreases-halving g l = l.high - l.low
