use Rattle.std.proofs.Common.{◌-◌, ◌≤◌, ◌<◌, not, length}
use Rattle.std.specs.Fn.{ComputesKey}
use Rattle.std.specs.declared.cmp.Ordering.{Ordering}
use Rattle.std.specs.Ordering.{is_gt}
use Rattle.cq_blocks.specs.Blocks.{lists_of}
use Rattle.cq_blocks.proofs.Halving.{Halved}
use Rattle.cq_blocks.proofs.blocks.Blocks.binary_search_by.Given as goal

abbrev pub invariant-halving : goal.invariant-halving
invariant-halving g l = record {
  order : l.low < l.high;
  within : l.high ≤ length (lists_of l.blocks);
  callable : goal.F-IsAlwaysCallable g l.f;
  found : (ord : g.row.T.Denot → Ordering) → ComputesKey g.F.FnMut ord l.initial.f → ComputesKey g.F.FnMut ord l.f × Halved (λ y. not (is_gt (ord y))) (lists_of l.blocks) l.low l.high;
}

abbrev pub decreases-halving : goal.decreases-halving
decreases-halving g l = l.high - l.low
