use Rattle.std.proofs.Common.{◌≡◌, ◌+◌, ◌-◌, ◌≤◌, ◌++◌, Bool, length, take, drop}
use Rattle.std.specs.Prelude.{filter}
use Rattle.std.specs.Fn.{ComputesKey}
use Rattle.cq_blocks.specs.Blocks.{elements, lists_of, AreFilled}
use Rattle.cq_blocks.proofs.edits.retain_each.Given as goal

abbrev pub invariant-each : goal.invariant-each
invariant-each g l = record {
  within : l.at ≤ length (lists_of l.blocks.items);
  callable : goal.F-IsAlwaysCallable g l.f;
  kept : (p : g.row.T.Denot → Bool) → ComputesKey g.F.FnMut p l.fn.f → ComputesKey g.F.FnMut p l.f × (filter p (elements (lists_of l.fn.blocks.items)) ≡ elements (take l.at (lists_of l.blocks.items)) ++ filter p (elements (drop l.at (lists_of l.blocks.items))));
  went : l.went + length (elements (lists_of l.blocks.items)) ≡ length (elements (lists_of l.fn.blocks.items));
  filled : AreFilled (lists_of l.fn.blocks.items) → AreFilled (lists_of l.blocks.items);
}

abbrev pub decreases-each : goal.decreases-each
decreases-each g l = length l.blocks.items - l.at
