use Rattle.std.proofs.Common.{◌≡◌, ◌+◌, ◌-◌, ◌≤◌, ◌++◌, Bool, length, take, drop}
use Rattle.std.specs.Prelude.{filter}
use Rattle.std.specs.Fn.{ComputesKey}
use Rattle.cq_blocks.proofs.edits.retain_in.Given as goal

abbrev pub invariant-elements : goal.invariant-elements
invariant-elements g l = record {
  within : l.at ≤ length l.block.items;
  callable : goal.F-IsAlwaysCallable g l.f;
  kept : (p : g.row.T.Denot → Bool) → ComputesKey g.F.FnMut p l.fn.f → ComputesKey g.F.FnMut p l.f × (filter p l.fn.block.items ≡ take l.at l.block.items ++ filter p (drop l.at l.block.items));
  went : l.went + length l.block.items ≡ length l.fn.block.items;
}

abbrev pub decreases-elements : goal.decreases-elements
decreases-elements g l = length l.block.items - l.at
