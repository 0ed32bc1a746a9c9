use Rattle.std.proofs.Common.{◌≡◌, ◌<◌, ℕ, length}
use Rattle.cq_closure.specs.Closure.{is_set}
use Rattle.cq_closure.specs.Steps.Reach.{is_taken}
use Rattle.cq_closure.proofs.taken.Given as goal

abbrev pub invariant-loop-node : goal.invariant-loop-node
invariant-loop-node g l = record {
  long : length l.flags.items ≡ l.node;
  each : (n : ℕ) → n < l.node → is_set l.flags.items n ≡ is_taken l.may l.spare n;
}
