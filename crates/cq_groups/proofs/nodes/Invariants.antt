use Rattle.std.proofs.Common.{◌≡◌, ◌<◌, ℕ, length, slice_index}
use Rattle.cq_groups.proofs.nodes.Given as goal

-- the nodes so far
abbrev pub invariant-loop-node : goal.invariant-loop-node
invariant-loop-node g l = record { count : length l.labels.items ≡ l.node; each : (a : ℕ) → a < l.node → slice_index l.labels.items a ≡ a }
