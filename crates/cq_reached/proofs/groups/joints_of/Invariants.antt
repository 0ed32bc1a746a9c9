use Rattle.std.proofs.Common.{◌<◌, length}
use Rattle.std.specs.List.{All}
use Rattle.cq_reached.proofs.groups.joints_of.Given as goal

abbrev pub invariant-loop-edge : goal.invariant-loop-edge
invariant-loop-edge g l = record {
  one : All (λ joint. joint.0 < length l.flags) l.joints.items;
  other : All (λ joint. joint.1 < length l.flags) l.joints.items;
}
