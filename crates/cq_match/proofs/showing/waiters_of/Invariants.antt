use Rattle.std.proofs.Common.{◌≡◌, ◌++◌, drop}
use Rattle.cq_match.specs.Steps.Kept.{edges_left}
use Rattle.cq_match.proofs.showing.waiters_of.Given as goal

abbrev pub invariant-loop-out : goal.invariant-loop-out
invariant-loop-out g l = l.edges.items ++ edges_left l.graph.places.items l.node (drop l.out-index l.outs) ≡ edges_left l.graph.places.items l.node l.outs
