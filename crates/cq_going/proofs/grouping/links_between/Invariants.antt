use Rattle.std.proofs.Common.{◌≡◌, ◌++◌, drop}
use Rattle.cq_going.specs.Grouping.{links_between}
use Rattle.cq_going.proofs.grouping.links_between.Given as goal

-- the links, and those of the edges that are left
abbrev pub invariant-loop-edge : goal.invariant-loop-edge
invariant-loop-edge g l = l.links.items ++ links_between l.flags (drop l.edge-index l.edges) ≡ links_between l.flags l.edges
