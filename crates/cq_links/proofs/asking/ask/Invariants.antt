use Rattle.std.proofs.Common.{◌≡◌, ◌++◌, map, take}
use Rattle.cq_links.specs.Steps.Asking.{edge_of}
use Rattle.cq_links.proofs.asking.ask.Given as goal

abbrev pub invariant-loop-key : goal.invariant-loop-key
invariant-loop-key g l = l.edges.items ≡ l.initial.edges.items ++ map (edge_of l.side l.place l.number) (take l.key-index l.key-items)
