use Rattle.std.proofs.Common.{◌≡◌, map, take}
use Rattle.cq_render.proofs.explaining.senders.Given as goal

-- the senders so far are those of the edges so far
abbrev pub invariant-loop-edge : goal.invariant-loop-edge
invariant-loop-edge g l = l.senders.items ≡ map (λ edge. edge.provider) (take l.edge-index l.edges)
