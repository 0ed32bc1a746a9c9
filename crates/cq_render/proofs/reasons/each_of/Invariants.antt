use Rattle.std.proofs.Common.{◌≡◌, map, take}
use Rattle.cq_render.proofs.reasons.each_of.Given as goal

-- the references so far are to the names so far
abbrev pub invariant-loop-name : goal.invariant-loop-name
invariant-loop-name g l = map (λ name. name.now) l.each.items ≡ take l.name-index l.names
