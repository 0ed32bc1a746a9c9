use Rattle.std.proofs.Common.{◌≡◌, map, take}
use Rattle.cq_ask.proofs.finding.copies.Given as goal

-- the copies so far are those of the values so far
abbrev pub invariant-loop-value : goal.invariant-loop-value
invariant-loop-value g l = l.copies.items ≡ map (λ value. value.now) (take l.value-index l.values)
