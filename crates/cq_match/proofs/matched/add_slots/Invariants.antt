use Rattle.std.proofs.Common.{◌≡◌, ◌++◌, replicate}
use Rattle.cq_match.proofs.matched.add_slots.Given as goal

abbrev pub invariant-loop : goal.invariant-loop
invariant-loop g l = l.owners.items ≡ l.initial.owners.items ++ replicate l.counter l.place
