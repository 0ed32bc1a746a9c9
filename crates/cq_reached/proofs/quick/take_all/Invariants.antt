use Rattle.std.proofs.Common.{◌≤◌, map, drop}
use Rattle.cq_reached.specs.Steps.Taking.{names_of, LeadsOn}
use Rattle.cq_reached.proofs.quick.take_all.Given as goal

abbrev pub invariant-loop-name : goal.invariant-loop-name
invariant-loop-name g l = record {
  within : l.reach.steps ≤ l.budget;
  leads : LeadsOn l.board (map (λ name. name.now) l.names) (names_of l.reach.taken.items) (map (λ name. name.now) (drop l.name-index l.names));
}
