use Rattle.std.proofs.Common.{◌≤◌, map, drop}
use Rattle.cq_choose.specs.Choosing.{IsChoiceFor}
use Rattle.cq_reached.specs.Steps.Taking.{LeadsOn}
use Rattle.cq_reached.proofs.sure.take_surely.Given as goal

abbrev pub invariant-loop-name : goal.invariant-loop-name
invariant-loop-name g l = record {
  within : l.reach.steps ≤ l.budget;
  choice : IsChoiceFor l.board l.reach.taken.items l.reach.choices.items;
  leads : LeadsOn l.board (map (λ name. name.now) l.names) l.reach.taken.items (map (λ name. name.now) (drop l.name-index l.names));
}
