use Rattle.std.proofs.Common.{◌≡◌, ◌++◌, map, take, drop}
use Rattle.cq_groups.specs.Steps.Labels.{renamed}
use Rattle.cq_groups.proofs.relabel.Given as goal

-- those so far have their new labels
abbrev pub invariant-loop-label : goal.invariant-loop-label
invariant-loop-label l = l.labels ≡ map (renamed l.from l.to) (take l.label-index l.initial.labels) ++ drop l.label-index l.initial.labels
