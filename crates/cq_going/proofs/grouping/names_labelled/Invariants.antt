use Rattle.std.proofs.Common.{◌≡◌, ◌++◌, map, drop}
use Rattle.std.specs.List.{enumerate_from, flat_map}
use Rattle.cq_going.specs.Grouping.{name_if, names_labelled}
use Rattle.cq_going.proofs.grouping.names_labelled.Given as goal

-- the names, and those of the places that are left
abbrev pub invariant-loop-place : goal.invariant-loop-place
invariant-loop-place g l =
    l.found.items ++ flat_map (name_if l.grouped.matched.items l.grouped.labels.items l.label) (enumerate_from l.place (drop l.place (map (λ name. name.now) l.grouped.names.items)))
    ≡ names_labelled l.grouped.matched.items l.grouped.labels.items (map (λ name. name.now) l.grouped.names.items) l.label
