use Rattle.std.proofs.Common.{map, take}
use Rattle.std.specs.List.{enumerate_from}
use Rattle.cq_render.specs.Explain.{ArePieces}
use Rattle.cq_going.specs.Grouping.{names_labelled}
use Rattle.cq_going.specs.Data.{IsGroupJson}
use Rattle.cq_going.specs.Steps.Tokens.{ArePut}
use Rattle.cq_going.proofs.data_groups.put_each.Given as goal

-- the groups of the labels so far were put
abbrev pub invariant-loop-label : goal.invariant-loop-label
invariant-loop-label g l =
    ArePut (ArePieces (λ p. IsGroupJson l.board (names_labelled l.grouped.matched.items l.grouped.labels.items (map (λ name. name.now) l.grouped.names.items) p.0)) (take l.label (enumerate_from 0 l.grouped.names.items)))
    l.initial.sheet l.sheet
