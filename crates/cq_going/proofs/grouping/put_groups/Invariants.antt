use Rattle.std.proofs.Common.{◌≡◌, [], map, take}
use Rattle.std.specs.Prelude.{string_bytes}
use Rattle.std.specs.List.{enumerate_from}
use Rattle.cq_render.specs.Explain.{ArePieces}
use Rattle.cq_going.specs.Grouping.{IsGroupTold, names_labelled}
use Rattle.cq_going.proofs.grouping.put_groups.Given as goal

-- the page has the groups of the labels so far
abbrev pub invariant-loop-label : goal.invariant-loop-label
invariant-loop-label g l =
    string_bytes l.initial.page ≡ []
    → ArePieces (λ p. IsGroupTold l.board (names_labelled l.grouped.matched.items l.grouped.labels.items (map (λ name. name.now) l.grouped.names.items) p.0)) (take l.label (enumerate_from 0 l.grouped.names.items)) (string_bytes l.page)
