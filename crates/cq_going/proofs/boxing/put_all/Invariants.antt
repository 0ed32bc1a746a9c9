use Rattle.std.proofs.Common.{◌≡◌, ◌++◌, drop}
use Rattle.std.specs.Prelude.{string_bytes}
use Rattle.std.specs.List.{enumerate_from, flat_map}
use Rattle.cq_render.specs.Graph.{is_drawn}
use Rattle.cq_going.specs.Boxes.{box_of}
use Rattle.cq_going.proofs.boxing.put_all.Given as goal

-- the page, and what the places have that are left
abbrev pub invariant-loop-place : goal.invariant-loop-place
invariant-loop-place g l =
    string_bytes l.page ++ flat_map (λ query. box_of (is_drawn l.drawn) l.grouped.matched.items l.grouped.labels.items query.0) (enumerate_from l.place (drop l.place l.grouped.names.items))
    ≡ string_bytes l.initial.page ++ flat_map (λ query. box_of (is_drawn l.drawn) l.grouped.matched.items l.grouped.labels.items query.0) (enumerate_from 0 l.grouped.names.items)
