use Rattle.std.proofs.Common.{◌≡◌, ◌++◌, map, drop}
use Rattle.std.specs.Prelude.{string_bytes}
use Rattle.std.specs.List.{flat_map}
use Rattle.cq_render.specs.Graph.{is_drawn}
use Rattle.cq_render.specs.Steps.Walking.{shown_box, shown_if, shown_read}
use Rattle.cq_render.proofs.graphing.put_boxes.Given as goal

abbrev pub invariant-loop-shown : goal.invariant-loop-shown
invariant-loop-shown g l =
    string_bytes l.page ++ flat_map (shown_if (is_drawn l.drawn) shown_box) (map shown_read (drop l.shown-index l.listing.queries.items))
    ≡ string_bytes l.initial.page ++ flat_map (shown_if (is_drawn l.drawn) shown_box) (map shown_read l.listing.queries.items)
