use Rattle.std.proofs.Common.{◌≡◌, ◌++◌, map, drop}
use Rattle.std.specs.Prelude.{string_bytes}
use Rattle.std.specs.List.{flat_map}
use Rattle.cq_render.specs.Steps.Walking.{shown_block, shown_read}
use Rattle.cq_render.proofs.reporting.put_named.Given as goal

abbrev pub invariant-loop-shown : goal.invariant-loop-shown
invariant-loop-shown g l =
    string_bytes l.page ++ flat_map (shown_block l.listing.board.now.pending l.name) (map shown_read (drop l.shown-index l.listing.queries.items))
    ≡ string_bytes l.initial.page ++ flat_map (shown_block l.listing.board.now.pending l.name) (map shown_read l.listing.queries.items)
