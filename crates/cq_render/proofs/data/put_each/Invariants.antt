use Rattle.std.proofs.Common.{◌≡◌, ◌++◌, map, drop}
use Rattle.cq_render.specs.Steps.Walking.{shown_json, shown_read}
use Rattle.cq_render.proofs.Arrays.{listed}
use Rattle.cq_render.proofs.data.put_each.Given as goal

abbrev pub invariant-loop-shown : goal.invariant-loop-shown
invariant-loop-shown g l =
    let f = shown_json l.listing.board.now.pending in
    let items = l.listing.queries.items in
    l.sheet ++ listed f (map shown_read (drop l.shown-index items)) ≡ l.initial.sheet ++ listed f (map shown_read items)
