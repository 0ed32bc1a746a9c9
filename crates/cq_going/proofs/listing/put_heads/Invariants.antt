use Rattle.std.proofs.Common.{◌≡◌, ◌++◌, map, drop}
use Rattle.std.specs.Prelude.{string_bytes}
use Rattle.std.specs.List.{flat_map}
use Rattle.cq_atom.specs.Valuation.{under}
use Rattle.cq_board.specs.Choice.{bound}
use Rattle.cq_going.specs.Going.{offer_line}
use Rattle.cq_going.proofs.listing.put_heads.Given as goal

-- the page, and the heads that are left
abbrev pub invariant-loop-head : goal.invariant-loop-head
invariant-loop-head g l =
    string_bytes l.page ++ flat_map (offer_line l.name) (map (under (bound l.query l.values)) (drop l.head-index l.head-items))
    ≡ string_bytes l.initial.page ++ flat_map (offer_line l.name) (map (under (bound l.query l.values)) l.head-items)
