use Rattle.std.proofs.Common.{◌≡◌, ◌++◌, map, drop}
use Rattle.cq_atom.specs.Valuation.{under}
use Rattle.cq_board.specs.Choice.{bound}
use Rattle.cq_render.specs.Json.{atom_json}
use Rattle.cq_render.proofs.CallerLemmas.{listed}
use Rattle.cq_going.proofs.data.put_heads.Given as goal

-- the tokens, and the heads that are left
abbrev pub invariant-loop-head : goal.invariant-loop-head
invariant-loop-head g l =
    l.sheet ++ listed atom_json (map (under (bound l.query l.values)) (drop l.head-index l.query.heads)) ≡ l.initial.sheet ++ listed atom_json (map (under (bound l.query l.values)) l.query.heads)
