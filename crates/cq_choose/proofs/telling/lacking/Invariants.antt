use Rattle.std.proofs.Common.{◌≡◌, map, drop}
use Rattle.cq_atom.specs.Valuation.{under}
use Rattle.cq_board.specs.Choice.{bound}
use Rattle.cq_choose.specs.declared.keys.Good.TheVariants.{Atom}
use Rattle.cq_choose.specs.Steps.Stocks.{stock_of}
use Rattle.cq_choose.specs.Steps.Telling.{lacking_from}
use Rattle.cq_choose.proofs.telling.lacking.Given as goal

-- what is left decides
abbrev pub invariant-loop-post : goal.invariant-loop-post
invariant-loop-post g l =
    lacking_from (stock_of l.stock).goods 0 (map (λ post. Atom (under (bound l.query l.values) post)) l.atom-items)
    ≡ lacking_from (stock_of l.stock).goods l.post (map (λ post. Atom (under (bound l.query l.values) post)) (drop l.post l.atom-items))
