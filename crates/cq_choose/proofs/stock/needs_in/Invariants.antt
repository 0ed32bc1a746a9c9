use Rattle.std.proofs.Common.{◌≡◌, map, take}
use Rattle.cq_atom.specs.Valuation.{under}
use Rattle.cq_board.specs.Choice.{bound}
use Rattle.cq_choose.specs.declared.keys.Good.TheVariants.{Atom}
use Rattle.cq_choose.specs.Steps.Stocks.{stock_of, number_in}
use Rattle.cq_choose.proofs.stock.needs_in.Given as goal

abbrev pub invariant-loop-post : goal.invariant-loop-post
invariant-loop-post g l =
    l.needs.items ≡ map (number_in (stock_of l.stock)) (map (λ atom. Atom (under (bound l.offer.query.now l.offer.values.now) atom)) (take l.post-index l.post-items))
