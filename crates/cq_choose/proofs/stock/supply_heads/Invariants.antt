use Rattle.std.proofs.Common.{◌≡◌, map, drop}
use Rattle.cq_atom.specs.Valuation.{under}
use Rattle.cq_board.specs.Choice.{bound}
use Rattle.cq_choose.specs.declared.keys.Good.TheVariants.{Atom}
use Rattle.cq_choose.specs.Steps.Stocks.{stock_of, with_goods}
use Rattle.cq_choose.proofs.stock.supply_heads.Given as goal

-- what is left leads to the same
abbrev pub invariant-loop-head : goal.invariant-loop-head
invariant-loop-head g l =
    with_goods l.member (stock_of l.stock) (map (λ atom. Atom (under (bound l.offer.query.now l.offer.values.now) atom)) (drop l.head-index l.head-items))
    ≡ with_goods l.member (stock_of l.initial.stock) (map (λ atom. Atom (under (bound l.offer.query.now l.offer.values.now) atom)) l.head-items)
