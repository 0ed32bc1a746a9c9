use Rattle.std.proofs.Common.{◌≡◌, map, take}
use Rattle.cq_choose.specs.declared.keys.Good.TheVariants.{Query}
use Rattle.cq_choose.specs.Steps.Stocks.{stock_of, number_in}
use Rattle.cq_choose.proofs.stock.wanted_of.Given as goal

abbrev pub invariant-loop-name : goal.invariant-loop-name
invariant-loop-name g l = l.wanted.items ≡ map (λ name. number_in (stock_of l.stock) (Query name)) (take l.name-index l.names)
