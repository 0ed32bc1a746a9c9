use Rattle.std.proofs.Common.{◌≡◌, map}
use Rattle.cq_choose.specs.Steps.Stocks.{stock_of}
use Rattle.cq_choose.specs.Steps.Telling.{agrees}
use Rattle.cq_choose.proofs.telling.agrees.Given as goal

-- what is left decides
abbrev pub invariant-loop-values : goal.invariant-loop-values
invariant-loop-values g l = agrees (stock_of l.stock).goods l.query (map (λ values. values.items) l.values-iterator) ≡ agrees (stock_of l.stock).goods l.query l.groundings
