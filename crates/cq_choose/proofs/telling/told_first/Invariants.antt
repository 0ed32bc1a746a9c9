use Rattle.std.proofs.Common.{◌≡◌, map, drop}
use Rattle.cq_choose.specs.Steps.Stocks.{stock_of}
use Rattle.cq_choose.specs.Steps.Telling.{told_from}
use Rattle.cq_choose.proofs.telling.told_first.Given as goal

-- what is left decides
abbrev pub invariant-loop-place : goal.invariant-loop-place
invariant-loop-place g l =
    told_from l.board l.spare (stock_of l.stock).goods 0 (map (λ name. name.now) l.names)
    ≡ told_from l.board l.spare (stock_of l.stock).goods l.place (map (λ name. name.now) (drop l.place l.names))
