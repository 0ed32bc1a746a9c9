use Rattle.std.proofs.Common.{◌≡◌, map, drop}
use Rattle.cq_choose.specs.Steps.Offers.{offer_of}
use Rattle.cq_choose.specs.Steps.Stocks.{stock_of, with_offers, empty_stock}
use Rattle.cq_choose.proofs.stock.stocked.Given as goal

-- what is left leads to the same
abbrev pub invariant-loop-member : goal.invariant-loop-member
invariant-loop-member g l = with_offers l.member (stock_of l.stock) (map offer_of (drop l.member l.offers)) ≡ with_offers 0 empty_stock (map offer_of l.offers)
