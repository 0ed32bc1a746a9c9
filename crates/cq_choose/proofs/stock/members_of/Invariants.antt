use Rattle.std.proofs.Common.{◌≡◌, map, take}
use Rattle.cq_choose.specs.Steps.Offers.{offer_of}
use Rattle.cq_choose.specs.Steps.Stocks.{stock_of, needs_in}
use Rattle.cq_choose.proofs.stock.members_of.Given as goal

abbrev pub invariant-loop-offer : goal.invariant-loop-offer
invariant-loop-offer g l = record {
  owners : map (λ m. m.owner) l.members.items ≡ map (λ o. o.place) (map offer_of (take l.offer-index l.offers));
  needs : map (λ m. m.needs.items) l.members.items ≡ map (needs_in (stock_of l.stock)) (map offer_of (take l.offer-index l.offers));
}
