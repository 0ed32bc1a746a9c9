use Rattle.std.proofs.Common.{◌∙◌, List, map, refl, ap}
use Rattle.std.proofs.lemmas.List.{take_all}
use Rattle.cq_select.specs.declared.supply.Member.{Member}
use Rattle.cq_choose.specs.declared.offers.Offer.{Offer}
use Rattle.cq_choose.specs.Steps.Offers.{OfferRecord, offer_of}
use Rattle.cq_choose.specs.Steps.Stocks.{stock_of, needs_in}
use Rattle.cq_choose.proofs.Kept.{read-more}
use Rattle.cq_choose.proofs.stock.members_of.Goals as goal

pub loop-offer-preserved : goal.loop-offer-preserved
loop-offer-preserved g c =
    let i = c.loop-offer.offer-index in
    let members = c.loop-offer.members.items in
    let offers = c.args.offers.now in
    let member : Member g.row.A.Denot = record { owner = c.offer-item.result.place; needs = c.in_ok-needs.needs } in
    record {
      owners = ap (map (λ m. m.owner)) c.in_ok-push.ensures.items ∙ read-more (λ m. m.owner) (λ (o : OfferRecord). o.place) offer_of members member offers i c.offer-item.result c.loop-offer-test.true c.offer-item.is c.loop-offer.invariant.owners refl;
      needs = ap (map (λ m. m.needs.items)) c.in_ok-push.ensures.items ∙ read-more (λ m. m.needs.items) (needs_in (stock_of c.args.stock.now)) offer_of members member offers i c.offer-item.result c.loop-offer-test.true c.offer-item.is c.loop-offer.invariant.needs c.in_ok-needs.ensures;
    }

pub returns-clause-owners : goal.returns-clause-owners
returns-clause-owners g c =
    c.loop-offer.invariant.owners ∙ ap (λ (l : List (Offer g.row.A.Denot)). map (λ (o : OfferRecord). o.place) (map offer_of l)) (take_all c.loop-offer.offer-index c.args.offers.now c.loop-offer-test.false)

pub returns-clause-needs : goal.returns-clause-needs
returns-clause-needs g c =
    c.loop-offer.invariant.needs ∙ ap (λ (l : List (Offer g.row.A.Denot)). map (needs_in (stock_of c.args.stock.now)) (map offer_of l)) (take_all c.loop-offer.offer-index c.args.offers.now c.loop-offer-test.false)
