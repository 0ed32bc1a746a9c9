use Rattle.std.proofs.Common.{map}
use Rattle.cq_choose.specs.Steps.Offers.{offer_of, offers_from}
use Rattle.cq_choose.proofs.Onward.{offers-on, offers-end}
use Rattle.cq_choose.proofs.offers.offers_named.Goals as goal

pub loop-place-preserved : goal.loop-place-preserved
loop-place-preserved g c =
    let names = c.args.names.now in
    offers-on c.args.board.now c.args.spare.now (λ name. name.now) names c.loop-place.place (offers_from c.args.board.now c.args.spare.now 0 (map (λ name. name.now) names))
    (map offer_of c.add_offers.new.offers.items) (map offer_of c.loop-place.offers.items) c.index-names-place.result c.loop-place-test.true c.index-names-place.is c.in_ok-add_offers.ensures c.loop-place.invariant

pub returns : goal.returns
returns g c =
    let names = c.args.names.now in
    offers-end c.args.board.now c.args.spare.now (λ name. name.now) names c.loop-place.place (offers_from c.args.board.now c.args.spare.now 0 (map (λ name. name.now) names))
    (map offer_of c.loop-place.offers.items) c.loop-place-test.false c.loop-place.invariant
