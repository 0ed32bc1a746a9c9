use Rattle.std.proofs.Common.{◌∙◌, ◌+◌, List, map, drop, sym, ap}
use Rattle.std.proofs.lemmas.List.{drop_all}
use Rattle.cq_choose.specs.declared.offers.Offer.{Offer}
use Rattle.cq_choose.specs.Steps.Offers.{offer_of}
use Rattle.cq_choose.specs.Steps.Stocks.{StockRecord, stock_of, with_offers}
use Rattle.cq_choose.proofs.Terms.{ahead}
use Rattle.cq_choose.proofs.stock.stocked.Goals as goal

pub loop-member-preserved : goal.loop-member-preserved
loop-member-preserved g c =
    let i = c.loop-member.member in
    let offers = c.args.offers.now in
    ap (λ (s : StockRecord). with_offers (i + 1) s (map offer_of (drop (i + 1) offers))) c.in_ok-supply_all.ensures
    ∙ sym (ap (λ (l : List (Offer g.row.A.Denot)). with_offers i (stock_of c.loop-member.stock) (map offer_of l)) (ahead offers i c.index-offers-member.result c.loop-member-test.true c.index-offers-member.is)) ∙ c.loop-member.invariant

pub returns : goal.returns
returns g c =
    let i = c.loop-member.member in
    ap (λ (l : List (Offer g.row.A.Denot)). with_offers i (stock_of c.loop-member.stock) (map offer_of l)) (sym (drop_all i c.args.offers.now c.loop-member-test.false)) ∙ c.loop-member.invariant
