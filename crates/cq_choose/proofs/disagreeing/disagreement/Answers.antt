use Rattle.std.proofs.Common.{◌∙◌, List, Bool, map, ap}
use Rattle.cq_choose.specs.declared.offers.Offer.{Offer}
use Rattle.cq_choose.specs.Steps.Offers.{offer_of, offers_of}
use Rattle.cq_choose.specs.Steps.Stocks.{StockRecord, stocked}
use Rattle.cq_choose.specs.Steps.Telling.{told_from}
use Rattle.cq_choose.proofs.Disagreements.{found-told, found-none, found-impossible}
use Rattle.cq_choose.proofs.disagreeing.disagreement.Goals as goal

pub returns-clause-told : goal.returns-clause-told
returns-clause-told g c =
    let pool = c.args.board.now in
    let spare = c.in_ok-spare.spare.items in
    let goods = c.in_ok-stock.stock.goods.keys in
    found-told pool c.len-good.ensures.valid c.args.names.now spare c.in_ok-spare.ensures (map offer_of c.in_ok-offers.offers.items)
    (c.in_ok-offers.ensures ∙ ap (offers_of pool) c.deref.ensures.value) goods
    (ap (λ (s : StockRecord). s.goods) (c.in_ok-stock.ensures ∙ ap (λ (l : List (Offer g.row.A.Denot)). stocked (map offer_of l)) c.deref-2.ensures.value))
    c.told_first.result
    (c.told_first.ensures
    ∙ ap (λ (l : List Bool). told_from pool l goods 0 (map (λ name. name.now) c.deref-4.result.now)) c.deref-3.ensures.value
    ∙ ap (told_from pool spare goods 0) (ap (map (λ name. name.now)) c.deref-4.ensures.value ∙ c.in_ok-posted.ensures))

pub returns-clause-none : goal.returns-clause-none
returns-clause-none g c =
    let pool = c.args.board.now in
    let spare = c.in_ok-spare.spare.items in
    let goods = c.in_ok-stock.stock.goods.keys in
    found-none pool c.len-good.ensures.valid c.args.names.now spare c.in_ok-spare.ensures (map offer_of c.in_ok-offers.offers.items)
    (c.in_ok-offers.ensures ∙ ap (offers_of pool) c.deref.ensures.value) goods
    (ap (λ (s : StockRecord). s.goods) (c.in_ok-stock.ensures ∙ ap (λ (l : List (Offer g.row.A.Denot)). stocked (map offer_of l)) c.deref-2.ensures.value))
    c.told_first.result
    (c.told_first.ensures
    ∙ ap (λ (l : List Bool). told_from pool l goods 0 (map (λ name. name.now) c.deref-4.result.now)) c.deref-3.ensures.value
    ∙ ap (told_from pool spare goods 0) (ap (map (λ name. name.now)) c.deref-4.ensures.value ∙ c.in_ok-posted.ensures))

pub returns-clause-impossible : goal.returns-clause-impossible
returns-clause-impossible g c =
    let pool = c.args.board.now in
    let spare = c.in_ok-spare.spare.items in
    let goods = c.in_ok-stock.stock.goods.keys in
    found-impossible pool c.len-good.ensures.valid c.args.names.now spare c.in_ok-spare.ensures (map offer_of c.in_ok-offers.offers.items)
    (c.in_ok-offers.ensures ∙ ap (offers_of pool) c.deref.ensures.value) goods
    (ap (λ (s : StockRecord). s.goods) (c.in_ok-stock.ensures ∙ ap (λ (l : List (Offer g.row.A.Denot)). stocked (map offer_of l)) c.deref-2.ensures.value))
    c.told_first.result
    (c.told_first.ensures
    ∙ ap (λ (l : List Bool). told_from pool l goods 0 (map (λ name. name.now) c.deref-4.result.now)) c.deref-3.ensures.value
    ∙ ap (told_from pool spare goods 0) (ap (map (λ name. name.now)) c.deref-4.ensures.value ∙ c.in_ok-posted.ensures))
