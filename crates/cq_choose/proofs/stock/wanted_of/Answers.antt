use Rattle.std.proofs.Common.{◌∙◌, map, ap}
use Rattle.std.proofs.lemmas.List.{take_all}
use Rattle.cq_choose.specs.declared.keys.Good.TheVariants.{Query}
use Rattle.cq_choose.specs.Steps.Stocks.{stock_of, number_in}
use Rattle.cq_choose.proofs.Reaching.{map-more}
use Rattle.cq_choose.proofs.stock.wanted_of.Goals as goal

pub loop-name-preserved : goal.loop-name-preserved
loop-name-preserved g c =
    let stock = stock_of c.args.stock.now in
    c.in_ok-push.ensures.items
    ∙ map-more (λ name. number_in stock (Query name)) c.loop-name.wanted.items c.number_in.result c.args.names.now c.loop-name.name-index c.name-item.result c.loop-name-test.true c.name-item.is c.loop-name.invariant
    (c.number_in.ensures ∙ ap (number_in stock) c.query_key.ensures)

pub returns : goal.returns
returns g c = c.loop-name.invariant ∙ ap (map (λ name. number_in (stock_of c.args.stock.now) (Query name))) (take_all c.loop-name.name-index c.args.names.now c.loop-name-test.false)
