use Rattle.std.proofs.Common.{◌∙◌, sym}
use Rattle.cq_choose.proofs.Turns.{agrees-on, agrees-here, agrees-end, all-or-some}
use Rattle.cq_choose.proofs.telling.agrees.Goals as goal

pub loop-values-preserved : goal.loop-values-preserved
loop-values-preserved g c =
    let goods = c.args.stock.now.goods.keys in
    let query = c.args.query.now in
    let values = c.in-Some.values.now in
    agrees-on goods query (λ values. values.items) c.loop-values.values-iterator c.next.new.self values c.in-Some.ensures.steps
    (all-or-some goods query values.items c.deref.result.now c.lacking.result c.is_none.result c.deref.ensures.value c.lacking.ensures c.is_none.ensures ∙ c.if-is_none.false)
    ∙ c.loop-values.invariant

pub returns-then-is_none : goal.returns-then-is_none
returns-then-is_none g c =
    let goods = c.args.stock.now.goods.keys in
    let query = c.args.query.now in
    let values = c.in-Some.values.now in
    sym (agrees-here goods query (λ values. values.items) c.loop-values.values-iterator c.next.new.self values c.in-Some.ensures.steps
    (all-or-some goods query values.items c.deref.result.now c.lacking.result c.is_none.result c.deref.ensures.value c.lacking.ensures c.is_none.ensures ∙ c.if-is_none.true))
    ∙ c.loop-values.invariant

pub returns : goal.returns
returns g c = sym (agrees-end c.args.stock.now.goods.keys c.args.query.now (λ values. values.items) c.loop-values.values-iterator c.in-None.ensures.steps.0) ∙ c.loop-values.invariant
