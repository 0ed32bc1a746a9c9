use Rattle.std.proofs.Common.{◌∙◌, sym}
use Rattle.cq_choose.proofs.Turns.{told-on, told-here, told-end}
use Rattle.cq_choose.proofs.telling.told_first.Goals as goal

pub loop-place-preserved : goal.loop-place-preserved
loop-place-preserved g c =
    c.loop-place.invariant
    ∙ told-on c.args.board.now c.args.spare.now c.args.stock.now.goods.keys (λ name. name.now) c.args.names.now c.loop-place.place c.index-names-place.result c.loop-place-test.true c.index-names-place.is
    c.told_at-told.result c.told_at-told.ensures (sym c.is_some.ensures ∙ c.if-is_some.false)

pub returns-then-is_some : goal.returns-then-is_some
returns-then-is_some g c =
    sym (told-here c.args.board.now c.args.spare.now c.args.stock.now.goods.keys (λ name. name.now) c.args.names.now c.loop-place.place c.index-names-place.result c.loop-place-test.true c.index-names-place.is
    c.told_at-told.result c.told_at-told.ensures (sym c.is_some.ensures ∙ c.if-is_some.true))
    ∙ sym c.loop-place.invariant

pub returns : goal.returns
returns g c =
    sym (told-end c.args.board.now c.args.spare.now c.args.stock.now.goods.keys (λ name. name.now) c.args.names.now c.loop-place.place c.loop-place-test.false) ∙ sym c.loop-place.invariant
