use Rattle.std.proofs.Common.{◌∙◌, sym}
use Rattle.cq_choose.proofs.Turns.{idle-not_told}
use Rattle.cq_choose.proofs.telling.told_at.Goals as goal

pub returns-then-is_spare : goal.returns-then-is_spare
returns-then-is_spare g c =
    idle-not_told c.args.board.now c.args.spare.now c.args.stock.now.goods.keys c.args.place c.args.name.now (sym c.is_spare.ensures ∙ c.if-is_spare.true)
