use Rattle.std.proofs.Common.{◌∙◌, sym}
use Rattle.cq_choose.specs.Steps.Goods.{same_good}
use Rattle.cq_choose.proofs.Terms.{position-none, position-some}
use Rattle.cq_choose.proofs.stock.number_in.Goals as goal

pub returns-in-Some : goal.returns-in-Some
returns-in-Some g c = position-some (same_good c.args.key.now) c.args.stock.now.goods.keys c.in-Some.number c.in-Some.ensures.index

pub returns-in-None : goal.returns-in-None
returns-in-None g c = c.len.ensures.len ∙ sym (position-none (same_good c.args.key.now) c.args.stock.now.goods.keys c.in-None.ensures.index)
