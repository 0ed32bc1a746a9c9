use Rattle.std.proofs.Common.{◌∙◌, map, sym}
use Rattle.cq_choose.specs.Steps.Offers.{offer_of}
use Rattle.cq_choose.proofs.Offered.{idle-no_offers}
use Rattle.cq_choose.proofs.offers.add_offers.Goals as goal

pub returns-then-is_spare : goal.returns-then-is_spare
returns-then-is_spare g c = idle-no_offers c.args.board.now c.args.spare.now c.args.place c.args.name.now (map offer_of c.args.offers.now.items) (sym c.is_spare.ensures ∙ c.if-is_spare.true)
