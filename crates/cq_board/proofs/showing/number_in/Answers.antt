use Rattle.std.proofs.Common.{◌∙◌, sym, nat_eq}
use Rattle.cq_board.proofs.Shows.{position-none}
use Rattle.cq_board.proofs.showing.number_in.Goals as goal

pub returns-in-None : goal.returns-in-None
returns-in-None g c = c.len.ensures.len ∙ sym (position-none (nat_eq c.args.place) c.args.places.now.keys (sym c.get_index_of.ensures.index ∙ c.in-None.is))
