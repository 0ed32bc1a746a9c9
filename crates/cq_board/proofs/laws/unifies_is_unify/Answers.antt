use Rattle.cq_board.proofs.Searches.{unifies_tells}
use Rattle.cq_board.proofs.laws.unifies_is_unify.Goals as goal

pub returns : goal.returns
returns c a b = unifies_tells a b
