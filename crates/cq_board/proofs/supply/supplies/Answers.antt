use Rattle.cq_board.proofs.Searches.{tells_same}
use Rattle.cq_board.proofs.supply.supplies.Goals as goal

pub returns-clause-test : goal.returns-clause-test
returns-clause-test g c = tells_same c.args.head.now c.args.post.now c.unify.result c.unify.ensures.unifies
