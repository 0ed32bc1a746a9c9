use Rattle.std.proofs.Common.{length, ap}
use Rattle.cq_board.proofs.heads.key_of.Goals as goal

pub returns-clause-relation : goal.returns-clause-relation
returns-clause-relation g c = c.relation.ensures.value

pub returns-clause-arity : goal.returns-clause-arity
returns-clause-arity g c = ap length c.terms.ensures.value
