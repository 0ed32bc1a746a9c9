use Rattle.std.proofs.Common.{arith}
use Rattle.cq_tests_stores.proofs.Numbered.{numbered-distinct}
use Rattle.cq_tests_stores.proofs.matching.reasons.are_numbered.Goals as goal

pub returns-clause-numbered : goal.returns-clause-numbered
returns-clause-numbered c = λ all place low. c.loop-place.invariant place (omega arith)

pub returns-clause-distinct : goal.returns-clause-distinct
returns-clause-distinct c = λ all. numbered-distinct c.args.nodes.now (λ place low. c.loop-place.invariant place (omega arith))
