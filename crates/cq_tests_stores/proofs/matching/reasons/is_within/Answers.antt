use Rattle.std.proofs.Common.{arith}
use borrow.Author.Tests.{ltb-true}
use Rattle.cq_tests_stores.proofs.Numbered.{numbered-ends}
use Rattle.cq_tests_stores.proofs.matching.reasons.is_within.Goals as goal

pub returns : goal.returns
returns c = λ t numbered. numbered-ends c.args.nodes.now c.args.edge numbered (omega arith) (omega arith) (ltb-true _ _ t)
