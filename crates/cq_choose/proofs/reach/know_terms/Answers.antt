use Rattle.std.proofs.Common.{arith}
use Rattle.cq_board.specs.Steps.Choices.{IsValid}
use Rattle.cq_choose.proofs.Reaching.{all-more, all-end}
use Rattle.cq_choose.proofs.reach.know_terms.Goals as goal

pub loop-term-preserved : goal.loop-term-preserved
loop-term-preserved g c = all-more IsValid c.args.terms.now c.loop-term.term-index c.term-item.result (omega arith) c.term-item.is c.loop-term.invariant c.know_term.ensures

pub returns : goal.returns
returns g c = all-end IsValid c.args.terms.now c.loop-term.term-index (omega arith) c.loop-term.invariant
