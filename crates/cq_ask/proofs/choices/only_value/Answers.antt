use Rattle.std.proofs.Common.{arith}
use Rattle.cq_ask.proofs.Chosen.{single}
use Rattle.cq_ask.proofs.choices.only_value.Goals as goal

pub returns-then-values-eq1 : goal.returns-then-values-eq1
returns-then-values-eq1 g c = single c.args.values.now _ c.index-values-0.result (omega arith) (omega arith) c.index-values-0.is
