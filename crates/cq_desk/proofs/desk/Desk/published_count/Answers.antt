use Rattle.std.proofs.Common.{arith}
use Rattle.cq_desk.proofs.Basing.{shown_short}
use Rattle.cq_desk.proofs.desk.Desk.published_count.Goals as goal

pub overflow_add-result : goal.overflow_add-result
overflow_add-result g c = let n = shown_short c.self.invariant in let most = c.self.invariant.numbers in omega (arith, n, most)
