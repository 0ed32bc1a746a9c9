use Rattle.cq_text.proofs.Names.{unbound_fails, unbound_here, unbound_at_end, unbound_not}
use Rattle.cq_text.proofs.Passed.{passed_on}
use Rattle.cq_text.proofs.reading.Reader.unbound.Goals as goal

pub returns-in_err-is_unbound : goal.returns-in_err-is_unbound
returns-in_err-is_unbound g c =
    passed_on _ c.from_residual.result c.in_err-is_unbound.field-0.0 _ c.from_residual.ensures.1 (unbound_fails c.in_err-is_unbound.field-0.0 c.args.body.now c.args.self.now c.in_err-is_unbound.ensures)

pub returns-then-is_unbound : goal.returns-then-is_unbound
returns-then-is_unbound g c = unbound_here c.args.body.now c.args.self.now _ _ _ _ c.in_ok-is_unbound.ensures c.if-is_unbound.true

pub returns-then-is_finish : goal.returns-then-is_finish
returns-then-is_finish g c = rw c.shape.ensures (unbound_at_end c.args.body.now c.args.self.now _ _ _ _ c.in_ok-is_unbound.ensures c.if-is_unbound.false c.if-is_finish.true)

pub returns-else-is_finish : goal.returns-else-is_finish
returns-else-is_finish g c = unbound_not c.args.body.now c.args.self.now _ _ _ _ c.in_ok-is_unbound.ensures c.if-is_unbound.false c.if-is_finish.false
