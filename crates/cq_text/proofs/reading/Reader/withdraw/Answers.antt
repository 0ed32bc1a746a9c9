use Rattle.cq_text.proofs.Names.{withdraw_read, withdraw_fails, withdraw_fails_behind}
use Rattle.cq_text.proofs.Passed.{passed_on}
use Rattle.cq_text.proofs.reading.Reader.withdraw.Goals as goal

pub returns-in_err-name : goal.returns-in_err-name
returns-in_err-name g c = passed_on _ c.from_residual.result c.in_err-name.field-0.0 _ c.from_residual.ensures.1 (withdraw_fails c.in_err-name.field-0.0 c.args.self.now c.in_err-name.ensures)

pub returns-in_err-end : goal.returns-in_err-end
returns-in_err-end g c =
    passed_on _ c.from_residual-in_err-end.result c.in_err-end.field-0.0 _ c.from_residual-in_err-end.ensures.1 (withdraw_fails_behind c.in_err-end.field-0.0 c.args.self.now _ _ c.in_ok-name.ensures c.in_err-end.ensures)

pub returns : goal.returns
returns g c = withdraw_read c.args.self.now _ _ _ c.in_ok-name.ensures c.in_ok-end.ensures
