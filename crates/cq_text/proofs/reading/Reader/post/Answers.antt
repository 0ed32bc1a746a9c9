use Rattle.cq_text.proofs.Names.{post_read, post_fails, post_fails_behind}
use Rattle.cq_text.proofs.Passed.{passed_on}
use Rattle.cq_text.proofs.reading.Reader.post.Goals as goal

pub returns : goal.returns
returns g c = post_read c.args.form c.args.self.now _ _ _ c.in_ok-name.ensures c.in_ok-query.ensures

pub returns-in_err-name : goal.returns-in_err-name
returns-in_err-name g c =
    passed_on _ c.from_residual.result c.in_err-name.field-0.0 _ c.from_residual.ensures.1 (post_fails c.in_err-name.field-0.0 c.args.form c.args.self.now c.in_err-name.ensures)

pub returns-in_err-query : goal.returns-in_err-query
returns-in_err-query g c =
    passed_on _ c.from_residual-in_err-query.result c.in_err-query.field-0.0 _ c.from_residual-in_err-query.ensures.1
    (post_fails_behind c.in_err-query.field-0.0 c.args.form c.args.self.now _ _ c.in_ok-name.ensures c.in_err-query.ensures)
