use Rattle.cq_text.proofs.Queried.{query_unopened, query_no_posts, query_no_heads, query_no_body, query_read}
use Rattle.cq_text.proofs.reading.Reader.query.Goals as goal

pub returns-in_err-sign : goal.returns-in_err-sign
returns-in_err-sign g c = query_unopened _ c.from_residual.result c.args.form c.args.self.now c.in_err-sign.field-0.0 c.from_residual.ensures.1 c.in_err-sign.ensures

pub returns-in_err-posts : goal.returns-in_err-posts
returns-in_err-posts g c =
    query_no_posts _ c.from_residual-in_err-posts.result c.args.form c.args.self.now _ c.in_ok-sign.ensures c.in_err-posts.field-0.0 c.from_residual-in_err-posts.ensures.1 c.in_err-posts.ensures.atoms

pub returns-in_err-heads : goal.returns-in_err-heads
returns-in_err-heads g c =
    query_no_heads _ c.from_residual-in_err-heads.result c.args.form c.args.self.now _ c.in_ok-sign.ensures _ _ c.in_ok-posts.ensures.atoms c.in_err-heads.field-0.0 c.from_residual-in_err-heads.ensures.1 c.in_err-heads.ensures.atoms

pub returns-in_err-body : goal.returns-in_err-body
returns-in_err-body g c =
    query_no_body _ c.from_residual-in_err-body.result c.args.form c.args.self.now _ c.in_ok-sign.ensures _ _ c.in_ok-posts.ensures.atoms _ _ c.in_ok-heads.ensures.atoms
    c.in_err-body.field-0.0 c.from_residual-in_err-body.ensures.1 c.in_err-body.ensures.atoms

pub returns : goal.returns
returns g c =
    query_read _ c.bound_query.result c.args.form c.args.self.now _ c.in_ok-sign.ensures _ _ c.in_ok-posts.ensures.atoms _ _ c.in_ok-heads.ensures.atoms
    _ _ _ c.in_ok-body.ensures.atoms c.again-behind.ensures c.bound_query.ensures
