use Rattle.std.proofs.Common.{◌++◌, map, sym, ap, ◌∙◌, Err}
use Rattle.std.proofs.lemmas.Result.{err_from_is_err_and}
use Rattle.cq_atom.specs.declared.edit.EditKind.TheVariants.{Insert, Post}
use Rattle.cq_board.specs.Pool.{PoolRecord}
use Rattle.cq_board.specs.Scratch.{scratch_of}
use Rattle.cq_board.proofs.Scratched.{makes_refused, scratch_of-append, scratch_of-append_refused}
use Rattle.cq_board.proofs.board.Board.scratch.Goals as goal

pub returns-in_err-insert_all : goal.returns-in_err-insert_all
returns-in_err-insert_all g c =
    let p = err_from_is_err_and c.from_residual-in_err-insert_all.result c.from_residual-in_err-insert_all.ensures.1 in
    let rows = map (λ r. Insert r) c.args.rows.now in
    let queries = map (λ q. Post q.0 q.1) c.args.queries.now in
    makes_refused (scratch_of c.in_ok-board.board rows) _ c.insert_all.new.self c.in_err-insert_all.field-0.0 c.from_residual-in_err-insert_all.result (p.1 ∙ ap Err p.2) c.in_err-insert_all.ensures
    (λ reason h. ap (λ (pool : PoolRecord). scratch_of pool (rows ++ queries)) (sym c.in_ok-board.ensures) ∙ scratch_of-append_refused rows queries c.in_ok-board.board reason h)

pub returns-in_err-post_all : goal.returns-in_err-post_all
returns-in_err-post_all g c =
    let p = err_from_is_err_and c.from_residual-in_err-post_all.result c.from_residual-in_err-post_all.ensures.1 in
    let rows = map (λ r. Insert r) c.args.rows.now in
    let queries = map (λ q. Post q.0 q.1) c.args.queries.now in
    makes_refused (scratch_of c.insert_all.new.self queries) _ c.post_all.new.self c.in_err-post_all.field-0.0 c.from_residual-in_err-post_all.result (p.1 ∙ ap Err p.2) c.in_err-post_all.ensures
    (λ reason h. ap (λ (pool : PoolRecord). scratch_of pool (rows ++ queries)) (sym c.in_ok-board.ensures) ∙ scratch_of-append rows queries c.in_ok-board.board c.insert_all.new.self c.in_ok-insert_all.ensures ∙ h)

pub returns : goal.returns
returns g c =
    let rows = map (λ r. Insert r) c.args.rows.now in
    let queries = map (λ q. Post q.0 q.1) c.args.queries.now in
    ap (λ (pool : PoolRecord). scratch_of pool (rows ++ queries)) (sym c.in_ok-board.ensures)
    ∙ scratch_of-append rows queries c.in_ok-board.board c.insert_all.new.self c.in_ok-insert_all.ensures ∙ c.in_ok-post_all.ensures
