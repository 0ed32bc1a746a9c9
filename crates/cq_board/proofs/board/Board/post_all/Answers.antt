use Rattle.std.proofs.Common.{[], ◌∷◌, map, refl, ap, ◌∙◌, arith, Err}
use Rattle.std.proofs.lemmas.Result.{err_from_is_err_and}
use Rattle.cq_atom.specs.declared.edit.EditKind.TheVariants.{Post}
use Rattle.cq_board.specs.Scratch.{scratch_of}
use Rattle.cq_board.proofs.Scratched.{continues_refused, step_refused, step_done, all_done}
use Rattle.cq_board.proofs.board.Board.post_all.Goals as goal

pub returns-in_err-post_one : goal.returns-in_err-post_one
returns-in_err-post_one g c =
    let p = err_from_is_err_and c.from_residual.result c.from_residual.ensures.1 in
    let posting = c.loop-name-item.result in
    let edit = Post posting.0 posting.1 in
    continues_refused (scratch_of c.loop-name.self (edit ∷ [])) (scratch_of c.args.self.now (map (λ q. Post q.0 q.1) c.args.queries.now)) c.post_one.new.self c.post_one.new.self c.in_err-post_one.field-0.0
    c.from_residual.result (p.1 ∙ ap Err p.2) c.in_err-post_one.ensures
    (step_refused (λ q. Post q.0 q.1) c.args.queries.now c.loop-name.name-index c.loop-name.self _ c.loop-name.invariant posting (omega arith) c.loop-name-item.is edit refl)

pub loop-name-preserved : goal.loop-name-preserved
loop-name-preserved g c =
    let posting = c.loop-name-item.result in
    step_done (λ q. Post q.0 q.1) c.args.queries.now c.loop-name.name-index c.loop-name.self _ c.loop-name.invariant posting (omega arith) c.loop-name-item.is (Post posting.0 posting.1) refl
    c.post_one.new.self c.in_ok-post_one.ensures

pub returns : goal.returns
returns g c = all_done (λ q. Post q.0 q.1) c.args.queries.now c.loop-name.name-index c.loop-name.self _ c.loop-name.invariant (omega arith)
