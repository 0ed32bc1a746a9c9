use Rattle.std.proofs.Common.{[], ◌∷◌, map, refl, ap, ◌∙◌, arith, Err}
use Rattle.std.proofs.lemmas.Result.{err_from_is_err_and}
use Rattle.cq_atom.specs.declared.edit.EditKind.TheVariants.{Insert}
use Rattle.cq_board.specs.Scratch.{scratch_of}
use Rattle.cq_board.proofs.Scratched.{continues_refused, step_refused, step_done, all_done}
use Rattle.cq_board.proofs.board.Board.insert_all.Goals as goal

pub returns-in_err-insert_one : goal.returns-in_err-insert_one
returns-in_err-insert_one g c =
    let p = err_from_is_err_and c.from_residual.result c.from_residual.ensures.1 in
    let edit = Insert c.row-item.result in
    continues_refused (scratch_of c.loop-row.self (edit ∷ [])) (scratch_of c.args.self.now (map (λ r. Insert r) c.args.rows.now)) c.insert_one.new.self c.insert_one.new.self c.in_err-insert_one.field-0.0
    c.from_residual.result (p.1 ∙ ap Err p.2) c.in_err-insert_one.ensures
    (step_refused (λ r. Insert r) c.args.rows.now c.loop-row.row-index c.loop-row.self _ c.loop-row.invariant c.row-item.result (omega arith) c.row-item.is edit refl)

pub loop-row-preserved : goal.loop-row-preserved
loop-row-preserved g c =
    step_done (λ r. Insert r) c.args.rows.now c.loop-row.row-index c.loop-row.self _ c.loop-row.invariant c.row-item.result (omega arith) c.row-item.is (Insert c.row-item.result) refl
    c.insert_one.new.self c.in_ok-insert_one.ensures

pub returns : goal.returns
returns g c = all_done (λ r. Insert r) c.args.rows.now c.loop-row.row-index c.loop-row.self _ c.loop-row.invariant (omega arith)
