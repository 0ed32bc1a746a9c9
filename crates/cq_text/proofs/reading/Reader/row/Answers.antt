use Rattle.std.proofs.lemmas.Result.{err_from_is_err_and}
use Rattle.cq_text.proofs.Names.{row_read, row_fails, row_fails_open, row_fails_inside, row_fails_behind}
use Rattle.cq_text.proofs.Passed.{passed_on}
use Rattle.cq_text.proofs.reading.Reader.row.Goals as goal

pub returns : goal.returns
returns g c = rw (row_read c.args.form c.args.self.now _ _ _ _ _ _ _ c.in_ok-relation.ensures.name c.in_ok-sign.ensures c.in_ok-values.ensures.values c.in_ok-end.ensures) c.new_row.ensures

pub returns-in_err-values : goal.returns-in_err-values
returns-in_err-values g c =
    let p = err_from_is_err_and c.from_residual-in_err-values.result c.from_residual-in_err-values.ensures.1 in
    rw (p.1, p.2) (row_fails_inside c.in_err-values.field-0.0 c.args.form c.args.self.now _ _ _ _ c.in_ok-relation.ensures.name c.in_ok-sign.ensures c.in_err-values.ensures.values)

pub returns-in_err-end : goal.returns-in_err-end
returns-in_err-end g c =
    let p = err_from_is_err_and c.from_residual-in_err-end.result c.from_residual-in_err-end.ensures.1 in
    rw (p.1, p.2) (row_fails_behind c.in_err-end.field-0.0 c.args.form c.args.self.now _ _ _ _ _ _ c.in_ok-relation.ensures.name c.in_ok-sign.ensures c.in_ok-values.ensures.values c.in_err-end.ensures)

pub returns-in_err-relation : goal.returns-in_err-relation
returns-in_err-relation g c =
    passed_on _ c.from_residual.result c.in_err-relation.field-0.0 _ c.from_residual.ensures.1 (row_fails c.in_err-relation.field-0.0 c.args.form c.args.self.now c.in_err-relation.ensures.name)

pub returns-in_err-sign : goal.returns-in_err-sign
returns-in_err-sign g c =
    passed_on _ c.from_residual-in_err-sign.result c.in_err-sign.field-0.0 _ c.from_residual-in_err-sign.ensures.1
    (row_fails_open c.in_err-sign.field-0.0 c.args.form c.args.self.now _ _ _ c.in_ok-relation.ensures.name c.in_err-sign.ensures)

pub new_row-requires-clause-name : goal.new_row-requires-clause-name
new_row-requires-clause-name g c = c.in_ok-relation.ensures.valid

pub new_row-requires-clause-arity : goal.new_row-requires-clause-arity
new_row-requires-clause-arity g c = c.in_ok-values.ensures.arity
