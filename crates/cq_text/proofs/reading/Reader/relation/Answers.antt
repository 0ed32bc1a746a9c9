use Rattle.std.proofs.lemmas.Result.{err_from_is_err_and}
use Rattle.cq_text.proofs.Names.{relation_read, relation_fails, relation_fails_inside, relation_fails_behind, fails_any}
use Rattle.cq_text.proofs.Passed.{passed_on}
use Rattle.cq_text.proofs.Words.{and_parts}
use Rattle.cq_atom.specs.Text.{is_name, begins_with_upper}
use Rattle.cq_text.proofs.reading.Reader.relation.Goals as goal

pub returns : goal.returns
returns g c =
    let h = rw c.max_terms.ensures at c.in_ok-arity.ensures in
    relation_read c.args.form c.args.self.now _ _ _ _ _ _ _ c.in_ok-word.ensures.name h c.in_ok-end.ensures c.in_ok-name.ensures

pub returns-in_err-end : goal.returns-in_err-end
returns-in_err-end g c =
    let p = err_from_is_err_and c.from_residual-in_err-end.result c.from_residual-in_err-end.ensures.1 in
    rw (p.1, p.2) (relation_fails_behind c.in_err-end.field-0.0 c.args.form _ c.args.self.now _ _ _ _ _ c.max_terms.ensures c.in_ok-word.ensures.name c.in_ok-arity.ensures c.in_err-end.ensures)

pub returns-in_err-name : goal.returns-in_err-name
returns-in_err-name g c =
    let p = err_from_is_err_and c.from_residual-in_err-name.result c.from_residual-in_err-name.ensures.1 in
    rw (p.1, p.2) (fails_any c.in_err-name.field-0.0 c.in_ok-word.word.now _ c.in_err-name.ensures)

pub returns-in_err-word : goal.returns-in_err-word
returns-in_err-word g c =
    passed_on _ c.from_residual.result c.in_err-word.field-0.0 _ c.from_residual.ensures.1 (relation_fails c.in_err-word.field-0.0 c.args.form c.args.self.now c.in_err-word.ensures.name)

pub returns-in_err-arity : goal.returns-in_err-arity
returns-in_err-arity g c =
    passed_on _ c.from_residual-in_err-arity.result c.in_err-arity.field-0.0 _ c.from_residual-in_err-arity.ensures.1
    (relation_fails_inside c.in_err-arity.field-0.0 c.args.form _ c.args.self.now _ _ _ c.max_terms.ensures c.in_ok-word.ensures.name c.in_err-arity.ensures)

pub new_name-requires : goal.new_name-requires
new_name-requires g c = (and_parts (is_name c.in_ok-word.word.now) (begins_with_upper c.in_ok-word.word.now) c.in_ok-word.ensures.valid).0
