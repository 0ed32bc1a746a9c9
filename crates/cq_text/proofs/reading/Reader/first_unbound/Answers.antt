use Rattle.std.proofs.Common.{◌∙◌, sym}
use Rattle.std.proofs.lemmas.Result.{err_from_is_err_and}
use Rattle.cq_text.proofs.Walks.{walk_found, walk_on, walk_fails, walk_shorter}
use Rattle.cq_text.proofs.reading.Reader.first_unbound.Goals as goal

pub returns-in_err-at : goal.returns-in_err-at
returns-in_err-at g c =
    let p = err_from_is_err_and c.from_residual.result c.from_residual.ensures.1 in
    rw (p.1, p.2, ← c.lexemes.invariant) (walk_fails c.args.body.now c.lexemes.self c.in_err-at.field-0.0 c.in_err-at.ensures)

pub returns-in-Some : goal.returns-in-Some
returns-in-Some g c =
    let h = rw c.in-Some.is at c.in_ok-at.ensures in
    sym c.lexemes.invariant ∙ walk_found c.args.body.now c.lexemes.self c.unbound.new.self c.in-Some.at h

pub lexemes-smaller : goal.lexemes-smaller
lexemes-smaller g c =
    let h = rw c.in_default.is at c.in_ok-at.ensures in
    walk_shorter c.args.body.now c.lexemes.self c.unbound.new.self h

pub lexemes-preserved : goal.lexemes-preserved
lexemes-preserved g c =
    let h = rw c.in_default.is at c.in_ok-at.ensures in
    sym (walk_on c.args.body.now c.lexemes.self c.unbound.new.self h) ∙ c.lexemes.invariant
