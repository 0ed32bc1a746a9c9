use Rattle.std.proofs.lemmas.Result.{err_from_is_err_and}
use Rattle.cq_text.proofs.Names.{term_read, term_without_room, term_fails, term_fails_behind}
use Rattle.cq_text.proofs.reading.Reader.term.Goals as goal

pub returns-in_err-term : goal.returns-in_err-term
returns-in_err-term g c =
    let p = err_from_is_err_and c.from_residual.result c.from_residual.ensures.1 in
    rw (p.1, p.2) (term_fails c.in_err-term.field-0.0 c.args.has_room c.args.self.now c.in_err-term.ensures)

pub returns-in_err-has_more : goal.returns-in_err-has_more
returns-in_err-has_more g c =
    let p = err_from_is_err_and c.from_residual-in_err-has_more.result c.from_residual-in_err-has_more.ensures.1 in
    rw (p.1, p.2) (term_fails_behind c.in_err-has_more.field-0.0 c.args.has_room c.args.self.now _ _ _ c.if-not-has_room.false c.in_ok-term.ensures c.in_err-has_more.ensures)

pub returns : goal.returns
returns g c = term_read c.args.has_room c.args.self.now _ _ _ _ _ c.if-not-has_room.false c.in_ok-term.ensures c.in_ok-has_more.ensures

pub returns-then-not-has_room : goal.returns-then-not-has_room
returns-then-not-has_room g c = rw c.limit.ensures (term_without_room c.args.has_room c.args.self.now _ _ _ c.if-not-has_room.true c.in_ok-term.ensures)
