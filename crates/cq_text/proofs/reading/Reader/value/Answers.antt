use Rattle.cq_text.proofs.Names.{value_read, value_without_room, value_fails, value_fails_behind}
use Rattle.cq_text.proofs.Passed.{passed_on}
use Rattle.cq_text.proofs.reading.Reader.value.Goals as goal

pub returns : goal.returns
returns g c = value_read c.args.has_room c.args.self.now _ _ _ _ _ c.if-not-has_room.false c.in_ok-value.ensures c.in_ok-has_more.ensures

pub returns-then-not-has_room : goal.returns-then-not-has_room
returns-then-not-has_room g c = rw c.limit.ensures (value_without_room c.args.has_room c.args.self.now _ _ _ c.if-not-has_room.true c.in_ok-value.ensures)

pub returns-in_err-value : goal.returns-in_err-value
returns-in_err-value g c =
    passed_on _ c.from_residual.result c.in_err-value.field-0.0 _ c.from_residual.ensures.1 (value_fails c.in_err-value.field-0.0 c.args.has_room c.args.self.now c.in_err-value.ensures)

pub returns-in_err-has_more : goal.returns-in_err-has_more
returns-in_err-has_more g c =
    passed_on _ c.from_residual-in_err-has_more.result c.in_err-has_more.field-0.0 _ c.from_residual-in_err-has_more.ensures.1
    (value_fails_behind c.in_err-has_more.field-0.0 c.args.has_room c.args.self.now _ _ _ c.if-not-has_room.false c.in_ok-value.ensures c.in_err-has_more.ensures)
