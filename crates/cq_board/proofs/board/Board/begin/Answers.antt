use Rattle.cq_board.proofs.Opened.{opened_in}
use Rattle.cq_board.proofs.board.Board.begin.Goals as goal

pub invariant_of-result : goal.invariant_of-result
invariant_of-result g c = opened_in c.args.limits c.in_ok-tables.tables c.begin-2.result c.catalog-good.ensures.valid c.begin-2.ensures
