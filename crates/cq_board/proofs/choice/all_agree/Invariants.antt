use Rattle.std.proofs.Common.{◌≡◌, map, take}
use Rattle.cq_atom.specs.Valuation.{term_under}
use Rattle.cq_board.specs.Choice.{bound}
use Rattle.cq_board.specs.Steps.Choices.{AreValid}
use Rattle.cq_board.proofs.choice.all_agree.Given as goal

-- the terms before the place agree
abbrev pub invariant-loop-i : goal.invariant-loop-i
invariant-loop-i g l = record {
  same : map (term_under (bound l.left.query.now l.left.values.now)) (take l.i l.terms) ≡ map (term_under (bound l.right.query.now l.right.values.now)) (take l.i l.others);
  valid_left : AreValid (take l.i l.terms);
  valid_right : AreValid (take l.i l.others);
}
