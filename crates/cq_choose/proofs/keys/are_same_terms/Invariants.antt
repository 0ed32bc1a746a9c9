use Rattle.std.proofs.Common.{◌≡◌, map, drop}
use Rattle.cq_atom.specs.Valuation.{term_under}
use Rattle.cq_board.specs.Choice.{bound}
use Rattle.cq_choose.specs.Steps.Goods.{same_terms}
use Rattle.cq_choose.proofs.keys.are_same_terms.Given as goal

-- what is left decides
abbrev pub invariant-loop-i : goal.invariant-loop-i
invariant-loop-i g l =
    let f = term_under (bound l.left.query.now l.left.values.now) in
    let h = term_under (bound l.right.query.now l.right.values.now) in
    same_terms (map f l.terms) (map h l.others) ≡ same_terms (map f (drop l.i l.terms)) (map h (drop l.i l.others))
