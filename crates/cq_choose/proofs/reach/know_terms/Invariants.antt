use Rattle.std.proofs.Common.{take}
use Rattle.std.specs.List.{All}
use Rattle.cq_board.specs.Steps.Choices.{IsValid}
use Rattle.cq_choose.proofs.reach.know_terms.Given as goal

abbrev pub invariant-loop-term : goal.invariant-loop-term
invariant-loop-term g l = All IsValid (take l.term-index l.terms)
