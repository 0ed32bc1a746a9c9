use Rattle.std.proofs.Common.{take}
use Rattle.std.specs.List.{All}
use Rattle.cq_board.specs.Steps.Choices.{IsValid}
use Rattle.cq_choose.proofs.reach.know_atoms.Given as goal

abbrev pub invariant-loop-atom : goal.invariant-loop-atom
invariant-loop-atom g l = All (λ a. All IsValid a.terms) (take l.atom-index l.atoms)
