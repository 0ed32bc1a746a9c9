use Rattle.std.proofs.Common.{take}
use Rattle.cq_board.specs.Steps.Choices.{IsServed, HasSuppliers}
use Rattle.cq_board.specs.Named.{query_named}
use Rattle.std.specs.List.{All}
use Rattle.cq_board.proofs.board.Board.are_served.Given as goal

-- the choices before the place are served
abbrev pub invariant-loop-choice : goal.invariant-loop-choice
invariant-loop-choice g l = record {
  same : All (λ c. IsServed l.self.pending l.choices (query_named c.name l.self.pending) c.values) (take l.choice-index l.choices);
  unify : All (λ c. HasSuppliers l.self.pending l.choices (query_named c.name l.self.pending)) (take l.choice-index l.choices);
}
