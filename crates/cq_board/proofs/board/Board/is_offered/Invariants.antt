use Rattle.std.proofs.Common.{take}
use Rattle.std.specs.List.{All}
use Rattle.cq_atom.specs.Valuation.{under}
use Rattle.cq_board.specs.Choice.{bound}
use Rattle.cq_board.specs.Named.{query_named}
use Rattle.cq_board.specs.Steps.Choices.{IsOfferedBy}
use Rattle.cq_board.proofs.board.Board.is_offered.Given as goal

-- no choice before the place offers the postcondition
abbrev pub invariant-loop-choice : goal.invariant-loop-choice
invariant-loop-choice g l =
    All (λ c. IsOfferedBy (query_named c.name l.self.pending) c.values (under (bound l.waiting.query.now l.waiting.values.now) l.post) → ⊥) (take l.choice-index l.choices)
