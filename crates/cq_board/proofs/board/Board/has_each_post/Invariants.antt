use Rattle.std.proofs.Common.{take}
use Rattle.std.specs.List.{All}
use Rattle.cq_atom.specs.Valuation.{under}
use Rattle.cq_board.specs.Choice.{bound}
use Rattle.cq_board.specs.Steps.Choices.{IsOffered, IsSupplied}
use Rattle.cq_board.proofs.board.Board.has_each_post.Given as goal

-- the postconditions before the place are offered
abbrev pub invariant-loop-post : goal.invariant-loop-post
invariant-loop-post g l = record {
  same : All (λ post. IsOffered l.self.pending l.choices (under (bound l.waiting.query.now l.waiting.values.now) post)) (take l.post-index l.post-items);
  unify : All (IsSupplied l.self.pending l.choices) (take l.post-index l.post-items);
}
