use Rattle.std.proofs.Common.{◌≡◌, take}
use Rattle.std.specs.List.{All}
use Rattle.cq_atom.specs.Valuation.{under}
use Rattle.cq_board.specs.Choice.{bound}
use Rattle.cq_board.proofs.choice.has_head.Given as goal

-- no head before the place is the postcondition
abbrev pub invariant-loop-head : goal.invariant-loop-head
invariant-loop-head g l = record {
  heads : l.head-items ≡ l.offering.query.now.heads;
  none : All (λ head. (under (bound l.offering.query.now l.offering.values.now) head ≡ under (bound l.waiting.query.now l.waiting.values.now) l.post) → ⊥) (take l.head-index l.head-items);
}
