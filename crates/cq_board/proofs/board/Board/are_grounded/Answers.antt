use Rattle.std.proofs.Common.{◌≡◌, true, false, refl, arith}
use Rattle.cq_board.specs.Choice.{IsGrounded}
use Rattle.cq_board.proofs.Walks.{All_none, All_more, All_end, All_at}
use Rattle.cq_board.proofs.board.Board.are_grounded.Goals as goal

pub loop-choice-init : goal.loop-choice-init
loop-choice-init g c = All_none (IsGrounded c.args.self.now)

pub loop-choice-preserved : goal.loop-choice-preserved
loop-choice-preserved g c =
    All_more (IsGrounded c.args.self.now) c.args.choices.now c.loop-choice.choice-index c.choice-item.result (omega arith) c.choice-item.is c.loop-choice.invariant (c.if-not-is_grounded.ensures.0 refl)

pub returns-then-not-is_grounded : goal.returns-then-not-is_grounded
returns-then-not-is_grounded g c = (
  λ t. let never : false ≡ true = t in cc,
  λ all. c.if-not-is_grounded.ensures.1 (All_at (IsGrounded c.args.self.now) c.args.choices.now c.args.choices.now c.loop-choice.choice-index c.choice-item.result (omega arith) c.choice-item.is refl all),
)

pub returns : goal.returns
returns g c = (λ t. All_end (IsGrounded c.args.self.now) c.args.choices.now c.args.choices.now c.loop-choice.choice-index (omega arith) refl c.loop-choice.invariant, λ all. refl)
