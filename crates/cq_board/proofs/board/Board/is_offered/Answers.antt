use Rattle.std.proofs.Common.{◌≡◌, true, false, refl, arith}
use Rattle.cq_atom.specs.Valuation.{under}
use Rattle.cq_board.specs.Choice.{ChoiceRecord, bound}
use Rattle.cq_board.specs.Named.{query_named}
use Rattle.cq_board.specs.Steps.Choices.{IsOfferedBy, HasHead}
use Rattle.cq_board.proofs.Walks.{All_none, All_more, Any_at, Any_none}
use Rattle.cq_board.proofs.board.Board.is_offered.Goals as goal

pub loop-choice-init : goal.loop-choice-init
loop-choice-init g c =
    let waiting = under (bound c.args.waiting.now.query.now c.args.waiting.now.values.now) c.args.post.now in
    All_none (λ (d : ChoiceRecord). IsOfferedBy (query_named d.name c.args.self.now.pending) d.values waiting → ⊥)

pub loop-choice-preserved : goal.loop-choice-preserved
loop-choice-preserved g c =
    let waiting = under (bound c.args.waiting.now.query.now c.args.waiting.now.values.now) c.args.post.now in
    All_more (λ (d : ChoiceRecord). IsOfferedBy (query_named d.name c.args.self.now.pending) d.values waiting → ⊥) c.args.choices.now c.loop-choice.choice-index c.choice-item.result (omega arith)
    c.choice-item.is c.loop-choice.invariant (λ o. let never : false ≡ true = c.if-offers.ensures.same.1 o in cc)

pub returns-then-offers-clause-same : goal.returns-then-offers-clause-same
returns-then-offers-clause-same g c =
    let waiting = under (bound c.args.waiting.now.query.now c.args.waiting.now.values.now) c.args.post.now in (
      λ t. Any_at (λ (d : ChoiceRecord). IsOfferedBy (query_named d.name c.args.self.now.pending) d.values waiting) c.args.choices.now c.args.choices.now c.loop-choice.choice-index
          c.choice-item.result (omega arith) c.choice-item.is refl (c.if-offers.ensures.same.0 refl),
      λ any. refl,
    )

pub returns-then-offers-clause-unify : goal.returns-then-offers-clause-unify
returns-then-offers-clause-unify g c =
    λ t. Any_at (λ (d : ChoiceRecord). HasHead (query_named d.name c.args.self.now.pending) c.args.post.now) c.args.choices.now c.args.choices.now c.loop-choice.choice-index c.choice-item.result
    (omega arith) c.choice-item.is refl (c.if-offers.ensures.unify refl)

pub returns-clause-same : goal.returns-clause-same
returns-clause-same g c =
    let waiting = under (bound c.args.waiting.now.query.now c.args.waiting.now.values.now) c.args.post.now in (
      λ t. let never : false ≡ true = t in cc,
      λ any. absurd (Any_none (λ (d : ChoiceRecord). IsOfferedBy (query_named d.name c.args.self.now.pending) d.values waiting) c.args.choices.now c.args.choices.now c.loop-choice.choice-index
          (omega arith) refl c.loop-choice.invariant any),
    )

pub returns-clause-unify : goal.returns-clause-unify
returns-clause-unify g c = λ t. let never : false ≡ true = t in cc
