use Rattle.std.proofs.Common.{◌≡◌, true, false, refl, arith}
use Rattle.cq_board.specs.Choice.{ChoiceRecord}
use Rattle.cq_board.specs.Named.{query_named}
use Rattle.cq_board.specs.Steps.Choices.{IsServed, HasSuppliers}
use Rattle.cq_board.proofs.Walks.{All_none, All_more, All_end, All_at}
use Rattle.cq_board.proofs.board.Board.are_served.Goals as goal

pub loop-choice-init : goal.loop-choice-init
loop-choice-init g c = record {
  same = All_none (λ (d : ChoiceRecord). IsServed c.args.self.now.pending c.args.choices.now (query_named d.name c.args.self.now.pending) d.values);
  unify = All_none (λ (d : ChoiceRecord). HasSuppliers c.args.self.now.pending c.args.choices.now (query_named d.name c.args.self.now.pending));
}

pub returns-then-not-is_served-clause-same : goal.returns-then-not-is_served-clause-same
returns-then-not-is_served-clause-same g c =
    let pending = c.args.self.now.pending in
    let choices = c.args.choices.now in (
      λ t. let never : false ≡ true = t in cc,
      λ all. c.if-not-is_served.ensures.same.1 (All_at (λ (d : ChoiceRecord). IsServed pending choices (query_named d.name pending) d.values) choices choices c.loop-choice.choice-index
          c.choice-item.result (omega arith) c.choice-item.is refl all),
    )

pub returns-then-not-is_served-clause-unify : goal.returns-then-not-is_served-clause-unify
returns-then-not-is_served-clause-unify g c = λ t. let never : false ≡ true = t in cc

pub loop-choice-preserved : goal.loop-choice-preserved
loop-choice-preserved g c =
    let pending = c.args.self.now.pending in
    let choices = c.args.choices.now in
    record {
      same = All_more (λ (d : ChoiceRecord). IsServed pending choices (query_named d.name pending) d.values) choices c.loop-choice.choice-index c.choice-item.result (omega arith) c.choice-item.is
          c.loop-choice.invariant.same (c.if-not-is_served.ensures.same.0 refl);
      unify = All_more (λ (d : ChoiceRecord). HasSuppliers pending choices (query_named d.name pending)) choices c.loop-choice.choice-index c.choice-item.result (omega arith) c.choice-item.is
          c.loop-choice.invariant.unify (c.if-not-is_served.ensures.unify refl);
    }

pub returns-clause-same : goal.returns-clause-same
returns-clause-same g c =
    let pending = c.args.self.now.pending in
    let choices = c.args.choices.now in
    (λ t. All_end (λ (d : ChoiceRecord). IsServed pending choices (query_named d.name pending) d.values) choices choices c.loop-choice.choice-index (omega arith) refl c.loop-choice.invariant.same, λ all. refl)

pub returns-clause-unify : goal.returns-clause-unify
returns-clause-unify g c =
    let pending = c.args.self.now.pending in
    let choices = c.args.choices.now in
    λ t. All_end (λ (d : ChoiceRecord). HasSuppliers pending choices (query_named d.name pending)) choices choices c.loop-choice.choice-index (omega arith) refl c.loop-choice.invariant.unify
