use Rattle.std.proofs.Common.{◌≡◌, true, false, refl, arith}
use Rattle.cq_atom.specs.Atom.{AtomRecord}
use Rattle.cq_atom.specs.Valuation.{under}
use Rattle.cq_atom.specs.Unify.{Unify}
use Rattle.cq_board.specs.Choice.{bound}
use Rattle.cq_board.proofs.Walks.{All_none, All_more, Any_at, Any_none}
use Rattle.cq_board.proofs.choice.has_head.Goals as goal

pub loop-head-init : goal.loop-head-init
loop-head-init g c =
    let waiting = under (bound c.args.waiting.now.query.now c.args.waiting.now.values.now) c.args.post.now in
    record {
      heads = c.heads-head-items.ensures.value;
      none = All_none (λ (head : AtomRecord). (under (bound c.args.offering.now.query.now c.args.offering.now.values.now) head ≡ waiting) → ⊥);
    }

pub loop-head-preserved : goal.loop-head-preserved
loop-head-preserved g c =
    let waiting = under (bound c.args.waiting.now.query.now c.args.waiting.now.values.now) c.args.post.now in
    record {
      heads = c.loop-head.invariant.heads;
      none = All_more (λ (head : AtomRecord). (under (bound c.args.offering.now.query.now c.args.offering.now.values.now) head ≡ waiting) → ⊥) c.heads-head-items.result.now c.loop-head.head-index
          c.head-item.result (omega arith) c.head-item.is c.loop-head.invariant.none (λ e. let never : false ≡ true = c.if-atoms_agree.ensures.same.1 e in cc);
    }

pub returns-then-atoms_agree-clause-same : goal.returns-then-atoms_agree-clause-same
returns-then-atoms_agree-clause-same g c =
    let waiting = under (bound c.args.waiting.now.query.now c.args.waiting.now.values.now) c.args.post.now in (
      λ t. Any_at (λ (head : AtomRecord). under (bound c.args.offering.now.query.now c.args.offering.now.values.now) head ≡ waiting) c.heads-head-items.result.now c.args.offering.now.query.now.heads
          c.loop-head.head-index c.head-item.result (omega arith) c.head-item.is c.heads-head-items.ensures.value (c.if-atoms_agree.ensures.same.0 refl),
      λ any. refl,
    )

pub returns-then-atoms_agree-clause-unify : goal.returns-then-atoms_agree-clause-unify
returns-then-atoms_agree-clause-unify g c =
    λ t. Any_at (λ (head : AtomRecord). Unify head c.args.post.now) c.heads-head-items.result.now c.args.offering.now.query.now.heads c.loop-head.head-index c.head-item.result (omega arith)
    c.head-item.is c.heads-head-items.ensures.value (c.if-atoms_agree.ensures.unify refl)

pub returns-clause-same : goal.returns-clause-same
returns-clause-same g c =
    let waiting = under (bound c.args.waiting.now.query.now c.args.waiting.now.values.now) c.args.post.now in (
      λ t. let never : false ≡ true = t in cc,
      λ any. absurd (Any_none (λ (head : AtomRecord). under (bound c.args.offering.now.query.now c.args.offering.now.values.now) head ≡ waiting) c.heads-head-items.result.now
          c.args.offering.now.query.now.heads c.loop-head.head-index (omega arith) c.heads-head-items.ensures.value c.loop-head.invariant.none any),
    )

pub returns-clause-unify : goal.returns-clause-unify
returns-clause-unify g c = λ t. let never : false ≡ true = t in cc
