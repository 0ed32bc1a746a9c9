use Rattle.std.proofs.Common.{◌≡◌, true, false, refl, arith}
use Rattle.cq_atom.specs.Atom.{AtomRecord}
use Rattle.cq_atom.specs.Valuation.{under}
use Rattle.cq_board.specs.Choice.{bound}
use Rattle.cq_board.specs.Steps.Choices.{IsOffered, IsSupplied}
use Rattle.cq_board.proofs.Walks.{All_more, All_end, All_at}
use Rattle.cq_board.proofs.board.Board.has_each_post.Goals as goal

pub returns-then-not-is_offered-clause-same : goal.returns-then-not-is_offered-clause-same
returns-then-not-is_offered-clause-same g c =
    let offered = λ (post : AtomRecord). IsOffered c.args.self.now.pending c.args.choices.now (under (bound c.args.waiting.now.query.now c.args.waiting.now.values.now) post) in (
      λ t. let never : false ≡ true = t in cc,
      λ all. c.if-not-is_offered.ensures.same.1 (All_at offered c.posts-post-items.result.now c.args.waiting.now.query.now.posts c.loop-post.post-index c.post-item.result (omega arith) c.post-item.is c.posts-post-items.ensures.value all),
    )

pub returns-then-not-is_offered-clause-unify : goal.returns-then-not-is_offered-clause-unify
returns-then-not-is_offered-clause-unify g c = λ t. let never : false ≡ true = t in cc

pub loop-post-preserved : goal.loop-post-preserved
loop-post-preserved g c =
    let offered = λ (post : AtomRecord). IsOffered c.args.self.now.pending c.args.choices.now (under (bound c.args.waiting.now.query.now c.args.waiting.now.values.now) post) in
    record {
      same = All_more offered c.posts-post-items.result.now c.loop-post.post-index c.post-item.result (omega arith) c.post-item.is c.loop-post.invariant.same (c.if-not-is_offered.ensures.same.0 refl);
      unify = All_more (IsSupplied c.args.self.now.pending c.args.choices.now) c.posts-post-items.result.now c.loop-post.post-index c.post-item.result (omega arith) c.post-item.is c.loop-post.invariant.unify
          (c.if-not-is_offered.ensures.unify refl);
    }

pub returns-clause-same : goal.returns-clause-same
returns-clause-same g c =
    let offered = λ (post : AtomRecord). IsOffered c.args.self.now.pending c.args.choices.now (under (bound c.args.waiting.now.query.now c.args.waiting.now.values.now) post) in
    (λ t. All_end offered c.posts-post-items.result.now c.args.waiting.now.query.now.posts c.loop-post.post-index (omega arith) c.posts-post-items.ensures.value c.loop-post.invariant.same, λ all. refl)

pub returns-clause-unify : goal.returns-clause-unify
returns-clause-unify g c =
    λ t. All_end (IsSupplied c.args.self.now.pending c.args.choices.now) c.posts-post-items.result.now c.args.waiting.now.query.now.posts c.loop-post.post-index (omega arith) c.posts-post-items.ensures.value c.loop-post.invariant.unify
