use Rattle.std.proofs.Common.{ℕ, List, ◌∷◌, subst, sym, arith}
use Rattle.std.proofs.lemmas.List.Elements.{All-weaker}
use Rattle.cq_tests_stores.specs.Guarded.{HavePosts, HasEnds, IsTaken}
use Rattle.cq_tests_stores.proofs.Kept.{kept-added}
use Rattle.cq_tests_stores.proofs.matching.guarded.Guarded.add.Goals as goal

pub add-requires-clause-ends : goal.add-requires-clause-ends
add-requires-clause-ends g c =
    let nodes = c.self.inside.matcher.nodes in
    let kept = subst (λ (posts : List ℕ). HavePosts posts nodes) (sym c.deref.ensures.value) c.self.invariant in
    All-weaker (IsTaken nodes c.args.node c.args.count) (HasEnds ((c.args.node, c.args.count, c.args.able) ∷ nodes)) (λ edge taken. taken.1 c.args.able)
    c.args.edges.now (c.are_taken.ensures c.if-not-are_taken.false kept)

pub invariant_of-self-2 : goal.invariant_of-self-2
invariant_of-self-2 g c =
    kept-added c.self.inside.posts.items c.self.inside.matcher.nodes c.add.new.self.nodes c.args.node c.args.count c.args.able (omega arith)
    c.in_ok-add.ensures.node c.in_ok-add.ensures.others c.self.invariant
