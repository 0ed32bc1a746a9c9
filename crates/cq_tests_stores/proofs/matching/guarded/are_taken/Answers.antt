use Rattle.std.proofs.Common.{List, subst}
use Rattle.std.proofs.lemmas.List.{take_all}
use Rattle.std.specs.List.{All}
use Rattle.std.proofs.lemmas.List.Elements.{All-more}
use Rattle.cq_atom.specs.declared.edge.Edge.{Edge}
use Rattle.cq_tests_stores.specs.Guarded.{IsTaken}
use Rattle.cq_tests_stores.proofs.matching.guarded.are_taken.Goals as goal

pub loop-edge-preserved : goal.loop-edge-preserved
loop-edge-preserved g c = λ kept.
    All-more (IsTaken c.args.matcher.now.nodes c.args.node c.args.count) c.args.edges.now c.loop-edge.edge-index _ c.loop-edge-test.true
    (c.loop-edge.invariant kept) (c.is_taken.ensures c.if-not-is_taken.false kept)

pub returns : goal.returns
returns g c = λ all kept.
    let whole = take_all c.loop-edge.edge-index c.args.edges.now c.loop-edge-test.false in
    subst (λ (taken : List Edge). All (IsTaken c.args.matcher.now.nodes c.args.node c.args.count) taken) whole (c.loop-edge.invariant kept)
