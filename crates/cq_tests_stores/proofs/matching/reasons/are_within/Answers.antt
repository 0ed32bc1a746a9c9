use Rattle.std.proofs.Common.{List, subst}
use Rattle.std.specs.List.{All}
use Rattle.std.proofs.lemmas.List.{take_all}
use Rattle.std.proofs.lemmas.List.Elements.{All-more}
use Rattle.cq_atom.specs.declared.edge.Edge.{Edge}
use Rattle.cq_tests_stores.specs.Guarded.{HasEnds}
use Rattle.cq_tests_stores.proofs.matching.reasons.are_within.Goals as goal

pub loop-edge-preserved : goal.loop-edge-preserved
loop-edge-preserved c = λ numbered.
    All-more (HasEnds c.args.nodes.now) c.args.edges.now c.loop-edge.edge-index _ c.loop-edge-test.true (c.loop-edge.invariant numbered) (c.is_within.ensures c.if-not-is_within.false numbered)

pub returns : goal.returns
returns c = λ all numbered.
    let whole = take_all c.loop-edge.edge-index c.args.edges.now c.loop-edge-test.false in
    subst (λ (edges : List Edge). All (HasEnds c.args.nodes.now) edges) whole (c.loop-edge.invariant numbered)
