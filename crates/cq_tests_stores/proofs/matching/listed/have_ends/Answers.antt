use Rattle.std.proofs.Common.{List, subst, sym, ◌∙◌}
use Rattle.std.specs.List.{All}
use Rattle.std.proofs.lemmas.List.{take_all}
use Rattle.std.proofs.lemmas.List.Elements.{All-more}
use Rattle.cq_atom.specs.declared.edge.Edge.{Edge}
use Rattle.cq_match.proofs.CallerLemmas.{has-number}
use Rattle.cq_tests_stores.specs.Guarded.{HasEnds}
use Rattle.cq_tests_stores.proofs.Lists.{listed-member}
use Rattle.cq_tests_stores.proofs.matching.listed.have_ends.Goals as goal

pub loop-edge-preserved : goal.loop-edge-preserved
loop-edge-preserved c =
    let nodes = c.args.nodes.now in
    let provided = has-number nodes _ (listed-member nodes _ ∙ sym c.is_listed.ensures ∙ c.if-not-is_listed.false) in
    All-more (HasEnds nodes) c.args.edges.now c.loop-edge.edge-index _ c.loop-edge-test.true c.loop-edge.invariant (provided, c.is_waited_for.ensures c.if-not-is_waited_for.false)

pub returns : goal.returns
returns c = λ all.
    let whole = take_all c.loop-edge.edge-index c.args.edges.now c.loop-edge-test.false in
    subst (λ (edges : List Edge). All (HasEnds c.args.nodes.now) edges) whole c.loop-edge.invariant
