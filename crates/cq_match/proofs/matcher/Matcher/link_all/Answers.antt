use Rattle.cq_atom.specs.declared.edge.Edge.{Edge}
use Rattle.cq_match.proofs.matcher.Matcher.link_all.Goals as goal

pub tidy-requires : goal.tidy-requires
tidy-requires g c =
    let none : Edge = record { provider = 0; head = 0; waiter = 0; post = 0 } in
    let ends = c.requires.ends c.loop-edge.edge-index none c.loop-edge-test.true in
    rw c.loop-edge.invariant.nodes ends.0

pub link-requires-clause-provider : goal.link-requires-clause-provider
link-requires-clause-provider g c =
    let none : Edge = record { provider = 0; head = 0; waiter = 0; post = 0 } in
    let ends = c.requires.ends c.loop-edge.edge-index none c.loop-edge-test.true in
    rw (c.tidy.ensures, c.loop-edge.invariant.nodes) ends.0

pub link-requires-clause-waiter : goal.link-requires-clause-waiter
link-requires-clause-waiter g c =
    let none : Edge = record { provider = 0; head = 0; waiter = 0; post = 0 } in
    let ends = c.requires.ends c.loop-edge.edge-index none c.loop-edge-test.true in
    rw (c.tidy.ensures, c.loop-edge.invariant.nodes) ends.1
