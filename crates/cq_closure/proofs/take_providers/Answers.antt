use Rattle.std.proofs.Common.{arith}
use Rattle.cq_atom.specs.declared.edge.Edge.{Edge}
use Rattle.cq_closure.proofs.Reaching.{providers-more, takes-then}
use Rattle.cq_closure.proofs.take_providers.Goals as goal

pub loop-edge-preserved : goal.loop-edge-preserved
loop-edge-preserved g c =
    let old = c.args.reach.now in
    let so_far = c.loop-edge.reach in
    let new = c.take.new.reach in
    let i = c.loop-edge.edge-index in
    let nobody : Edge = record { provider = 0; head = 0; waiter = 0; post = 0 } in
    let takes = c.in_ok-take.ensures.takes in
    record {
      takes = takes-then old.spare.items so_far.spare.items new.spare.items old.left.items so_far.left.items new.left.items c.loop-edge.invariant.takes takes;
      taken = providers-more so_far.spare.items new.spare.items c.args.edges.now i nobody takes.kept (omega arith) c.loop-edge.invariant.taken c.in_ok-take.ensures.taken;
      only = λ all may first each are. c.in_ok-take.ensures.only all may first (each i nobody (omega arith)) (c.loop-edge.invariant.only all may first each are);
    }

pub returns-clause-taken : goal.returns-clause-taken
returns-clause-taken g c k d low = let past = c.loop-edge-test.false in c.loop-edge.invariant.taken k d (omega (arith, past, low)) low
