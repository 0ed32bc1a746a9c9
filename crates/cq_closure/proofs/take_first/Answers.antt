use Rattle.std.proofs.Common.{arith}
use Rattle.cq_closure.proofs.Reaching.{first-more, takes-then}
use Rattle.cq_closure.proofs.take_first.Goals as goal

pub loop-node-preserved : goal.loop-node-preserved
loop-node-preserved g c =
    let old = c.args.reach.now in
    let so_far = c.loop-node.reach in
    let new = c.take_if.new.reach in
    let takes = c.in_ok-take_if.ensures.takes in
    record {
      takes = takes-then old.spare.items so_far.spare.items new.spare.items old.left.items so_far.left.items new.left.items c.loop-node.invariant.takes takes;
      taken = first-more c.args.first.now so_far.spare.items new.spare.items c.loop-node.node takes.kept c.loop-node.invariant.taken c.in_ok-take_if.ensures.taken;
      only = λ edges may are. c.in_ok-take_if.ensures.only edges may (c.loop-node.invariant.only edges may are);
    }

pub returns-clause-taken : goal.returns-clause-taken
returns-clause-taken g c n low is = let past = c.loop-node-test.false in c.loop-node.invariant.taken n (omega (arith, past, low)) is
