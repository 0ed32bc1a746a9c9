use Rattle.std.proofs.Common.{◌∙◌, ap, length, length-append, arith}
use Rattle.cq_closure.proofs.Reaching.{taken-more}
use Rattle.cq_closure.proofs.taken.Goals as goal

pub loop-node-preserved : goal.loop-node-preserved
loop-node-preserved g c =
    let flags = c.loop-node.flags.items in
    let node = c.loop-node.node in
    let long = c.loop-node.invariant.long in
    let grew = ap length c.in_ok-push.ensures.items ∙ length-append flags _ in
    record {
      long = omega (arith, grew, long);
      each = taken-more c.args.may.now c.args.spare.now flags c.push.new.self.items node c.is_taken.result long c.in_ok-push.ensures.items c.is_taken.ensures c.loop-node.invariant.each;
    }

pub returns-clause-each : goal.returns-clause-each
returns-clause-each g c n low = let past = c.loop-node-test.false in c.loop-node.invariant.each n (omega (arith, past, low))
