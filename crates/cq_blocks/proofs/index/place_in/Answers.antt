use Rattle.std.proofs.Common.{refl, arith}
use Rattle.cq_blocks.specs.Blocks.{lists_of}
use Rattle.cq_blocks.proofs.Flat.{counted-next}
use Rattle.cq_blocks.proofs.Within.{place-here, end-place, end-before}
use Rattle.cq_blocks.proofs.index.place_in.Goals as goal

pub each-preserved : goal.each-preserved
each-preserved g c = omega (arith, counted-next c.args.blocks.now c.each.at c.index-blocks-at.result c.each-test.true c.index-blocks-at.is, c.each.invariant, c.len-count.ensures, c.if-index-count.false)

pub returns-then-index-count-clause-place : goal.returns-then-index-count-clause-place
returns-then-index-count-clause-place g c =
    place-here c.args.blocks.now (lists_of c.args.blocks.now) refl c.each.at c.each.index c.len-count.result c.index-blocks-at.result c.each-test.true c.index-blocks-at.is c.len-count.ensures c.if-index-count.true

pub returns-clause-place : goal.returns-clause-place
returns-clause-place g c = end-place c.args.blocks.now

pub returns-clause-before : goal.returns-clause-before
returns-clause-before g c = end-before c.args.blocks.now c.each.at c.each.index c.args.index c.requires c.each-test.false c.each.invariant
