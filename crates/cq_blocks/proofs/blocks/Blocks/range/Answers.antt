use Rattle.std.proofs.Common.{◌+◌, ◌-◌, refl, arith}
use Rattle.std.proofs.Math.Nat.{lt_of_lt_of_le}
use Rattle.std.proofs.Math.Numerals.{add-one-le}
use Rattle.cq_blocks.proofs.Ranges.{filled-part, ranges-over, ranges-same, ranges-none}
use Rattle.cq_blocks.proofs.Within.{within-view, place-view, within-taken}
use Rattle.cq_blocks.proofs.blocks.Blocks.range.Goals as goal

pub invariant_of-result : goal.invariant_of-result
invariant_of-result g c = filled-part c.blocks-blocks.result.now (c.args.from.block + 1) (c.args.to.block - (c.args.from.block + 1)) c.blocks-blocks.result.now refl c.blocks-blocks.ensures.filled

pub returns-then-from-to : goal.returns-then-from-to
returns-then-from-to g c =
    ranges-over c.blocks-blocks.result.now c.args.self.now c.blocks-blocks.ensures.blocks c.args.from.block c.args.to.block c.args.from.index c.args.to.index
    c.from_on.result.now c.up_to-back.result.now c.from_on.ensures c.up_to-back.ensures c.if-from-to.true c.requires.to.0 c.requires.from.1 c.requires.to.1

pub returns-then-from-to-2 : goal.returns-then-from-to-2
returns-then-from-to-2 g c =
    ranges-same c.blocks-blocks.result.now c.args.self.now c.blocks-blocks.ensures.blocks c.args.from.block c.args.to.block c.args.from.index c.args.to.index
    c.up_to-back.result.now c.up_to-back.ensures c.if-from-to-2.true c.requires.to.0 c.requires.to.1 c.requires.order

pub returns : goal.returns
returns g c = ranges-none c.blocks-blocks.result.now c.args.self.now c.args.from.block c.args.to.block c.args.from.index c.args.to.index (omega arith) c.requires.from.0 c.requires.to.1

pub up_to-back-requires : goal.up_to-back-requires
up_to-back-requires g c = place-view c.blocks-blocks.result.now c.args.self.now c.blocks-blocks.ensures.blocks c.args.to.block c.args.to.index c.requires.to.0 c.requires.to.1

pub from_on-requires : goal.from_on-requires
from_on-requires g c = place-view c.blocks-blocks.result.now c.args.self.now c.blocks-blocks.ensures.blocks c.args.from.block c.args.from.index c.requires.from.0 c.requires.from.1

pub offset_bounds-blocks-from : goal.offset_bounds-blocks-from
offset_bounds-blocks-from g c =
    add-one-le (lt_of_lt_of_le c.if-from-to.true (within-view c.blocks-blocks.result.now c.args.self.now c.blocks-blocks.ensures.blocks c.args.to.block c.requires.to.0))

pub offset_bounds-back-from : goal.offset_bounds-back-from
offset_bounds-back-from g c =
    within-taken c.blocks-blocks.result.now c.args.self.now c.blocks-blocks.ensures.blocks c.args.from.block c.args.to.block c.args.from.index c.args.to.index c.up_to-back.result.now c.up_to-back.ensures c.if-from-to-2.true
    c.requires.to.1 c.requires.order

pub slice_bounds-result-count-then-from-to-2 : goal.slice_bounds-result-count-then-from-to-2
slice_bounds-result-count-then-from-to-2 g c =
    within-taken c.blocks-blocks.result.now c.args.self.now c.blocks-blocks.ensures.blocks c.args.from.block c.args.to.block c.args.from.index c.args.to.index c.up_to-back.result.now c.up_to-back.ensures c.if-from-to-2.true
    c.requires.to.1 c.requires.order
