use Rattle.std.proofs.Common.{refl}
use Rattle.cq_blocks.proofs.Within.{past-all, before-one, last-block, next-block}
use Rattle.cq_blocks.proofs.blocks.Blocks.settle.Goals as goal

pub returns-then-place-blocks : goal.returns-then-place-blocks
returns-then-place-blocks g c = past-all c.blocks-blocks.result.now c.args.self.now c.blocks-blocks.ensures.blocks c.args.place.block c.args.place.index c.if-place-blocks.true

pub returns-then-place-len : goal.returns-then-place-len
returns-then-place-len g c = (
  before-one c.blocks-blocks.result.now c.args.self.now c.blocks-blocks.ensures.blocks c.args.place.block c.args.place.index c.len.result c.index-blocks-place.result c.if-place-blocks.false c.index-blocks-place.is c.len.ensures
      c.if-place-len.true,
  refl,
)

pub returns-then-next-blocks : goal.returns-then-next-blocks
returns-then-next-blocks g c =
    next-block c.blocks-blocks.result.now c.args.self.now c.blocks-blocks.ensures.blocks c.args.place.block c.args.place.index c.len.result c.index-blocks-place.result c.if-place-blocks.false c.index-blocks-place.is c.len.ensures
    c.if-place-len.false c.blocks-blocks.ensures.filled c.if-next-blocks.true c.requires.1

pub returns-else-next-blocks : goal.returns-else-next-blocks
returns-else-next-blocks g c =
    last-block c.blocks-blocks.result.now c.args.self.now c.blocks-blocks.ensures.blocks c.args.place.block c.args.place.index c.len.result c.index-blocks-place.result c.if-place-blocks.false c.index-blocks-place.is c.len.ensures
    c.if-place-len.false c.if-next-blocks.false
