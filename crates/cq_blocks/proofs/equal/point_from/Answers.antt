use Rattle.std.proofs.Common.{◌≡◌, ◌≤◌, [], length, get_or, sym, subst, ◌∙◌}
use Rattle.std.specs.List.Sorted.{IsPartitionedBy}
use Rattle.cq_blocks.specs.Blocks.{lists_of, is_passed, IsBetween}
use Rattle.cq_blocks.proofs.Vecs.{list-at}
use Rattle.cq_blocks.proofs.Halving.{parted-block}
use Rattle.cq_blocks.proofs.Ends.{point-in, nothing-known}
use Rattle.cq_blocks.proofs.Within.{below, up-below, out-of-read}
use Rattle.cq_blocks.proofs.equal.point_from.Goals as goal

pub returns-clause-between : goal.returns-clause-between
returns-clause-between g c ord computes parted before =
    let bs = lists_of c.args.blocks.now in
    let block = c.block_from-block.result in
    let index = c.point_in-index.result in
    let is : c.as_slice-inside.result.now ≡ get_or (lists_of c.args.blocks.now) c.block_from-block.result [] =
    c.as_slice-inside.ensures.value ∙ sym (list-at c.args.blocks.now block c.index-blocks-block.result c.block_from-block.ensures.within c.index-blocks-block.is) in
    let inside = subst (λ l. index ≤ length l) is c.point_in-index.ensures.high in
    point-in (λ x. is_passed c.args.upto (ord x)) bs block index c.block_from-block.ensures.within inside
    (c.block_from-block.ensures.between ord computes parted before)
    (subst (λ l. IsBetween (λ x. is_passed c.args.upto (ord x)) l index index) is
    (c.point_in-index.ensures.between ord (c.block_from-block.ensures.computes ord computes)
    (subst (λ l. IsPartitionedBy (λ x. is_passed c.args.upto (ord x)) l) (sym is) (parted-block (λ x. is_passed c.args.upto (ord x)) bs block index c.requires.filled c.block_from-block.ensures.within inside parted))
    (nothing-known (λ x. is_passed c.args.upto (ord x)) c.as_slice-inside.result.now)))

pub bounds-blocks-block : goal.bounds-blocks-block
bounds-blocks-block g c = below c.args.blocks.now c.block_from-block.result c.block_from-block.ensures.within

pub offset_bounds-blocks-block : goal.offset_bounds-blocks-block
offset_bounds-blocks-block g c = up-below c.args.blocks.now c.block_from-block.result c.block_from-block.ensures.within

pub returns-clause-index : goal.returns-clause-index
returns-clause-index g c =
    out-of-read c.args.blocks.now c.block_from-block.result c.index-blocks-block.result c.as_slice-inside.result.now c.point_in-index.result c.block_from-block.ensures.within c.index-blocks-block.is c.as_slice-inside.ensures.value
    c.point_in-index.ensures.high
