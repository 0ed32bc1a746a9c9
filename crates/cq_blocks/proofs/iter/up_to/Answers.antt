use Rattle.std.proofs.Common.{take, sym, ap}
use Rattle.std.proofs.lemmas.List.{length-take-le}
use Rattle.cq_blocks.proofs.Within.{below-lists, read-is, into-read, taken-past}
use Rattle.cq_blocks.proofs.iter.up_to.Goals as goal

pub returns-then-place-blocks : goal.returns-then-place-blocks
returns-then-place-blocks g c = taken-past c.args.blocks.now c.args.place.block c.args.place.index c.if-place-blocks.true

pub slice_bounds-result-end-2 : goal.slice_bounds-result-end-2
slice_bounds-result-end-2 g c =
    sym (length-take-le c.args.place.index c.deref.result.now
    (into-read c.args.blocks.now c.args.place.block c.index-blocks-place.result c.deref.result.now c.args.place.index (below-lists c.args.blocks.now c.args.place.block c.if-place-blocks.false)
    c.index-blocks-place.is c.deref.ensures.value c.requires.1))

pub returns : goal.returns
returns g c =
    let i = c.args.place.index in
    ap (λ l. take i l) (sym (read-is c.args.blocks.now c.args.place.block c.index-blocks-place.result c.deref.result.now i (below-lists c.args.blocks.now c.args.place.block c.if-place-blocks.false)
    c.index-blocks-place.is c.deref.ensures.value))
