use Rattle.std.proofs.Common.{drop, sym, ap, ◌∙◌}
use Rattle.std.proofs.lemmas.List.{take_rest}
use Rattle.cq_blocks.proofs.Within.{below-lists, read-is, into-read, dropped-past}
use Rattle.cq_blocks.proofs.iter.from_on.Goals as goal

pub returns-then-place-blocks : goal.returns-then-place-blocks
returns-then-place-blocks g c = dropped-past c.args.blocks.now c.args.place.block c.args.place.index c.if-place-blocks.true

pub offset_bounds-deref-place : goal.offset_bounds-deref-place
offset_bounds-deref-place g c =
    into-read c.args.blocks.now c.args.place.block c.index-blocks-place.result c.deref.result.now c.args.place.index (below-lists c.args.blocks.now c.args.place.block c.if-place-blocks.false)
    c.index-blocks-place.is c.deref.ensures.value c.requires.1

pub slice_bounds-result-count : goal.slice_bounds-result-count
slice_bounds-result-count g c =
    into-read c.args.blocks.now c.args.place.block c.index-blocks-place.result c.deref.result.now c.args.place.index (below-lists c.args.blocks.now c.args.place.block c.if-place-blocks.false)
    c.index-blocks-place.is c.deref.ensures.value c.requires.1

pub returns : goal.returns
returns g c =
    let i = c.args.place.index in
    take_rest c.deref.result.now i
    ∙ ap (λ l. drop i l) (sym (read-is c.args.blocks.now c.args.place.block c.index-blocks-place.result c.deref.result.now i (below-lists c.args.blocks.now c.args.place.block c.if-place-blocks.false)
    c.index-blocks-place.is c.deref.ensures.value))
