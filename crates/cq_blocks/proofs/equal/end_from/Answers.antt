use Rattle.std.proofs.Common.{◌≡◌, ◌+◌, Bool, [], length, get_or, inl, inr, arith, le_of_lt, sym, ap, ◌∙◌}
use Rattle.std.specs.Prelude.{not, Vec}
use Rattle.std.specs.Ordering.{is_gt}
use Rattle.std.proofs.lemmas.List.{length-map}
use Rattle.cq_blocks.specs.Blocks.{lists_of, begin_of}
use Rattle.cq_blocks.proofs.Vecs.{list-at}
use Rattle.cq_blocks.proofs.Ranges.{rises}
use Rattle.cq_blocks.proofs.Ends.{end-read, end-within, end-last, end-next}
use Rattle.cq_blocks.proofs.Within.{further, below, up-below, below-lists, into-read, out-of-read}
use Rattle.cq_blocks.proofs.equal.end_from.Goals as goal

pub returns-then-next-blocks-clause-order : goal.returns-then-next-blocks-clause-order
returns-then-next-blocks-clause-order g c =
    omega (arith, rises (lists_of c.args.blocks.now) c.args.from.block c.point_from.result.block (omega (arith, c.point_from.ensures.low)) (omega (arith, c.point_from.ensures.block)), c.requires.index)

pub returns-then-next-blocks-clause-between : goal.returns-then-next-blocks-clause-between
returns-then-next-blocks-clause-between g c ord computes parted before =
    let p : g.row.T.Denot → Bool = λ x. not (is_gt (ord x)) in
    let bs = lists_of c.args.blocks.now in
    let from = c.args.from in
    let end = c.end_in-index.result in
    let is : c.as_slice-inside.result.now ≡ get_or (lists_of c.args.blocks.now) c.args.from.block [] =
    c.as_slice-inside.ensures.value ∙ sym (list-at c.args.blocks.now from.block c.index-blocks-from.result c.requires.block c.index-blocks-from.is) in
    let inner = end-read p bs from.block from.index c.requires.block c.requires.index parted before c.as_slice-inside.result.now end c.requires.filled is (c.end_in-index.ensures.between ord computes) in
    c.point_from.ensures.between ord (c.end_in-index.ensures.computes ord computes) parted
    (end-next p bs from.block from.index c.requires.block c.requires.index parted before end (c.if-index-inside.true ∙ ap (λ l. length l) is) inner)

pub returns-clause-between : goal.returns-clause-between
returns-clause-between g c ord computes parted before =
    let p : g.row.T.Denot → Bool = λ x. not (is_gt (ord x)) in
    let bs = lists_of c.args.blocks.now in
    let from = c.args.from in
    let end = c.end_in-index.result in
    let is : c.as_slice-inside.result.now ≡ get_or (lists_of c.args.blocks.now) c.args.from.block [] =
    c.as_slice-inside.ensures.value ∙ sym (list-at c.args.blocks.now from.block c.index-blocks-from.result c.requires.block c.index-blocks-from.is) in
    let inner = end-read p bs from.block from.index c.requires.block c.requires.index parted before c.as_slice-inside.result.now end c.requires.filled is (c.end_in-index.ensures.between ord computes) in
    elim c.else-index-inside.either [
      | inl last ↦
          end-last p bs from.block from.index c.requires.block c.requires.index parted before end (last.0 ∙ ap (λ l. length l) is)
          (omega (arith, last.1, length-map c.args.blocks.now (λ (v : Vec g.row.T.Denot g.row.A.Denot). v.items))) inner
      | inr other ↦
          end-within p bs from.block from.index c.requires.block c.requires.index parted before end (omega (arith, ap (λ l. length l) is, c.end_in-index.ensures.high, other)) inner
    ]

pub bounds-blocks-from : goal.bounds-blocks-from
bounds-blocks-from g c = below c.args.blocks.now c.args.from.block c.requires.block

pub offset_bounds-blocks-from : goal.offset_bounds-blocks-from
offset_bounds-blocks-from g c = up-below c.args.blocks.now c.args.from.block c.requires.block

pub end_in-index-requires-clause-within : goal.end_in-index-requires-clause-within
end_in-index-requires-clause-within g c =
    into-read c.args.blocks.now c.args.from.block c.index-blocks-from.result c.as_slice-inside.result.now c.args.from.index c.requires.block c.index-blocks-from.is c.as_slice-inside.ensures.value c.requires.index

pub point_from-requires-clause-within : goal.point_from-requires-clause-within
point_from-requires-clause-within g c = below-lists c.args.blocks.now (c.args.from.block + 1) c.if-next-blocks.true

pub returns-then-next-blocks-clause-place : goal.returns-then-next-blocks-clause-place
returns-then-next-blocks-clause-place g c = (le_of_lt c.point_from.ensures.block, c.point_from.ensures.index)

pub returns-clause-place : goal.returns-clause-place
returns-clause-place g c = (
  le_of_lt c.requires.block,
  out-of-read c.args.blocks.now c.args.from.block c.index-blocks-from.result c.as_slice-inside.result.now c.end_in-index.result c.requires.block c.index-blocks-from.is c.as_slice-inside.ensures.value c.end_in-index.ensures.high,
)

pub returns-clause-order : goal.returns-clause-order
returns-clause-order g c = further (begin_of (lists_of c.args.blocks.now) c.args.from.block) c.args.from.index c.end_in-index.result c.end_in-index.ensures.low
