use Rattle.std.proofs.Common.{◌≡◌, le_of_lt, sym, subst, ◌∙◌}
use Rattle.std.specs.Prelude.{not, filter, slice_range}
use Rattle.std.specs.Ordering.{is_lt, is_gt, is_eq}
use Rattle.std.specs.List.Sorted.{IsPartitionedBy}
use Rattle.cq_blocks.specs.Blocks.{elements, flat, lists_of}
use Rattle.cq_blocks.proofs.Ends.{before-none, equal-between, upto-where-less}
use Rattle.cq_blocks.proofs.Within.{on-view, order-view, first-block, none-of}
use Rattle.cq_blocks.proofs.blocks.Blocks.equal_range.Goals as goal

pub returns : goal.returns
returns g c ord computes less upto =
    let from = c.point_from-from.result in
    let to = c.end_from-to.result in
    let bs = lists_of c.blocks-blocks.result.now in
    let shown : lists_of c.blocks-blocks.result.now ≡ c.args.self.now = c.blocks-blocks.ensures.blocks in
    let low = c.point_from-from.ensures.between ord computes (subst (λ l. IsPartitionedBy (λ x. is_lt (ord x)) (elements l)) (sym shown) less) (before-none (λ x. is_lt (ord x)) bs) in
    let high = c.end_from-to.ensures.between ord (c.point_from-from.ensures.computes ord computes) (subst (λ l. IsPartitionedBy (λ x. not (is_gt (ord x))) (elements l)) (sym shown) upto) (upto-where-less ord (elements bs) (flat bs from) low.0) in
    c.range.ensures
    ∙ subst (λ l. slice_range (elements l) (flat l from) (flat l to) ≡ filter (λ x. is_eq (ord x)) (elements l)) shown
    (equal-between ord (elements bs) (flat bs from) (flat bs to) c.end_from-to.ensures.order low high)

pub returns-then-is_empty : goal.returns-then-is_empty
returns-then-is_empty g c ord computes less upto = none-of (λ x. is_eq (ord x)) c.blocks-blocks.result.now c.args.self.now c.empty.result c.blocks-blocks.ensures.blocks c.if-is_empty.ensures c.empty.ensures

pub point_from-from-requires-clause-within : goal.point_from-from-requires-clause-within
point_from-from-requires-clause-within g c = first-block c.blocks-blocks.result.now c.if-is_empty.ensures

pub range-requires-clause-from : goal.range-requires-clause-from
range-requires-clause-from g c =
    let from = c.point_from-from.result in
    on-view c.blocks-blocks.result.now c.args.self.now c.blocks-blocks.ensures.blocks from.block from.index
    (le_of_lt c.point_from-from.ensures.block) c.point_from-from.ensures.index

pub range-requires-clause-to : goal.range-requires-clause-to
range-requires-clause-to g c =
    let to = c.end_from-to.result in
    on-view c.blocks-blocks.result.now c.args.self.now c.blocks-blocks.ensures.blocks to.block to.index c.end_from-to.ensures.place.0 c.end_from-to.ensures.place.1

pub range-requires-clause-order : goal.range-requires-clause-order
range-requires-clause-order g c =
    order-view c.blocks-blocks.result.now c.args.self.now c.blocks-blocks.ensures.blocks c.point_from-from.result c.end_from-to.result c.end_from-to.ensures.order
