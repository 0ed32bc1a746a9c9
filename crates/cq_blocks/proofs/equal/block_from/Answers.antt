use Rattle.std.proofs.Common.{true, false, ◌+◌, ◌-◌, ◌/◌, ◌<◌, length, arith, refl, ap, subst, ◌∙◌}
use borrow.Author.Rules.{of_calls}
use Rattle.cq_blocks.specs.Blocks.{elements, lists_of, begin_of, is_passed, IsBetween}
use Rattle.cq_blocks.proofs.Lists.{filled-at}
use Rattle.cq_blocks.proofs.Vecs.{length-at}
use Rattle.cq_blocks.proofs.Halving.{computes-next, begins}
use Rattle.cq_blocks.proofs.Ends.{raised-to, lowered-to}
use Rattle.cq_blocks.proofs.Within.{below, up-below, middle-below, one-left}
use Rattle.cq_blocks.proofs.equal.block_from.Goals as goal

pub index-requires : goal.index-requires
index-requires g c =
    let middle = c.halving.low + (c.halving.high - c.halving.low) / 2 in
    let within : c.halving.low + (c.halving.high - c.halving.low) / 2 < length (lists_of c.args.blocks.now) = omega arith in
    omega (arith, length-at c.args.blocks.now middle c.index-blocks-middle.result within c.index-blocks-middle.is, filled-at middle (lists_of c.args.blocks.now) c.requires.filled within)

pub halving-preserved-then-passes : goal.halving-preserved-then-passes
halving-preserved-then-passes g c =
    let bs = lists_of c.args.blocks.now in
    let middle = c.halving.low + (c.halving.high - c.halving.low) / 2 in
    let within : c.halving.low + (c.halving.high - c.halving.low) / 2 < length (lists_of c.args.blocks.now) = omega arith in record {
      low = omega arith;
      order = omega arith;
      high = omega arith;
      callable = search of_calls;
      computes = λ ord computes. (computes-next ord (c.halving.invariant.computes ord computes) c.f-order.ensures).0;
      between = λ ord computes parted before.
          let next = computes-next ord (c.halving.invariant.computes ord computes) c.f-order.ensures in (
            raised-to (λ x. is_passed c.args.upto (ord x)) bs middle c.requires.filled within parted
                (begins (λ x. is_passed c.args.upto (ord x)) bs c.args.blocks.now middle c.index-blocks-middle.result c.index.result.now true refl c.requires.filled within c.index-blocks-middle.is c.index.ensures
                (c.if-passes.ensures ∙ ap (is_passed c.args.upto) next.1)),
            (c.halving.invariant.between ord computes parted before).1,
          );
    }

pub halving-preserved : goal.halving-preserved
halving-preserved g c =
    let bs = lists_of c.args.blocks.now in
    let middle = c.halving.low + (c.halving.high - c.halving.low) / 2 in
    let within : c.halving.low + (c.halving.high - c.halving.low) / 2 < length (lists_of c.args.blocks.now) = omega arith in record {
      low = omega arith;
      order = omega arith;
      high = omega arith;
      callable = search of_calls;
      computes = λ ord computes. (computes-next ord (c.halving.invariant.computes ord computes) c.f-order.ensures).0;
      between = λ ord computes parted before.
          let next = computes-next ord (c.halving.invariant.computes ord computes) c.f-order.ensures in (
            (c.halving.invariant.between ord computes parted before).0,
            lowered-to (λ x. is_passed c.args.upto (ord x)) bs middle c.requires.filled within parted
                (begins (λ x. is_passed c.args.upto (ord x)) bs c.args.blocks.now middle c.index-blocks-middle.result c.index.result.now false refl c.requires.filled within c.index-blocks-middle.is c.index.ensures
                (c.if-passes.ensures ∙ ap (is_passed c.args.upto) next.1)),
          );
    }

pub bounds-blocks-middle : goal.bounds-blocks-middle
bounds-blocks-middle g c =
    let vs = c.args.blocks.now in
    below vs (c.halving.low + (c.halving.high - c.halving.low) / 2) (middle-below c.halving.low c.halving.high (length (lists_of vs)) c.halving.invariant.order c.halving.invariant.high)

pub offset_bounds-blocks-middle : goal.offset_bounds-blocks-middle
offset_bounds-blocks-middle g c =
    let vs = c.args.blocks.now in
    up-below vs (c.halving.low + (c.halving.high - c.halving.low) / 2) (middle-below c.halving.low c.halving.high (length (lists_of vs)) c.halving.invariant.order c.halving.invariant.high)

pub returns-clause-between : goal.returns-clause-between
returns-clause-between g c ord computes parted before =
    let bs = lists_of c.args.blocks.now in
    subst (λ n. IsBetween (λ x. is_passed c.args.upto (ord x)) (elements bs) (begin_of bs c.halving.low) (begin_of bs n)) (one-left c.halving.low c.halving.high c.halving.invariant.order c.halving-test.false)
    (c.halving.invariant.between ord computes parted before)
