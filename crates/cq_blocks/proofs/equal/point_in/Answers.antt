use Rattle.std.proofs.Common.{true, false, ◌+◌, ◌-◌, ◌/◌, ◌<◌, length, arith, ap, ◌∙◌}
use borrow.Author.Rules.{of_calls}
use Rattle.cq_blocks.specs.Blocks.{is_passed}
use Rattle.cq_blocks.proofs.Halving.{computes-next}
use Rattle.cq_blocks.proofs.Ends.{before-one, behind-one, read-says}
use Rattle.cq_blocks.proofs.equal.point_in.Goals as goal

pub halving-preserved-then-passes : goal.halving-preserved-then-passes
halving-preserved-then-passes g c =
    let middle = c.halving.low + (c.halving.high - c.halving.low) / 2 in
    let within : c.halving.low + (c.halving.high - c.halving.low) / 2 < length c.args.block.now = omega arith in record {
      low = omega arith;
      order = omega arith;
      high = omega arith;
      callable = search of_calls;
      computes = λ ord computes. (computes-next ord (c.halving.invariant.computes ord computes) c.f-order.ensures).0;
      between = λ ord computes parted known.
          let next = computes-next ord (c.halving.invariant.computes ord computes) c.f-order.ensures in (
            before-one (λ x. is_passed c.args.upto (ord x)) c.args.block.now parted middle within
                (read-says (λ x. is_passed c.args.upto (ord x)) c.args.block.now middle c.index-block-middle.result true within c.index-block-middle.is (c.if-passes.ensures ∙ ap (is_passed c.args.upto) next.1)),
            (c.halving.invariant.between ord computes parted known).1,
          );
    }

pub halving-preserved : goal.halving-preserved
halving-preserved g c =
    let middle = c.halving.low + (c.halving.high - c.halving.low) / 2 in
    let within : c.halving.low + (c.halving.high - c.halving.low) / 2 < length c.args.block.now = omega arith in record {
      low = omega arith;
      order = omega arith;
      high = omega arith;
      callable = search of_calls;
      computes = λ ord computes. (computes-next ord (c.halving.invariant.computes ord computes) c.f-order.ensures).0;
      between = λ ord computes parted known.
          let next = computes-next ord (c.halving.invariant.computes ord computes) c.f-order.ensures in (
            (c.halving.invariant.between ord computes parted known).0,
            behind-one (λ x. is_passed c.args.upto (ord x)) c.args.block.now parted middle
                (read-says (λ x. is_passed c.args.upto (ord x)) c.args.block.now middle c.index-block-middle.result false within c.index-block-middle.is (c.if-passes.ensures ∙ ap (is_passed c.args.upto) next.1)),
          );
    }
