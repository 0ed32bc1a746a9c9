use Rattle.std.proofs.Common.{true, false, ◌+◌, ◌<◌, length, arith, ap, ◌∙◌}
use Rattle.std.specs.Prelude.{not}
use Rattle.std.specs.Ordering.{is_gt}
use Rattle.cq_blocks.proofs.Halving.{computes-next}
use Rattle.cq_blocks.proofs.Ends.{before-one, behind-one, read-says}
use Rattle.cq_blocks.proofs.equal.end_in.Goals as goal

pub returns-then-is_gt-clause-computes : goal.returns-then-is_gt-clause-computes
returns-then-is_gt-clause-computes g c ord computes = c.point_in-then-is_gt.ensures.computes ord (computes-next ord computes c.f-order.ensures).0

pub returns-else-is_gt-clause-computes : goal.returns-else-is_gt-clause-computes
returns-else-is_gt-clause-computes g c ord computes = c.point_in-else-is_gt.ensures.computes ord (computes-next ord computes c.f-order.ensures).0

pub returns-then-is_gt-clause-between : goal.returns-then-is_gt-clause-between
returns-then-is_gt-clause-between g c ord computes parted before =
    let near = c.args.from + 8 in
    let within : c.args.from + 8 < length c.args.block.now = omega arith in
    let next = computes-next ord computes c.f-order.ensures in
    c.point_in-then-is_gt.ensures.between ord next.0 parted (
      before,
      behind-one (λ x. not (is_gt (ord x))) c.args.block.now parted near
          (read-says (λ x. not (is_gt (ord x))) c.args.block.now near c.index-block-near.result false within c.index-block-near.is (ap not (c.if-is_gt.ensures ∙ ap is_gt next.1))),
    )

pub returns-else-is_gt-clause-between : goal.returns-else-is_gt-clause-between
returns-else-is_gt-clause-between g c ord computes parted before =
    let near = c.args.from + 8 in
    let within : c.args.from + 8 < length c.args.block.now = omega arith in
    let next = computes-next ord computes c.f-order.ensures in
    c.point_in-else-is_gt.ensures.between ord next.0 parted (
      before-one (λ x. not (is_gt (ord x))) c.args.block.now parted near within
          (read-says (λ x. not (is_gt (ord x))) c.args.block.now near c.index-block-near.result true within c.index-block-near.is (ap not (c.if-is_gt.ensures ∙ ap is_gt next.1))),
      (λ k d le lt. absurd (omega (arith, le, lt))),
    )
