use Rattle.std.proofs.Common.{◌≡◌, true, false, not, ◌+◌, ◌-◌, ◌/◌, ◌<◌, length, arith, refl, ap, subst, ◌∙◌}
use Rattle.std.proofs.Math.Nat.{lt_of_lt_of_le}
use Rattle.std.specs.Ordering.{is_gt}
use Rattle.std.specs.declared.cmp.Ordering.TheVariants.{Less, Equal, Greater}
use borrow.Author.Rules.{of_calls}
use Rattle.cq_blocks.specs.Blocks.{elements, lists_of}
use Rattle.cq_blocks.proofs.Lists.{filled-at}
use Rattle.cq_blocks.proofs.Vecs.{length-at}
use Rattle.cq_blocks.proofs.Halving.{Halved, unhalved, computes-next, raised, lowered, begins, found-bound, found-equal, found-within, found-place}
use Rattle.cq_blocks.proofs.Within.{many, below, up-below, middle-below, found-before, found-at, none-there, point-none}
use Rattle.cq_blocks.proofs.blocks.Blocks.binary_search_by.Goals as goal

pub index-requires : goal.index-requires
index-requires g c =
    let vs = c.blocks-blocks.result.now in
    let middle = c.halving.low + (c.halving.high - c.halving.low) / 2 in
    let within : c.halving.low + (c.halving.high - c.halving.low) / 2 < length (lists_of c.blocks-blocks.result.now) = omega arith in
    omega (arith, length-at vs middle c.index-blocks-middle.result within c.index-blocks-middle.is, filled-at middle (lists_of vs) c.blocks-blocks.ensures.filled within)

pub halving-preserved-then-is_gt : goal.halving-preserved-then-is_gt
halving-preserved-then-is_gt g c =
    let vs = c.blocks-blocks.result.now in
    let middle = c.halving.low + (c.halving.high - c.halving.low) / 2 in
    let within : c.halving.low + (c.halving.high - c.halving.low) / 2 < length (lists_of c.blocks-blocks.result.now) = omega arith in record {
      order = omega arith;
      within = omega arith;
      callable = search of_calls;
      found = λ ord computes.
          let known = c.halving.invariant.found ord computes in
          let next = computes-next ord known.0 c.f-order.ensures in (
            next.0,
            lowered (λ y. not (is_gt (ord y))) (lists_of vs) c.halving.low middle c.halving.high
                (begins (λ y. not (is_gt (ord y))) (lists_of vs) vs middle c.index-blocks-middle.result c.index.result.now false refl c.blocks-blocks.ensures.filled within c.index-blocks-middle.is c.index.ensures
                (ap not c.if-is_gt.ensures ∙ ap (λ o. not (is_gt o)) next.1))
                known.1,
          );
    }

pub halving-preserved : goal.halving-preserved
halving-preserved g c =
    let vs = c.blocks-blocks.result.now in
    let middle = c.halving.low + (c.halving.high - c.halving.low) / 2 in
    let within : c.halving.low + (c.halving.high - c.halving.low) / 2 < length (lists_of c.blocks-blocks.result.now) = omega arith in record {
      order = omega arith;
      within = omega arith;
      callable = search of_calls;
      found = λ ord computes.
          let known = c.halving.invariant.found ord computes in
          let next = computes-next ord known.0 c.f-order.ensures in (
            next.0,
            raised (λ y. not (is_gt (ord y))) (lists_of vs) c.halving.low middle c.halving.high
                (begins (λ y. not (is_gt (ord y))) (lists_of vs) vs middle c.index-blocks-middle.result c.index.result.now true refl c.blocks-blocks.ensures.filled within c.index-blocks-middle.is c.index.ensures
                (ap not c.if-is_gt.ensures ∙ ap (λ o. not (is_gt o)) next.1))
                known.1,
          );
    }

pub returns-in-Ok-clause-bound : goal.returns-in-Ok-clause-bound
returns-in-Ok-clause-bound g c =
    found-within (λ y. Equal) c.blocks-blocks.result.now c.args.self.now c.index-blocks-low.result c.deref.result.now c.halving.low c.halving.high c.in-Ok.index c.blocks-blocks.ensures.blocks c.blocks-blocks.ensures.filled c.halving.invariant.order
    c.halving-test.false c.halving.invariant.within c.index-blocks-low.is c.deref.ensures.value
    c.in-Ok.ensures.bound

pub returns-in-Ok-clause-position : goal.returns-in-Ok-clause-position
returns-in-Ok-clause-position g c ord computes =
    let known = c.halving.invariant.found ord computes in
    found-equal ord c.blocks-blocks.result.now c.args.self.now c.index-blocks-low.result c.deref.result.now c.halving.low c.halving.high c.in-Ok.index c.blocks-blocks.ensures.blocks c.blocks-blocks.ensures.filled c.halving.invariant.order
    c.halving-test.false c.halving.invariant.within c.index-blocks-low.is c.deref.ensures.value
    c.in-Ok.ensures.bound (c.in-Ok.ensures.position ord known.0)

pub returns-in-Err-clause-bound : goal.returns-in-Err-clause-bound
returns-in-Err-clause-bound g c =
    found-bound c.blocks-blocks.result.now c.args.self.now c.index-blocks-low.result c.deref.result.now c.halving.low c.halving.high c.in-Err.index c.blocks-blocks.ensures.blocks c.blocks-blocks.ensures.filled c.halving.invariant.order
    c.halving-test.false c.halving.invariant.within c.index-blocks-low.is c.deref.ensures.value c.in-Err.ensures.bound

pub returns-in-Err-clause-position : goal.returns-in-Err-clause-position
returns-in-Err-clause-position g c ord computes rises =
    let known = c.halving.invariant.found ord computes in
    found-place ord c.blocks-blocks.result.now c.args.self.now c.index-blocks-low.result c.deref.result.now c.halving.low c.halving.high c.in-Err.index c.blocks-blocks.ensures.blocks c.blocks-blocks.ensures.filled c.halving.invariant.order
    c.halving-test.false c.halving.invariant.within c.index-blocks-low.is c.deref.ensures.value
    c.in-Err.ensures.bound known.1 rises (c.in-Err.ensures.position ord known.0)

pub returns-then-high-eq0-clause-position : goal.returns-then-high-eq0-clause-position
returns-then-high-eq0-clause-position g c ord computes rises =
    let xs = elements c.args.self.now in
    point-none (λ x. ord x ≡ Less) (λ x. ord x ≡ Greater) xs (none-there c.blocks-blocks.result.now c.args.self.now c.blocks-blocks.ensures.blocks c.if-high-eq0.true)

pub halving-init : goal.halving-init
halving-init g c =
    let vs = c.blocks-blocks.result.now in record {
      order = omega arith;
      within = omega (arith, many vs);
      callable = c.requires;
      found = λ ord computes. (computes, subst (λ n. Halved (λ y. not (is_gt (ord y))) (lists_of vs) 0 n) (many vs) (unhalved (λ y. not (is_gt (ord y))) (lists_of vs)));
    }

pub bounds-blocks-middle : goal.bounds-blocks-middle
bounds-blocks-middle g c =
    let vs = c.blocks-blocks.result.now in
    below vs (c.halving.low + (c.halving.high - c.halving.low) / 2) (middle-below c.halving.low c.halving.high (length (lists_of vs)) c.halving.invariant.order c.halving.invariant.within)

pub offset_bounds-blocks-middle : goal.offset_bounds-blocks-middle
offset_bounds-blocks-middle g c =
    let vs = c.blocks-blocks.result.now in
    up-below vs (c.halving.low + (c.halving.high - c.halving.low) / 2) (middle-below c.halving.low c.halving.high (length (lists_of vs)) c.halving.invariant.order c.halving.invariant.within)

pub bounds-blocks-low : goal.bounds-blocks-low
bounds-blocks-low g c =
    let vs = c.blocks-blocks.result.now in
    below vs c.halving.low (lt_of_lt_of_le c.halving.invariant.order c.halving.invariant.within)

pub offset_bounds-blocks-low : goal.offset_bounds-blocks-low
offset_bounds-blocks-low g c =
    let vs = c.blocks-blocks.result.now in
    up-below vs c.halving.low (lt_of_lt_of_le c.halving.invariant.order c.halving.invariant.within)

pub returns-in-Ok-clause-place : goal.returns-in-Ok-clause-place
returns-in-Ok-clause-place g c =
    found-before c.blocks-blocks.result.now c.args.self.now c.index-blocks-low.result c.deref.result.now c.halving.low c.halving.high c.in-Ok.index c.blocks-blocks.ensures.blocks c.halving.invariant.order c.halving.invariant.within
    c.index-blocks-low.is c.deref.ensures.value c.in-Ok.ensures.bound

pub returns-in-Err-clause-place : goal.returns-in-Err-clause-place
returns-in-Err-clause-place g c =
    found-at c.blocks-blocks.result.now c.args.self.now c.index-blocks-low.result c.deref.result.now c.halving.low c.halving.high c.in-Err.index c.blocks-blocks.ensures.blocks c.halving.invariant.order c.halving.invariant.within
    c.index-blocks-low.is c.deref.ensures.value c.in-Err.ensures.bound
