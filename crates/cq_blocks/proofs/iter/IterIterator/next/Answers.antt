use Rattle.std.proofs.Common.{◌++◌}
use Rattle.cq_blocks.specs.Blocks.{elements, lists_of}
use Rattle.cq_blocks.proofs.Yielded.{blocks_of, rest-filled, first-filled, some-first, of-front, of-block, of-back, of-none, fewer, no-more}
use Rattle.cq_blocks.proofs.iter.IterIterator.next.Goals as goal

pub returns-in-Some-clause-steps : goal.returns-in-Some-clause-steps
returns-in-Some-clause-steps g c =
    of-front c.args.self.now c.self.inside.front.now c.in-Some.rest.now (elements (lists_of (blocks_of c.self.inside)) ++ c.self.inside.back.now) c.in-Some.element.now c.self.view_is c.in-Some.ensures.cases.0

pub returns-in-Some-clause-goes : goal.returns-in-Some-clause-goes
returns-in-Some-clause-goes g c =
    let tail = elements (lists_of (blocks_of c.self.inside)) ++ c.self.inside.back.now in
    fewer c.args.self.now (c.in-Some.rest.now ++ tail) c.in-Some.element.now c.in-Some.element
    (of-front c.args.self.now c.self.inside.front.now c.in-Some.rest.now tail c.in-Some.element.now c.self.view_is c.in-Some.ensures.cases.0)

pub slice_bounds-self-count : goal.slice_bounds-self-count
slice_bounds-self-count g c =
    some-first (blocks_of c.self.inside) c.in-Some-split_first.rest.now c.in-Some-split_first.block.now c.in-Some-split_first.ensures.cases.0 c.self.invariant c.deref.result.now c.deref.ensures.value

pub index-requires : goal.index-requires
index-requires g c =
    first-filled (blocks_of c.self.inside) c.in-Some-split_first.rest.now c.in-Some-split_first.block.now c.in-Some-split_first.ensures.cases.0 c.self.invariant

pub invariant_of-self-in-Some-split_first : goal.invariant_of-self-in-Some-split_first
invariant_of-self-in-Some-split_first g c =
    rest-filled (blocks_of c.self.inside) c.in-Some-split_first.rest.now c.in-Some-split_first.block.now c.in-Some-split_first.ensures.cases.0 c.self.invariant

pub returns-in-Some-split_first-clause-steps : goal.returns-in-Some-split_first-clause-steps
returns-in-Some-split_first-clause-steps g c =
    let vs = blocks_of c.self.inside in
    let rest = c.in-Some-split_first.rest.now in
    let block = c.in-Some-split_first.block.now in
    of-block c.args.self.now c.self.inside.front.now c.self.inside.back.now vs c.self.view_is c.in_default.ensures.cases rest block c.deref.result.now c.index.result.now c.in-Some-split_first.ensures.cases.0 c.deref.ensures.value c.index.ensures
    (some-first vs rest block c.in-Some-split_first.ensures.cases.0 c.self.invariant c.deref.result.now c.deref.ensures.value)

pub returns-in-Some-split_first-clause-goes : goal.returns-in-Some-split_first-clause-goes
returns-in-Some-split_first-clause-goes g c =
    let vs = blocks_of c.self.inside in
    let rest = c.in-Some-split_first.rest.now in
    let block = c.in-Some-split_first.block.now in
    fewer c.args.self.now _ c.index.result.now c.index.result
    (of-block c.args.self.now c.self.inside.front.now c.self.inside.back.now vs c.self.view_is c.in_default.ensures.cases rest block c.deref.result.now c.index.result.now c.in-Some-split_first.ensures.cases.0 c.deref.ensures.value c.index.ensures
    (some-first vs rest block c.in-Some-split_first.ensures.cases.0 c.self.invariant c.deref.result.now c.deref.ensures.value))

pub returns-in_err-element-clause-steps : goal.returns-in_err-element-clause-steps
returns-in_err-element-clause-steps g c =
    of-none c.args.self.now c.self.inside.front.now c.self.inside.back.now (blocks_of c.self.inside) c.self.view_is c.in_default.ensures.cases c.in_default-split_first.ensures.cases
    c.from_residual.result c.from_residual.ensures c.in_err-element.ensures.cases

pub returns-in_err-element-clause-goes : goal.returns-in_err-element-clause-goes
returns-in_err-element-clause-goes g c = no-more c.args.self.now c.from_residual.result c.from_residual.ensures

pub returns-clause-steps : goal.returns-clause-steps
returns-clause-steps g c =
    of-back c.args.self.now c.self.inside.front.now c.self.inside.back.now (blocks_of c.self.inside) c.self.view_is c.in_default.ensures.cases c.in_default-split_first.ensures.cases
    c.in_ok-element.rest.now c.in_ok-element.element.now c.in_ok-element.ensures.cases.0

pub returns-clause-goes : goal.returns-clause-goes
returns-clause-goes g c =
    fewer c.args.self.now _ c.in_ok-element.element.now c.in_ok-element.element
    (of-back c.args.self.now c.self.inside.front.now c.self.inside.back.now (blocks_of c.self.inside) c.self.view_is c.in_default.ensures.cases c.in_default-split_first.ensures.cases
    c.in_ok-element.rest.now c.in_ok-element.element.now c.in_ok-element.ensures.cases.0)
