use Rattle.std.proofs.Common.{◌∙◌, sym}
use Rattle.std.proofs.lemmas.Option.{slice_get_past}
use Rattle.cq_blocks.specs.Blocks.{elements, flat, lists_of}
use Rattle.cq_blocks.proofs.Edited.{removed-past, some-element, one-less, before-view, read-view, removed-view}
use Rattle.cq_blocks.proofs.blocks.Blocks.remove.Goals as goal

pub returns-in_err-place-clause-value : goal.returns-in_err-place-clause-value
returns-in_err-place-clause-value g c = c.from_residual.ensures ∙ sym (slice_get_past (elements c.args.self.now) (flat c.args.self.now c.args.place) c.in_err-place.ensures)

pub returns-in_err-place-clause-rest : goal.returns-in_err-place-clause-rest
returns-in_err-place-clause-rest g c = removed-past (elements c.args.self.now) (flat c.args.self.now c.args.place) c.in_err-place.ensures

pub remove_at-element-requires : goal.remove_at-element-requires
remove_at-element-requires g c = before-view (lists_of c.self.inside.blocks.items) c.args.self.now c.self.view_is c.in_ok-place.place.block c.in_ok-place.place.index c.in_ok-place.ensures.0.0 c.in_ok-place.ensures.0.1

pub overflow_sub-self : goal.overflow_sub-self
overflow_sub-self g c =
    let bs = lists_of c.self.inside.blocks.items in
    let place = c.in_ok-place.place in
    let at = before-view bs c.args.self.now c.self.view_is place.block place.index c.in_ok-place.ensures.0.0 c.in_ok-place.ensures.0.1 in
    some-element bs place.block place.index at.0 at.1 c.self.inside.count c.self.invariant.1

pub invariant_of-self : goal.invariant_of-self
invariant_of-self g c =
    let bs = lists_of c.self.inside.blocks.items in
    let place = c.in_ok-place.place in
    let at = before-view bs c.args.self.now c.self.view_is place.block place.index c.in_ok-place.ensures.0.0 c.in_ok-place.ensures.0.1 in (
      c.remove_at-element.ensures.filled c.self.invariant.0,
      one-less bs place.block place.index at.0 at.1 c.self.inside.count c.self.invariant.1 (lists_of c.remove_at-element.new.blocks.items) c.remove_at-element.ensures.rest,
    )

pub returns-clause-value : goal.returns-clause-value
returns-clause-value g c =
    read-view (lists_of c.self.inside.blocks.items) c.args.self.now c.self.view_is c.in_ok-place.place c.args.place c.in_ok-place.ensures.1 c.remove_at-element.result c.remove_at-element.ensures.value

pub returns-clause-rest : goal.returns-clause-rest
returns-clause-rest g c =
    removed-view (lists_of c.self.inside.blocks.items) c.args.self.now c.self.view_is c.in_ok-place.place c.args.place c.in_ok-place.ensures.1 (elements (lists_of c.remove_at-element.new.blocks.items)) c.remove_at-element.ensures.rest
