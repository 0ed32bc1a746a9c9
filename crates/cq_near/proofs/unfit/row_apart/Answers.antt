use Rattle.std.proofs.Common.{◌≡◌, ◌∙◌, List, map, Some, ap, arith}
use Rattle.cq_atom.specs.Value.{ValueContent}
use Rattle.cq_atom.specs.Atom.{constant_of}
use Rattle.cq_near.specs.Alike.{apart_at, apart}
use Rattle.cq_near.proofs.Places.{further, whole}
use Rattle.cq_near.proofs.unfit.row_apart.Goals as goal

pub loop-place-preserved : goal.loop-place-preserved
loop-place-preserved g c =
    let ts = c.args.terms.now in
    let vs = c.values-values.result.now in
    let t = c.index-terms-place.result in
    let v = c.index-values-place.result in
    let least = c.min-place-end.ensures in
    let low = c.loop-place-test.true in
    let is : c.in_ok-changes.field-0 ≡ apart_at (constant_of t) (Some v) = c.in_ok-changes.ensures ∙ ap (λ x. apart_at x (Some v)) c.as_constant.ensures.value in
    record {
      so_far = further constant_of (λ x. Some x) ts vs c.loop-place.place t v _ c.loop-place.changes c.in_ok-changes.field-0 (omega arith) (omega arith) c.index-terms-place.is c.index-values-place.is c.loop-place.invariant.so_far is;
      few = let before = c.loop-place.invariant.few in omega arith;
    }

pub returns : goal.returns
returns g c =
    let least = c.min-place-end.ensures in
    let over = c.loop-place-test.false in
    whole constant_of (λ x. Some x) c.args.terms.now c.values-values.result.now c.loop-place.place c.loop-place.changes (omega arith) c.loop-place.invariant.so_far
    ∙ ap (λ (values : List ValueContent). apart (map constant_of c.args.terms.now) (map (λ x. Some x) values)) c.values-values.ensures.value
