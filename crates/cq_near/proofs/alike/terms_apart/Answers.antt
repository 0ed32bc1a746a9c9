use Rattle.std.proofs.Common.{◌≡◌, ◌∙◌, ap, arith}
use Rattle.std.specs.Option.{option_copied}
use Rattle.cq_atom.specs.Atom.{constant_of}
use Rattle.cq_near.specs.Alike.{apart_at}
use Rattle.cq_near.proofs.Places.{further, whole}
use Rattle.cq_near.proofs.alike.terms_apart.Goals as goal

pub loop-place-preserved : goal.loop-place-preserved
loop-place-preserved g c =
    let ws = c.args.wanted.now in
    let ts = c.args.there.now in
    let w = c.index-wanted-place.result in
    let t = c.index-there-place.result in
    let least = c.min-place-end.ensures in
    let low = c.loop-place-test.true in
    let is : c.in_ok-changes.field-0 ≡ apart_at (constant_of w) (constant_of t) =
    c.in_ok-changes.ensures ∙ ap (λ x. apart_at x (option_copied c.as_constant-other.result)) c.as_constant-one.ensures.value ∙ ap (apart_at (constant_of w)) c.as_constant-other.ensures.value in
    record {
      so_far = further constant_of constant_of ws ts c.loop-place.place w t _ c.loop-place.changes c.in_ok-changes.field-0 (omega arith) (omega arith) c.index-wanted-place.is c.index-there-place.is c.loop-place.invariant.so_far is;
      few = let before = c.loop-place.invariant.few in omega arith;
    }

pub returns-clause-value : goal.returns-clause-value
returns-clause-value g c =
    let least = c.min-place-end.ensures in
    let over = c.loop-place-test.false in
    whole constant_of constant_of c.args.wanted.now c.args.there.now c.loop-place.place c.loop-place.changes (omega arith) c.loop-place.invariant.so_far
