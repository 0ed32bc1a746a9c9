use Rattle.std.proofs.Common.{◌≡◌, ◌<◌, ◌≤◌, true, false, length, filter, eqb, nat_eq, get_or, reverse, arith}
use Rattle.std.specs.HashMap.{get}
use Rattle.cq_match.specs.Steps.Resting.{feeds_from, no_fall}
use Rattle.cq_match.proofs.Tracing.{all-less, last-below, set-came, set-comes, still-below, stepped, none-wanted, walked-out}
use Rattle.cq_match.proofs.resting.walk.Goals as goal

pub loop-place-preserved : goal.loop-place-preserved
loop-place-preserved g c =
    let edges = c.args.edges.now in
    let falls = c.args.falls.now in
    let places = get nat_eq c.args.places.now in
    let good = c.requires.parts.good in
    let table = c.requires.parts.placed in
    let p = c.in-Some.place in
    let fall = get_or falls p no_fall in
    let wanted = c.loop-place.wanted.keys in
    let rest = c.pop_last.new.self.keys in
    let wanted' = c.want_next.new.wanted.keys in
    let split = c.in-Some.ensures.removal in
    let below = all-less p rest c.in-Some.ensures.all_below in
    let under : p < c.loop-place.left = last-below wanted rest p c.loop-place.left split c.loop-place.invariant.below in
    let inside : c.loop-place.left ≤ length falls = c.loop-place.invariant.low in
    let low : p < length falls = omega (arith, under, inside) in
    let fed = feeds_from places (filter (λ e. eqb e.waiter fall.node) edges) fall.reason in
    let came = set-came c.pop_last.new.self c.want_next.new.wanted fed c.in_ok-want_next.ensures in
    let comes = set-comes c.pop_last.new.self c.want_next.new.wanted fed c.in_ok-want_next.ensures in
    record {
      low = omega (arith, low);
      below = still-below edges falls good places table p low wanted wanted' rest split below came comes;
      walking = λ node start.
          stepped edges falls good places table p low wanted wanted' rest split below came comes
          node c.loop-place.left c.loop-place.part.items c.push.new.self.items under inside c.in_ok-push.ensures.items (c.loop-place.invariant.walking node start);
    }

pub returns : goal.returns
returns g c node start =
    let wanted = c.loop-place.wanted.keys in
    walked-out c.args.edges.now c.args.falls.now c.requires.parts.good node c.loop-place.left wanted (reverse c.loop-place.part.items)
    (none-wanted wanted (λ some. let never : false ≡ true = rw c.in_default.is at (c.pop_last.ensures.variant.1 some) in cc)) c.loop-place.invariant.low
    (c.loop-place.invariant.walking node start)

pub loop-place-init : goal.loop-place-init
loop-place-init g c = record {
  low = c.requires.low;
  below = c.requires.below;
  walking = λ node start. start;
}

pub bounds-falls-left : goal.bounds-falls-left
bounds-falls-left g c =
    let under = last-below c.loop-place.wanted.keys c.pop_last.new.self.keys c.in-Some.place c.loop-place.left c.in-Some.ensures.removal c.loop-place.invariant.below in
    omega (arith, under, c.loop-place.invariant.low)

pub loop-place-smaller : goal.loop-place-smaller
loop-place-smaller g c = last-below c.loop-place.wanted.keys c.pop_last.new.self.keys c.in-Some.place c.loop-place.left c.in-Some.ensures.removal c.loop-place.invariant.below
