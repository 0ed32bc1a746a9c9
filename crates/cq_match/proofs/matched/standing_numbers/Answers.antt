use Rattle.std.proofs.Common.{◌≡◌, ◌<◌, ◌++◌, ◌∷◌, [], true, false, length, arith}
use Rattle.std.specs.List.{Contains}
use Rattle.std.proofs.lemmas.List.Elements.{All-push}
use Rattle.std.proofs.lemmas.Map.Keys.{sorted_from_strictly_increasing}
use Rattle.cq_match.specs.Matched.{numbers}
use Rattle.cq_match.specs.Steps.Places.{number_at}
use Rattle.cq_match.specs.Steps.Settle.{stands}
use Rattle.cq_match.proofs.Standing.{number-known, found-standing, found-fallen, below-standing, increasing-push}
use Rattle.cq_match.proofs.matched.standing_numbers.Goals as goal
use Rattle.cq_match.proofs.matched.standing_numbers.Goals.{then-standing-place+in_ok-push, else-standing-place}

pub loop-place-preserved : goal.loop-place-preserved
loop-place-preserved g c =
    let ranked = c.args.ranked.now in
    let standing = c.args.standing.now in
    let i = c.loop-place.place in
    let low : i < length ranked = omega arith in
    let n = number_at ranked i in
    let before = c.loop-place.found.items in
    let below = c.loop-place.invariant.below i (omega arith) low in
    elim c.if-standing-place.branch [
      | then-standing-place+in_ok-push w ↦
          let now : c.if-standing-place.found.items ≡ before ++ n ∷ [] = cc (w.found-is, w.in_ok-push.ensures.items) in
          let up : stands standing i ≡ true = w.if-standing-place.true in
          record {
            found = rw now (found-standing ranked standing before i c.requires.rising low up c.loop-place.invariant.found);
            known = rw now (All-push (Contains (numbers ranked)) before n c.loop-place.invariant.known (number-known ranked i low));
            below = rw now (below-standing ranked before i c.requires.rising c.loop-place.invariant.below);
            rising = rw now (increasing-push before n c.loop-place.invariant.rising below);
          }
      | else-standing-place w ↦
          let now : c.if-standing-place.found.items ≡ before = cc (w.found-is) in
          let down : stands standing i ≡ false = w.if-standing-place.false in
          record {
            found = rw now (found-fallen ranked standing before i down below c.loop-place.invariant.found);
            known = rw now c.loop-place.invariant.known;
            below = rw now (λ place from inside. c.loop-place.invariant.below place (omega arith) inside);
            rising = rw now c.loop-place.invariant.rising;
          }
    ]

pub returns-clause-rising : goal.returns-clause-rising
returns-clause-rising g c = sorted_from_strictly_increasing c.loop-place.found.items c.loop-place.invariant.rising
