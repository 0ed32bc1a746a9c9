use Rattle.std.proofs.Common.{get_or, refl, arith, subst}
use Rattle.cq_match.specs.declared.falls.Fall.{Fall}
use Rattle.cq_match.specs.Steps.Falls.{IsFallOf}
use Rattle.cq_match.specs.Steps.Places.{number_at}
use Rattle.cq_match.proofs.Felled.{zip-more}
use Rattle.std.proofs.lemmas.List.{take_all}
use Rattle.std.specs.List.{AllZip}
use Rattle.cq_match.proofs.falls.falls_of.Goals as goal

pub loop-place-preserved : goal.loop-place-preserved
loop-place-preserved g c =
    let ranked = c.args.ranked.now in
    let round = c.args.round.now in
    let i = c.loop-place.place-index in
    let fall : Fall = record { node = number_at ranked (get_or round i 0); reason = c.reason_of.result } in
    rw c.in_ok-push.ensures.items
    (zip-more (IsFallOf ranked c.args.starts.now c.args.counts.now) round c.loop-place.falls.items i 0 fall c.loop-place-test.true c.loop-place.invariant (refl, c.reason_of.ensures))

pub bounds-ranked-place : goal.bounds-ranked-place
bounds-ranked-place g c = c.requires.low c.loop-place.place-index 0 c.loop-place-test.true

pub bounds-starts-place : goal.bounds-starts-place
bounds-starts-place g c =
    let low = c.requires.low c.loop-place.place-index 0 c.loop-place-test.true in
    omega (arith, low, c.requires.starts_len)

pub reason_of-requires-clause-within : goal.reason_of-requires-clause-within
reason_of-requires-clause-within g c = c.requires.within c.loop-place.place-index 0 c.loop-place-test.true

pub reason_of-requires-clause-empty : goal.reason_of-requires-clause-empty
reason_of-requires-clause-empty g c = c.requires.empty c.loop-place.place-index 0 c.loop-place-test.true

pub returns : goal.returns
returns g c =
    subst (λ round. AllZip (IsFallOf c.args.ranked.now c.args.starts.now c.args.counts.now) round c.loop-place.falls.items) (take_all c.loop-place.place-index c.args.round.now c.loop-place-test.false) c.loop-place.invariant
