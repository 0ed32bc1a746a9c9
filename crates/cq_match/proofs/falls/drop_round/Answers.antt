use Rattle.std.proofs.Common.{◌≡◌, ◌<◌, true, eqb, length, get_or, filter, sym, subst, arith, ◌&&◌, not, nat_eq, false, ap, ◌∙◌}
use Rattle.std.specs.List.{All}
use Rattle.std.proofs.lemmas.List.Elements.{All-filter}
use Rattle.cq_match.specs.declared.settle.Offer.{Offer}
use Rattle.cq_match.specs.Steps.Settle.{stands}
use Rattle.cq_match.proofs.Felled.{up-still, offers-counted, fell-more, counted-more, each-more, only-more}
use Rattle.std.specs.Set.{is_member}
use Rattle.std.proofs.lemmas.List.{take_all}
use Rattle.cq_match.proofs.falls.drop_round.Goals as goal

pub drop_offers-requires-clause-low : goal.drop_offers-requires-clause-low
drop_offers-requires-clause-low g c =
    let P : Offer → Type 0 = λ l. l.slot < length c.args.owners.now in
    subst (All P) (sym c.offers_from.ensures) (All-filter (λ l. eqb l.provider (get_or c.args.round.now c.loop-place.place-index 0)) P c.args.offers.now c.requires.low)

pub drop_offers-requires-clause-counted : goal.drop_offers-requires-clause-counted
drop_offers-requires-clause-counted g c =
    let round = c.args.round.now in
    let i = c.loop-place.place-index in
    let place = get_or round i 0 in
    let up : stands c.loop-place.standing place ≡ true = up-still c.args.standing.now c.loop-place.standing round i c.requires.rising c.requires.up c.loop-place-test.true c.loop-place.invariant.fell in
    rw c.offers_from.ensures (offers-counted c.args.owners.now c.args.offers.now c.loop-place.standing c.loop-place.counts place up c.loop-place.invariant.counted)

pub loop-place-preserved : goal.loop-place-preserved
loop-place-preserved g c =
    let round = c.args.round.now in
    let offers = c.args.offers.now in
    let owners = c.args.owners.now in
    let i = c.loop-place.place-index in
    let place = get_or round i 0 in
    let standing = c.loop-place.standing in
    let counts = c.loop-place.counts in
    let counts' = c.drop_offers.new.counts in
    let dropped : c.offers_from.result.now ≡ filter (λ l. eqb l.provider place) offers = c.offers_from.ensures in
    let up : stands standing place ≡ true = up-still c.args.standing.now standing round i c.requires.rising c.requires.up c.loop-place-test.true c.loop-place.invariant.fell in
    let lowered = rw dropped at c.in_ok-drop_offers.ensures.lowered in
    record {
      fell = fell-more c.args.standing.now standing round i c.loop-place-test.true c.loop-place.invariant.fell;
      counted = counted-more owners offers standing counts counts' place up c.loop-place.invariant.counted lowered;
      each = each-more owners c.args.counts.now counts counts' c.loop-place.waiting.items c.drop_offers.new.waiting.items c.loop-place.invariant.each c.in_ok-drop_offers.ensures.each c.in_ok-drop_offers.ensures.kept;
      only = only-more owners offers place counts counts' c.loop-place.waiting.items c.drop_offers.new.waiting.items lowered c.loop-place.invariant.only c.in_ok-drop_offers.ensures.only;
      fewer = let less = c.in_ok-drop_offers.ensures.fewer in omega arith;
    }

pub offers_from-requires : goal.offers_from-requires
offers_from-requires g c = c.requires.grouped

pub drop_offers-requires-clause-same_len : goal.drop_offers-requires-clause-same_len
drop_offers-requires-clause-same_len g c = c.loop-place.auto.counts ∙ c.requires.same_len

pub returns-clause-fell : goal.returns-clause-fell
returns-clause-fell g c place =
    c.loop-place.invariant.fell place ∙ ap (λ round. stands c.args.standing.now place && not (is_member nat_eq round place)) (take_all c.loop-place.place-index c.args.round.now c.loop-place-test.false)

pub returns-clause-counted : goal.returns-clause-counted
returns-clause-counted g c = c.loop-place.invariant.counted

pub returns-clause-each : goal.returns-clause-each
returns-clause-each g c = c.loop-place.invariant.each

pub returns-clause-only : goal.returns-clause-only
returns-clause-only g c = c.loop-place.invariant.only

pub returns-clause-fewer : goal.returns-clause-fewer
returns-clause-fewer g c = c.loop-place.invariant.fewer
