use Rattle.std.proofs.Common.{◌≡◌, ℕ, ◌<◌, ◌↔◌, IsTrue, nat_eq, Bool, true, length, ◌∙◌, sym, ap, subst}
use Rattle.std.specs.List.{All, Contains}
use Rattle.std.specs.Set.{is_member}
use Rattle.cq_match.specs.Matched.{numbers, is_matched}
use Rattle.cq_match.specs.Steps.Places.{number_at, AreSlots, AreOffersOf, IsRanked}
use Rattle.cq_match.specs.Steps.Settle.{stands, FeedsItself}
use Rattle.cq_match.proofs.Union.{found-matched, ends-ranked, if-ok-both, owners-low}
use Rattle.std.specs.List.Sorted.{IsNonDecreasingBy}
use Rattle.cq_match.specs.declared.settle.Offer.{Offer}
use Rattle.cq_match.proofs.matched.greatest.Goals as goal

pub offers_of-requires-clause-ends : goal.offers_of-requires-clause-ends
offers_of-requires-clause-ends g c = rw c.deref-2.ensures.value (ends-ranked c.args.nodes.now c.in_ok-ranked.ranked.items c.args.edges.now c.in_ok-ranked.ensures.permutation c.requires.ends)

pub settled-requires-clause-owners_low : goal.settled-requires-clause-owners_low
settled-requires-clause-owners_low g c =
    let ranked = c.in_ok-ranked.ranked in
    let slots = c.in_ok-slots.slots in
    let are : AreSlots ranked.items slots.starts.items slots.owners.items = rw c.deref.ensures.value at c.in_ok-slots.ensures in
    rw c.deref-3.ensures.value (owners-low ranked.items slots.starts.items slots.owners.items c.len.result are (c.len.ensures ∙ ranked.ok.0))

pub standing_numbers-requires-clause-rising : goal.standing_numbers-requires-clause-rising
standing_numbers-requires-clause-rising g c = rw c.deref-5.ensures.value c.in_ok-ranked.ensures.rising

pub returns-clause-matched : goal.returns-clause-matched
returns-clause-matched g c =
    let nodes = c.args.nodes.now in
    let edges = c.args.edges.now in
    let ranked = c.in_ok-ranked.ranked in
    let starts = c.in_ok-slots.slots.starts.items in
    let owners = c.in_ok-slots.slots.owners.items in
    let offers = c.in_ok-offers.offers.items in
    let standing = c.in_ok-standing.standing.items in
    let are : AreSlots ranked.items starts owners = rw c.deref.ensures.value at c.in_ok-slots.ensures in
    let offered : AreOffersOf ranked.items starts (length owners) edges offers = rw c.deref-2.ensures.value at c.in_ok-offers.ensures.offers in
    let itself : FeedsItself owners offers (stands standing) = rw (c.deref-3.ensures.value, c.deref-4.ensures.value) at c.in_ok-standing.ensures.itself in
    let len : c.len.result ≡ length ranked.items = c.len.ensures ∙ ranked.ok.0 in
    let greatest : (set : ℕ → Bool) → FeedsItself owners offers set → (place : ℕ) → place < length ranked.items → set place ≡ true → stands standing place ≡ true =
    rw (c.deref-3.ensures.value, c.deref-4.ensures.value, len) at c.in_ok-standing.ensures.greatest in
    if-ok-both c.standing_numbers.result
    (λ found. (place : ℕ) → place < length ranked.items → is_member nat_eq found.items (number_at ranked.items place) ≡ stands standing place)
    (λ found. All (Contains (numbers ranked.items)) found.items)
    (λ found. (n : ℕ) → Contains found.items n ↔ IsTrue (is_matched nodes edges n))
    (λ found same known. found-matched nodes ranked.items edges starts owners offers standing found.items c.in_ok-ranked.ensures.permutation c.in_ok-ranked.ensures.rising
    (ends-ranked nodes ranked.items edges c.in_ok-ranked.ensures.permutation c.requires.ends) are offered itself greatest same known)
    (rw (c.deref-5.ensures.value, c.deref-6.ensures.value) at c.standing_numbers.ensures.found)
    (rw c.deref-5.ensures.value at c.standing_numbers.ensures.known)

pub offers_of-requires-clause-rising : goal.offers_of-requires-clause-rising
offers_of-requires-clause-rising g c = subst IsRanked (sym c.deref-2.ensures.value) c.in_ok-ranked.ensures.rising

pub offers_of-requires-clause-slots : goal.offers_of-requires-clause-slots
offers_of-requires-clause-slots g c =
    subst (λ nodes. AreSlots nodes c.in_ok-slots.slots.starts.items c.in_ok-slots.slots.owners.items) (c.deref.ensures.value ∙ sym c.deref-2.ensures.value) c.in_ok-slots.ensures

pub settled-requires-clause-offers_low : goal.settled-requires-clause-offers_low
settled-requires-clause-offers_low g c =
    let owners = c.in_ok-slots.slots.owners.items in
    let len : length c.deref-2.result.now ≡ c.len.result = ap length c.deref-2.ensures.value ∙ sym (c.len.ensures ∙ c.in_ok-ranked.ranked.ok.0) in
    rw (c.deref-3.ensures.value, c.deref-4.ensures.value)
    (subst (λ (n : ℕ). All (λ (offer : Offer). (offer.provider < n) × (offer.slot < length owners)) c.in_ok-offers.offers.items) len c.in_ok-offers.ensures.offers.low)

pub settled-requires-clause-grouped : goal.settled-requires-clause-grouped
settled-requires-clause-grouped g c = subst (IsNonDecreasingBy (λ (offer : Offer). offer.provider)) (sym c.deref-4.ensures.value) c.in_ok-offers.ensures.grouped

pub standing_numbers-requires-clause-same_len : goal.standing_numbers-requires-clause-same_len
standing_numbers-requires-clause-same_len g c =
    let len : length c.in_ok-standing.standing.items ≡ length c.in_ok-ranked.ranked.items = sym c.in_ok-standing.standing.ok.0 ∙ c.in_ok-standing.ensures.len ∙ c.len.ensures ∙ c.in_ok-ranked.ranked.ok.0 in
    ap length c.deref-6.ensures.value ∙ len ∙ sym (ap length c.deref-5.ensures.value)

pub returns-clause-rising : goal.returns-clause-rising
returns-clause-rising g c = c.standing_numbers.ensures.rising
