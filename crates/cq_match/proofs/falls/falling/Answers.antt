use Rattle.std.proofs.Common.{ℕ, List, Bool, ◌↔◌, length, nat_eq, ◌<◌, sym, subst, ◌∙◌}
use Rattle.std.specs.List.{Contains, IsDistinct, All}
use Rattle.cq_match.specs.Falling.{fallen, IsFalling, IsUnmatched, AreAllRounds}
use Rattle.cq_match.specs.Steps.Places.{AreOffersOf, IsRanked, AreSlots}
use Rattle.cq_match.proofs.Rounds.{rounds-falling, rounds-distinct, rounds-unmatched, all-moved, if-ok-so}
use Rattle.cq_match.proofs.Spreading.{unmatched-law}
use Rattle.cq_match.proofs.Union.{ends-ranked}
use Rattle.std.specs.List.Sorted.{IsNonDecreasingBy}
use Rattle.cq_match.specs.declared.settle.Offer.{Offer}
use Rattle.cq_match.proofs.falls.falling.Goals as goal

pub offers_of-requires-clause-ends : goal.offers_of-requires-clause-ends
offers_of-requires-clause-ends g c = rw c.deref-2.ensures.value (ends-ranked c.args.nodes.now c.in_ok-ranked.ranked.items c.args.edges.now c.in_ok-ranked.ensures.permutation c.requires.ends)

pub returns-clause-rounds : goal.returns-clause-rounds
returns-clause-rounds g c =
    let nodes = c.args.nodes.now in
    let edges = c.args.edges.now in
    let ranked = c.in_ok-ranked.ranked.items in
    let moved = c.in_ok-ranked.ensures.permutation in
    let ends = ends-ranked nodes ranked edges moved c.requires.ends in
    let offered : AreOffersOf ranked c.in_ok-slots.slots.starts.items (length c.in_ok-slots.slots.owners.items) edges c.in_ok-offers.offers.items = rw c.deref-2.ensures.value at c.in_ok-offers.ensures.offers in
    let all = rw (c.deref-3.ensures.value, c.deref-4.ensures.value) at c.rounds_of.ensures in
    if-ok-so c.rounds_of.result _ (λ falls. AreAllRounds nodes edges falls.items) (λ falls h. all-moved nodes ranked edges moved falls.items (h edges ends offered)) all

pub returns-clause-falls : goal.returns-clause-falls
returns-clause-falls g c =
    let nodes = c.args.nodes.now in
    let edges = c.args.edges.now in
    if-ok-so c.rounds_of.result (λ falls. AreAllRounds nodes edges falls.items) (λ falls. IsFalling nodes edges falls.items) (λ falls h. rounds-falling nodes edges falls.items h.rounds) (returns-clause-rounds g c)

pub returns-clause-once : goal.returns-clause-once
returns-clause-once g c =
    let nodes = c.args.nodes.now in
    let edges = c.args.edges.now in
    if-ok-so c.rounds_of.result (λ falls. AreAllRounds nodes edges falls.items) (λ falls. IsDistinct nat_eq (fallen falls.items)) (λ falls h. rounds-distinct nodes edges falls.items h.rounds) (returns-clause-rounds g c)

pub returns-clause-unmatched : goal.returns-clause-unmatched
returns-clause-unmatched g c =
    let nodes = c.args.nodes.now in
    let edges = c.args.edges.now in
    if-ok-so c.rounds_of.result (λ falls. AreAllRounds nodes edges falls.items) (λ falls. (n : ℕ) → Contains (fallen falls.items) n ↔ IsUnmatched nodes edges n)
    (λ falls h. rounds-unmatched nodes edges falls.items c.requires.ends h) (returns-clause-rounds g c)

pub returns-clause-law : goal.returns-clause-law
returns-clause-law g c = unmatched-law c.args.nodes.now c.args.edges.now c.requires.ends

pub returns-in_err-ranked-clause-law : goal.returns-in_err-ranked-clause-law
returns-in_err-ranked-clause-law g c = unmatched-law c.args.nodes.now c.args.edges.now c.requires.ends

pub returns-in_err-slots-clause-law : goal.returns-in_err-slots-clause-law
returns-in_err-slots-clause-law g c = unmatched-law c.args.nodes.now c.args.edges.now c.requires.ends

pub returns-in_err-offers-clause-law : goal.returns-in_err-offers-clause-law
returns-in_err-offers-clause-law g c = unmatched-law c.args.nodes.now c.args.edges.now c.requires.ends

pub offers_of-requires-clause-rising : goal.offers_of-requires-clause-rising
offers_of-requires-clause-rising g c = subst IsRanked (sym c.deref-2.ensures.value) c.in_ok-ranked.ensures.rising

pub offers_of-requires-clause-slots : goal.offers_of-requires-clause-slots
offers_of-requires-clause-slots g c =
    subst (λ nodes. AreSlots nodes c.in_ok-slots.slots.starts.items c.in_ok-slots.slots.owners.items) (c.deref.ensures.value ∙ sym c.deref-2.ensures.value) c.in_ok-slots.ensures

pub rounds_of-requires-clause-rising : goal.rounds_of-requires-clause-rising
rounds_of-requires-clause-rising g c = subst IsRanked (sym c.deref-3.ensures.value) c.in_ok-ranked.ensures.rising

pub rounds_of-requires-clause-slots : goal.rounds_of-requires-clause-slots
rounds_of-requires-clause-slots g c =
    subst (λ nodes. AreSlots nodes c.in_ok-slots.slots.starts.items c.in_ok-slots.slots.owners.items) (c.deref.ensures.value ∙ sym c.deref-3.ensures.value) c.in_ok-slots.ensures

pub rounds_of-requires-clause-low : goal.rounds_of-requires-clause-low
rounds_of-requires-clause-low g c =
    let owners = c.in_ok-slots.slots.owners.items in
    subst (λ (offers : List Offer). All (λ (offer : Offer). (offer.provider < length c.deref-3.result.now) × (offer.slot < length owners)) offers) (sym c.deref-4.ensures.value)
    (subst (λ (nodes : List (ℕ × ℕ × Bool)). All (λ (offer : Offer). (offer.provider < length nodes) × (offer.slot < length owners)) c.in_ok-offers.offers.items) (c.deref-2.ensures.value ∙ sym c.deref-3.ensures.value)
    c.in_ok-offers.ensures.offers.low)

pub rounds_of-requires-clause-grouped : goal.rounds_of-requires-clause-grouped
rounds_of-requires-clause-grouped g c = subst (IsNonDecreasingBy (λ (offer : Offer). offer.provider)) (sym c.deref-4.ensures.value) c.in_ok-offers.ensures.grouped
