use Rattle.std.proofs.Common.{◌≡◌, ◌++◌, ◌∷◌, [], length, take, rules}
use Rattle.std.proofs.lemmas.List.{take_all}
use Rattle.std.proofs.lemmas.List.Sorted.{IsNonDecreasingBy-from_sort_by_key}
use Rattle.cq_atom.specs.declared.edge.Edge.{Edge}
use Rattle.cq_match.specs.declared.settle.Offer.{Offer}
use Rattle.cq_match.proofs.Offered.{offers-more, offers-moved}
use Rattle.cq_match.proofs.matched.offers_of.Goals as goal

pub offer_of-requires-clause-provider : goal.offer_of-requires-clause-provider
offer_of-requires-clause-provider g c = (c.requires.ends c.loop-edge.edge-index (record { provider = 0; head = 0; waiter = 0; post = 0 }) c.loop-edge-test.true).0

pub offer_of-requires-clause-waiter : goal.offer_of-requires-clause-waiter
offer_of-requires-clause-waiter g c = (c.requires.ends c.loop-edge.edge-index (record { provider = 0; head = 0; waiter = 0; post = 0 }) c.loop-edge-test.true).1

pub loop-edge-preserved : goal.loop-edge-preserved
loop-edge-preserved g c =
    let offers = c.loop-edge.offers.items in
    let none : Edge = record { provider = 0; head = 0; waiter = 0; post = 0 } in
    let slots = c.args.slots.now in
    let pushed : c.push.new.self.items ≡ offers ++ c.offer_of.result ∷ [] = c.in_ok-push.ensures.items in
    rw pushed (offers-more c.args.ranked.now slots.starts.items slots.owners.items c.requires.rising c.requires.slots c.args.edges.now offers c.loop-edge.edge-index none c.offer_of.result c.loop-edge-test.true c.offer_of.ensures c.loop-edge.invariant)

pub returns-clause-offers : goal.returns-clause-offers
returns-clause-offers g c =
    let slots = c.args.slots.now in
    let edges = c.args.edges.now in
    let offers = c.loop-edge.offers.items in
    let all : take c.loop-edge.edge-index edges ≡ edges = take_all c.loop-edge.edge-index edges c.loop-edge-test.false in
    offers-moved c.args.ranked.now slots.starts.items (length slots.owners.items) edges offers c.sort_unstable_by_key.new.self.items
    c.sort_unstable_by_key.ensures.permutation
    (rw all at c.loop-edge.invariant)

pub returns-clause-grouped : goal.returns-clause-grouped
returns-clause-grouped g c = IsNonDecreasingBy-from_sort_by_key (λ (offer : Offer). offer.provider) c.sort_unstable_by_key.new.self.items c.sort_unstable_by_key.ensures.sorted (λ a r q k. search rules)
