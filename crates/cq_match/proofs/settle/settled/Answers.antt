use Rattle.std.proofs.Common.{◌≡◌, ℕ, ◌<◌, ◌++◌, ◌∷◌, [], Bool, true, false, eqb, List, length, get_or, filter, replicate, ap, sym, ◌∙◌, subst, arith}
use Rattle.std.specs.List.{All, Contains}
use Rattle.std.proofs.lemmas.List.{get_or_read}
use Rattle.std.proofs.lemmas.List.Elements.{All-filter, All-contains, Contains-push}
use Rattle.cq_match.specs.declared.settle.Offer.{Offer}
use Rattle.cq_match.specs.Steps.Settle.{stands}
use Rattle.cq_match.proofs.Settling.{Settling, settling-start, settling-skip, settling-fall, settled-itself, dropped-counted, written-back}
use Rattle.cq_match.proofs.settle.settled.Goals as goal

pub loop-place-init : goal.loop-place-init
loop-place-init g c =
    let counts = c.in_ok-counts.counts.items in
    let all : c.in_ok-standing.standing.items ≡ replicate c.args.places true = c.in_ok-standing.ensures.items_if_clones_equal (λ y h. h) in
    let shown : c.deref.result.now ≡ counts = c.deref.ensures.value in
    rw all (settling-start c.args.places c.args.owners.now c.args.offers.now counts c.in_ok-waiting.waiting.items
    c.requires.owners_low (λ k d low. (c.requires.offers_low k d low).0) (omega (arith, c.in_ok-counts.ensures.len, c.in_ok-counts.counts.ok.0)) c.in_ok-counts.ensures.counted
    (rw shown at c.in_ok-waiting.ensures.each) (rw shown at c.in_ok-waiting.ensures.only))

waits-low : (places : ℕ) (waiting rest : List ℕ) (place : ℕ) → All (λ p. p < places) waiting → waiting ≡ rest ++ place ∷ [] → place < places
waits-low places waiting rest place placed at = All-contains (λ p. p < places) waiting place placed (subst (λ (l : List ℕ). Contains l place) (sym at) (Contains-push rest place))

pub index-requires : goal.index-requires
index-requires g c =
    let low = waits-low c.args.places c.loop-place.waiting.items c.pop.new.self.items c.in-Some.place c.loop-place.invariant.placed c.in-Some.ensures.items in
    let len = c.loop-place.invariant.standing_len in
    omega arith

pub index_mut-requires : goal.index_mut-requires
index_mut-requires g c =
    let low = waits-low c.args.places c.loop-place.waiting.items c.pop.new.self.items c.in-Some.place c.loop-place.invariant.placed c.in-Some.ensures.items in
    let len = c.loop-place.invariant.standing_len in
    omega arith

pub drop_offers-requires-clause-low : goal.drop_offers-requires-clause-low
drop_offers-requires-clause-low g c =
    let P : Offer → Type 0 = λ l. l.slot < length c.args.owners.now in
    subst (All P) (sym c.offers_from.ensures) (All-filter (λ l. eqb l.provider c.in-Some.place) P c.args.offers.now (λ k d low. (c.requires.offers_low k d low).1))

-- whether a place of those that wait stands, as the code reads it
waits-read : (places : ℕ) (owners : List ℕ) (offers : List Offer) (standing : List Bool) (counts waiting rest : List ℕ) (place : ℕ) (read : Bool)
    → Settling places owners offers standing counts waiting → waiting ≡ rest ++ place ∷ [] → read ≡ get_or standing place read → stands standing place ≡ read
waits-read places owners offers standing counts waiting rest place read s at e =
    let low = waits-low places waiting rest place s.placed at in
    let len = s.standing_len in
    sym (get_or_read standing place read (omega arith) e false)

pub drop_offers-requires-clause-counted : goal.drop_offers-requires-clause-counted
drop_offers-requires-clause-counted g c =
    let place = c.in-Some.place in
    let owners = c.args.owners.now in
    let offers = c.args.offers.now in
    let standing = c.loop-place.standing.items in
    let counts = c.loop-place.counts.items in
    let waiting = c.loop-place.waiting.items in
    let up : stands standing place ≡ true = waits-read c.args.places owners offers standing counts waiting c.pop.new.self.items place c.index.result.now c.loop-place.invariant c.in-Some.ensures.items c.index.ensures ∙ c.if-index.true in
    rw (c.offers_from.ensures, c.deref_mut.ensures.value) (dropped-counted c.args.places owners offers standing counts waiting place c.loop-place.invariant up)

pub loop-place-preserved-in-Continue-branch-4 : goal.loop-place-preserved-in-Continue-branch-4
loop-place-preserved-in-Continue-branch-4 g c =
    let place = c.in-Some.place in
    let owners = c.args.owners.now in
    let offers = c.args.offers.now in
    let standing = c.loop-place.standing.items in
    let counts = c.loop-place.counts.items in
    let waiting = c.loop-place.waiting.items in
    let rest = c.pop.new.self.items in
    let counts' = c.drop_offers.new.counts in
    let shown : c.deref_mut.result.now ≡ counts = c.deref_mut.ensures.value in
    let dropped : c.offers_from.result.now ≡ filter (λ l. eqb l.provider place) offers = c.offers_from.ensures in
    let up : stands standing place ≡ true = waits-read c.args.places owners offers standing counts waiting rest place c.index.result.now c.loop-place.invariant c.in-Some.ensures.items c.index.ensures ∙ c.if-index.true in
    let kept_len : length counts' ≡ length counts = c.drop_offers.auto.counts ∙ ap length shown in
    let held : length counts ≡ c.loop-place.counts.len = sym c.loop-place.counts.ok.0 in
    rw (written-back counts counts' c.loop-place.counts.len (kept_len ∙ held))
    (settling-fall c.args.places owners offers standing counts waiting rest counts' c.drop_offers.new.waiting.items place
    c.requires.owners_low (λ k d low. (c.requires.offers_low k d low).0) c.loop-place.invariant c.in-Some.ensures.items up kept_len
    (rw (dropped, shown) at c.in_ok-drop_offers.ensures.lowered) (rw shown at c.in_ok-drop_offers.ensures.each) c.in_ok-drop_offers.ensures.kept c.in_ok-drop_offers.ensures.only)

pub loop-place-preserved : goal.loop-place-preserved
loop-place-preserved g c =
    let place = c.in-Some.place in
    let owners = c.args.owners.now in
    let offers = c.args.offers.now in
    let standing = c.loop-place.standing.items in
    let counts = c.loop-place.counts.items in
    let waiting = c.loop-place.waiting.items in
    let down : stands standing place ≡ false = waits-read c.args.places owners offers standing counts waiting c.pop.new.self.items place c.index.result.now c.loop-place.invariant c.in-Some.ensures.items c.index.ensures ∙ c.if-index.false in
    settling-skip c.args.places owners offers standing counts waiting c.pop.new.self.items place c.loop-place.invariant c.in-Some.ensures.items down

pub returns-clause-itself : goal.returns-clause-itself
returns-clause-itself g c = settled-itself c.args.places c.args.owners.now c.args.offers.now c.loop-place.standing.items c.loop-place.counts.items c.loop-place.waiting.items c.loop-place.invariant (omega (arith, c.in_default.ensures.cases.0, c.loop-place.waiting.ok.0))

pub unfed-requires : goal.unfed-requires
unfed-requires g c = ap length c.deref.ensures.value ∙ sym c.in_ok-counts.counts.ok.0 ∙ c.in_ok-counts.ensures.len

pub drop_offers-requires-clause-same_len : goal.drop_offers-requires-clause-same_len
drop_offers-requires-clause-same_len g c = ap length c.deref_mut.ensures.value ∙ c.loop-place.invariant.counts_len

pub offers_from-requires : goal.offers_from-requires
offers_from-requires g c = c.requires.grouped

pub returns-clause-greatest : goal.returns-clause-greatest
returns-clause-greatest g c = c.loop-place.invariant.stays

pub returns-clause-len : goal.returns-clause-len
returns-clause-len g c = c.loop-place.standing.ok.0 ∙ c.loop-place.invariant.standing_len
