-- Edges as offers.
use Rattle.std.proofs.Common.{◌≡◌, ℕ, ◌+◌, ◌<◌, Bool, false, ◌&&◌, ◌||◌, eqb, List, [], ◌∷◌, ◌++◌, length, get_or, take, refl, sym, ap, ◌∙◌, arith, eq-eqb, nat_eq}
use Rattle.std.specs.List.{Any, list_any}
use Rattle.std.specs.List.Sorted.{IsPermutation}
use Rattle.std.specs.Set.{is_member}
use Rattle.std.proofs.Math.Bool.{or-false}
use Rattle.std.proofs.lemmas.Bool.{eqb-true}
use Rattle.std.proofs.lemmas.List.{get_or_default}
use Rattle.std.proofs.lemmas.List.Elements.{All-push}
use Rattle.std.proofs.lemmas.List.Folds.{list_any-append, list_any_more}
use Rattle.std.proofs.lemmas.List.Sorted.{All-permutation, list_any-IsPermutation}
use Rattle.cq_atom.specs.declared.edge.Edge.{Edge}
use Rattle.cq_match.specs.declared.settle.Offer.{Offer}
use Rattle.cq_match.specs.Graph.{leads_to}
use Rattle.cq_match.specs.Steps.Places.{number_at, posts_at, slots_at, IsRanked, AreSlots, IsOfferOf, AreOffersOf}
use Rattle.cq_match.specs.Steps.Settle.{feeds, is_into}
use Rattle.cq_match.proofs.Tests.{same_tests, and_left, and_right, both}
use Rattle.cq_match.proofs.Ranks.{Nodes, one-place}

-- the node that has the number is the one at its place
pub posts-of : (ranked : Nodes) → IsRanked ranked → (waiter post place : ℕ) → place < length ranked → number_at ranked place ≡ waiter → Any (λ (node : ℕ × ℕ × Bool). (node.0 ≡ waiter) × (post < node.1)) ranked → post < posts_at ranked place
posts-of ranked rising waiter post place low at (k, node, held, here, (is, has)) =
    let there : get_or ranked k (0, 0, false) ≡ node = get_or_default ranked k (0, 0, false) node held ∙ here in
    let number : number_at ranked k ≡ waiter = ap (λ (n : ℕ × ℕ × Bool). n.0) there ∙ is in
    let same = one-place ranked rising k place held low (number ∙ sym at) in
    let posts : posts_at ranked place ≡ node.1 = ap (posts_at ranked) (sym same) ∙ ap (λ (n : ℕ × ℕ × Bool). n.1) there in
    omega arith

-- a postcondition is one of its node's slots
pub within-slots : (ranked : Nodes) (place post : ℕ) → post < posts_at ranked place → post < slots_at ranked place
within-slots ranked place post low = omega arith

-- an offer leads to a slot exactly where its edge leads to the slot's postcondition
tied : (ranked : Nodes) (starts owners : List ℕ) → IsRanked ranked → AreSlots ranked starts owners → (edge : Edge) (offer : Offer) → IsOfferOf ranked starts edge offer
    → (place post : ℕ) → place < length ranked → post < slots_at ranked place
    → is_into (get_or starts place 0 + post) offer ≡ leads_to (number_at ranked place) post edge
tied ranked starts owners rising s edge offer l place post low has =
    same_tests (is_into (get_or starts place 0 + post) offer) (leads_to (number_at ranked place) post edge)
    (λ t.
    let slot : get_or starts l.waiter 0 + edge.post ≡ get_or starts place 0 + post = sym l.slot_is ∙ eqb-true offer.slot (get_or starts place 0 + post) t in
    let waiter : l.waiter ≡ place = sym (s.slot_owner l.waiter edge.post l.waiter_low (within-slots ranked l.waiter edge.post l.post_low)) ∙ ap (λ n. get_or owners n 0) slot ∙ s.slot_owner place post low has in
    let start : get_or starts l.waiter 0 ≡ get_or starts place 0 = ap (λ n. get_or starts n 0) waiter in
    let same_post : edge.post ≡ post = omega arith in
    both (eqb edge.waiter (number_at ranked place)) (eqb edge.post post)
    (eq-eqb edge.waiter (number_at ranked place) (sym l.waiter_is ∙ ap (number_at ranked) waiter)) (eq-eqb edge.post post same_post))
    (λ t.
    let number : edge.waiter ≡ number_at ranked place = eqb-true edge.waiter (number_at ranked place) (and_left (eqb edge.waiter (number_at ranked place)) (eqb edge.post post) t) in
    let same_post : edge.post ≡ post = eqb-true edge.post post (and_right (eqb edge.waiter (number_at ranked place)) (eqb edge.post post) t) in
    let waiter : l.waiter ≡ place = one-place ranked rising l.waiter place l.waiter_low low (l.waiter_is ∙ number) in
    let start : get_or starts l.waiter 0 ≡ get_or starts place 0 = ap (λ n. get_or starts n 0) waiter in
    let slot = l.slot_is in
    eq-eqb offer.slot (get_or starts place 0 + post) (omega arith))

pub offers-none : (ranked : Nodes) (starts : List ℕ) (slots : ℕ) → AreOffersOf ranked starts slots [] []
offers-none ranked starts slots = record {
  low = λ k d h. absurd (let none : k < 0 = h in omega arith);
  same = λ members place post low has. refl;
}

pub offers-more : (ranked : Nodes) (starts owners : List ℕ) → IsRanked ranked → AreSlots ranked starts owners
    → (edges : List Edge) (offers : List Offer) (i : ℕ) (d : Edge) (offer : Offer) → i < length edges → IsOfferOf ranked starts (get_or edges i d) offer
    → AreOffersOf ranked starts (length owners) (take i edges) offers → AreOffersOf ranked starts (length owners) (take (i + 1) edges) (offers ++ offer ∷ [])
offers-more ranked starts owners rising s edges offers i d offer inside l a =
    let edge = get_or edges i d in
    record {
      low = All-push (λ x. (x.provider < length ranked) × (x.slot < length owners)) offers offer a.low
          (l.provider_low, (let e = l.slot_is in let h = s.slot_low l.waiter edge.post l.waiter_low (within-slots ranked l.waiter edge.post l.post_low) in omega arith));
      same = λ members place post low has.
          let number = number_at ranked place in
          let from : ℕ → Bool = λ provider. is_member nat_eq members (number_at ranked provider) in
          let into = get_or starts place 0 + post in
          let supplies : Edge → Bool = λ e. leads_to number post e && is_member nat_eq members e.provider in
          let joined : list_any (feeds from into) (offers ++ offer ∷ []) ≡ (list_any (feeds from into) offers || (feeds from into offer || false)) = list_any-append (feeds from into) offers (offer ∷ []) in
          let more : list_any supplies (take (i + 1) edges) ≡ (list_any supplies (take i edges) || supplies edge) = list_any_more supplies edges i d inside in
          let before : list_any (feeds from into) offers ≡ list_any supplies (take i edges) = a.same members place post low has in
          let one : feeds from into offer ≡ supplies edge =
          ap (λ (b : Bool). b && from offer.provider) (tied ranked starts owners rising s edge offer l place post low has)
          ∙ ap (λ n. leads_to number post edge && is_member nat_eq members n) l.provider_is in
          joined ∙ ap (λ (b : Bool). list_any (feeds from into) offers || b) (or-false (feeds from into offer) ∙ one) ∙ ap (λ (b : Bool). b || supplies edge) before ∙ sym more;
    }

pub offers-moved : (ranked : Nodes) (starts : List ℕ) (slots : ℕ) (edges : List Edge) (offers moved : List Offer) → IsPermutation offers moved
    → AreOffersOf ranked starts slots edges offers → AreOffersOf ranked starts slots edges moved
offers-moved ranked starts slots edges offers moved p a = record {
  low = All-permutation (λ x. (x.provider < length ranked) × (x.slot < slots)) offers moved p a.low;
  same = λ members place post low has.
      sym (list_any-IsPermutation (feeds (λ provider. is_member nat_eq members (number_at ranked provider)) (get_or starts place 0 + post)) offers moved p) ∙ a.same members place post low has;
}
