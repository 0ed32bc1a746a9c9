-- What stays true while places fall.
use Rattle.std.proofs.Common.{◌≡◌, ℕ, zero, suc, ◌+◌, ◌<◌, ◌≤◌, ◌≢◌, ◌⊎◌, inl, inr, Bool, true, false, cond, ◌&&◌, eqb, List, [], ◌∷◌, ◌++◌, length, get_or, set, take, drop, filter, replicate, count_by, refl, sym, ap, ◌∙◌, subst, arith, eq-eqb}
use Rattle.std.specs.List.{All, Contains, list_any}
use Rattle.std.proofs.Math.Bool.{and-true}
use Rattle.std.proofs.lemmas.Bool.{eqb-true}
use Rattle.std.proofs.lemmas.List.{take_at, get_or-set_other, get_or-replicate, get_or_append_left, length-append, length-replicate, length-set}
use Rattle.std.proofs.lemmas.List.Elements.{All-head, All-tail, All-contains, Contains-push, Contains-push_cases}
use Rattle.std.proofs.lemmas.List.Sums.{sum_by-cons}
use Rattle.cq_match.specs.declared.settle.Offer.{Offer}
use Rattle.cq_match.specs.Steps.Settle.{stands, is_into, feeds, FeedsItself}
use Rattle.cq_match.proofs.Tests.{by_bool, and_left, and_right, both}
use Rattle.cq_match.proofs.Dropping.{EachWaits, IsDue, IsUnfed}

All-front : (P : ℕ → Type 0) (xs ys : List ℕ) → All P (xs ++ ys) → All P xs
All-front P xs ys h j d low =
    let both_lengths = length-append xs ys in
    subst P (get_or_append_left xs ys d j low) (h j d (omega arith))

-- ---- counts and tests

abbrev pub one_if : Bool → ℕ
one_if b = cond b 1 0

count-cons : (p : Offer → Bool) (l : Offer) (offers : List Offer) → count_by p (l ∷ offers) ≡ one_if (p l) + count_by p offers
count-cons p l offers = sum_by-cons (λ x. cond (p x) 1 0) l offers

pub count-some : (p : Offer → Bool) (offers : List Offer) → list_any p offers ≡ true → 1 ≤ count_by p offers
count-some p [] e = absurd (let never : false ≡ true = e in cc)
count-some p (l ∷ offers) e =
    by_bool (p l) (1 ≤ count_by p (l ∷ offers))
    (λ t. let one : one_if (p l) ≡ 1 = rw t refl in let all = count-cons p l offers in omega arith)
    (λ f.
    let later : list_any p offers ≡ true = rw f at e in
    let more = count-some p offers later in let all = count-cons p l offers in omega arith)

pub count-none : (p : Offer → Bool) (offers : List Offer) → list_any p offers ≡ false → count_by p offers ≡ 0
count-none p [] e = refl
count-none p (l ∷ offers) e =
    by_bool (p l) (count_by p (l ∷ offers) ≡ 0)
    (λ t. absurd (let never : true ≡ false = rw t at e in cc))
    (λ f.
    let later : list_any p offers ≡ false = rw f at e in
    let none : one_if (p l) ≡ 0 = rw f refl in
    let more = count-none p offers later in let all = count-cons p l offers in omega arith)

count-same : (p q : Offer → Bool) (offers : List Offer) → All (λ l. p l ≡ q l) offers → count_by p offers ≡ count_by q offers
count-same p q [] h = refl
count-same p q (l ∷ offers) h =
    let first : p l ≡ q l = All-head (λ x. p x ≡ q x) l offers h in
    let rest = count-same p q offers (All-tail (λ x. p x ≡ q x) l offers h) in
    let one : one_if (p l) ≡ one_if (q l) = ap one_if first in
    let here = count-cons p l offers in let there = count-cons q l offers in
    omega arith

-- a larger set feeds whatever a smaller one feeds
pub feeds-more : (low : ℕ) (smaller larger : ℕ → Bool) (slot : ℕ) → ((p : ℕ) → p < low → smaller p ≡ true → larger p ≡ true) → (offers : List Offer) → All (λ l. l.provider < low) offers
    → list_any (feeds smaller slot) offers ≡ true → list_any (feeds larger slot) offers ≡ true
feeds-more low smaller larger slot more [] h e = e
feeds-more low smaller larger slot more (l ∷ offers) h e =
    by_bool (feeds smaller slot l) (list_any (feeds larger slot) (l ∷ offers) ≡ true)
    (λ t.
    let into = and_left (is_into slot l) (smaller l.provider) t in
    let from = more l.provider (All-head (λ x. x.provider < low) l offers h) (and_right (is_into slot l) (smaller l.provider) t) in
    let here : feeds larger slot l ≡ true = both (is_into slot l) (larger l.provider) into from in
    rw here refl)
    (λ f.
    let later : list_any (feeds smaller slot) offers ≡ true = rw f at e in
    let rest = feeds-more low smaller larger slot more offers (All-tail (λ x. x.provider < low) l offers h) later in
    by_bool (feeds larger slot l) (list_any (feeds larger slot) (l ∷ offers) ≡ true) (λ t. rw t refl) (λ n. rw n rest))

-- ---- a place that falls

pub falls-itself : (standing : List Bool) (place : ℕ) → stands (set standing place false) place ≡ false
falls-itself [] place = refl
falls-itself (b ∷ bs) zero = refl
falls-itself (b ∷ bs) (suc n) = falls-itself bs n

falls-only : (standing : List Bool) (place p : ℕ) → stands standing p ≡ false → stands (set standing place false) p ≡ false
falls-only standing place p e =
    by_bool (eqb p place) (stands (set standing place false) p ≡ false)
    (λ t. ap (stands (set standing place false)) (eqb-true p place t) ∙ falls-itself standing place)
    (λ f. let apart : p ≢ place = λ s. let never : false ≡ true = sym f ∙ eq-eqb p place s in cc in get_or-set_other standing place p false false apart ∙ e)

-- what is counted of an offer before the fall is what is counted after it, or the offer is dropped
one-split : (into before after here : Bool) → (here ≡ true → before ≡ true) → (here ≡ true → after ≡ false) → (here ≡ false → before ≡ after)
    → one_if (into && before) ≡ one_if (into && after) + cond here (one_if into) 0
one-split false before after true p q r = refl
one-split false before after false p q r = refl
one-split true before after true p q r = rw (p refl, q refl) refl
one-split true before after false p q r = rw (r refl) (let same : one_if after ≡ one_if after + 0 = omega arith in same)

filter-count : (into here : Offer → Bool) (l : Offer) (offers : List Offer) → count_by into (filter here (l ∷ offers)) ≡ cond (here l) (one_if (into l)) 0 + count_by into (filter here offers)
filter-count into here l offers =
    by_bool (here l) (count_by into (filter here (l ∷ offers)) ≡ cond (here l) (one_if (into l)) 0 + count_by into (filter here offers))
    (λ t. rw t (count-cons into l (filter here offers)))
    (λ f. rw f (let same : count_by into (filter here offers) ≡ 0 + count_by into (filter here offers) = omega arith in same))

pub count-split : (standing : List Bool) (place slot : ℕ) → stands standing place ≡ true → (offers : List Offer)
    → count_by (feeds (stands standing) slot) offers ≡ count_by (feeds (stands (set standing place false)) slot) offers + count_by (is_into slot) (filter (λ l. eqb l.provider place) offers)
count-split standing place slot up [] = refl
count-split standing place slot up (l ∷ offers) =
    let p = l.provider in
    let after = set standing place false in
    let same : eqb p place ≡ true → stands standing p ≡ true = λ t. ap (stands standing) (eqb-true p place t) ∙ up in
    let down : eqb p place ≡ true → stands after p ≡ false = λ t. ap (stands after) (eqb-true p place t) ∙ falls-itself standing place in
    let other : eqb p place ≡ false → stands standing p ≡ stands after p = λ f.
    let apart : p ≢ place = λ s. let never : false ≡ true = sym f ∙ eq-eqb p place s in cc in
    sym (get_or-set_other standing place p false false apart) in
    let one = one-split (is_into slot l) (stands standing p) (stands after p) (eqb p place) same down other in
    let rest = count-split standing place slot up offers in
    let before = count-cons (feeds (stands standing) slot) l offers in
    let now = count-cons (feeds (stands after) slot) l offers in
    let dropped = filter-count (is_into slot) (λ x. eqb x.provider place) l offers in
    omega arith

-- ---- the loop

pub record Settling (places : ℕ) (owners : List ℕ) (offers : List Offer) (standing : List Bool) (counts waiting : List ℕ) : Type 0 where
  pub standing_len : length standing ≡ places
  pub counts_len : length counts ≡ length owners
  pub counted : (slot : ℕ) → slot < length owners → get_or counts slot 0 ≡ count_by (feeds (stands standing) slot) offers
  pub placed : All (λ place. place < places) waiting
  pub empty : (slot : ℕ) → slot < length owners → get_or counts slot 0 ≡ 0 → (stands standing (get_or owners slot 0) ≡ false) ⊎ Contains waiting (get_or owners slot 0)
  pub stays : (members : ℕ → Bool) → FeedsItself owners offers members → (p : ℕ) → p < places → members p ≡ true → stands standing p ≡ true
  pub doomed : (members : ℕ → Bool) → FeedsItself owners offers members → All (λ p. members p ≡ false) waiting

-- a place without an offer into one of its slots is in no set that feeds itself
no-member : (places : ℕ) (owners : List ℕ) (offers : List Offer) (standing : List Bool) (members : ℕ → Bool) (slot : ℕ)
    → All (λ l. l.provider < places) offers → FeedsItself owners offers members → ((p : ℕ) → p < places → members p ≡ true → stands standing p ≡ true)
    → slot < length owners → count_by (feeds (stands standing) slot) offers ≡ 0 → members (get_or owners slot 0) ≡ false
no-member places owners offers standing members slot low itself stays held none =
    by_bool (members (get_or owners slot 0)) (members (get_or owners slot 0) ≡ false)
    (λ t.
    let fed = feeds-more places members (stands standing) slot stays offers low (itself.fed slot held t) in
    let some = count-some (feeds (stands standing) slot) offers fed in
    absurd (omega arith))
    (λ f. f)

pub settling-start : (places : ℕ) (owners : List ℕ) (offers : List Offer) (counts waiting : List ℕ)
    → All (λ place. place < places) owners → All (λ l. l.provider < places) offers → length counts ≡ length owners
    → ((slot : ℕ) → slot < length owners → get_or counts slot 0 ≡ count_by (is_into slot) offers)
    → ((slot : ℕ) → slot < length owners → get_or counts slot 0 ≡ 0 → Contains waiting (get_or owners slot 0))
    → All (IsUnfed owners counts) waiting
    → Settling places owners offers (replicate places true) counts waiting
settling-start places owners offers counts waiting owned low len counted each only =
    let up : (p : ℕ) → p < places → stands (replicate places true) p ≡ true = λ p h. get_or-replicate places p true false h in
    let count : (slot : ℕ) → slot < length owners → get_or counts slot 0 ≡ count_by (feeds (stands (replicate places true)) slot) offers = λ slot h.
    counted slot h ∙ count-same (is_into slot) (feeds (stands (replicate places true)) slot) offers (λ j d inside. sym (ap (λ (b : Bool). is_into slot (get_or offers j d) && b) (up (get_or offers j d).provider (low j d inside)) ∙ and-true (is_into slot (get_or offers j d)))) in
    let stay : (members : ℕ → Bool) → FeedsItself owners offers members → (p : ℕ) → p < places → members p ≡ true → stands (replicate places true) p ≡ true = λ members itself p h t. up p h in
    record {
      standing_len = length-replicate places true;
      counts_len = len;
      counted = count;
      placed = λ j d inside. let o = only j d inside in subst (λ (n : ℕ). n < places) o.2.1 (owned o.0 0 o.1);
      empty = λ slot h zero. inr (each slot h zero);
      stays = stay;
      doomed = λ members itself j d inside.
          let o = only j d inside in
          subst (λ (n : ℕ). members n ≡ false) o.2.1 (no-member places owners offers (replicate places true) members o.0 low itself (stay members itself) o.1 (sym (count o.0 o.1) ∙ o.2.0));
    }

pub settling-skip : (places : ℕ) (owners : List ℕ) (offers : List Offer) (standing : List Bool) (counts waiting rest : List ℕ) (place : ℕ)
    → Settling places owners offers standing counts waiting → waiting ≡ rest ++ place ∷ [] → stands standing place ≡ false
    → Settling places owners offers standing counts rest
settling-skip places owners offers standing counts waiting rest place s at down =
    let within : (P : ℕ → Type 0) → All P waiting → All P rest = λ P h. All-front P rest (place ∷ []) (subst (All P) at h) in
    record {
      standing_len = s.standing_len;
      counts_len = s.counts_len;
      counted = s.counted;
      placed = within (λ p. p < places) s.placed;
      empty = λ slot h zero. elim (s.empty slot h zero) [
        | inl e ↦ inl e
        | inr w ↦ elim (Contains-push_cases rest place (get_or owners slot 0) (subst (λ (l : List ℕ). Contains l (get_or owners slot 0)) at w)) [
          | inl r ↦ inr r
          | inr e ↦ inl (ap (stands standing) (sym e) ∙ down)
        ]
      ];
      stays = s.stays;
      doomed = λ members itself. within (λ p. members p ≡ false) (s.doomed members itself);
    }

pub settling-fall : (places : ℕ) (owners : List ℕ) (offers : List Offer) (standing : List Bool) (counts waiting rest counts' waiting' : List ℕ) (place : ℕ)
    → All (λ p. p < places) owners → All (λ l. l.provider < places) offers
    → Settling places owners offers standing counts waiting → waiting ≡ rest ++ place ∷ [] → stands standing place ≡ true
    → length counts' ≡ length counts
    → ((slot : ℕ) → get_or counts' slot 0 + count_by (is_into slot) (filter (λ l. eqb l.provider place) offers) ≡ get_or counts slot 0)
    → EachWaits owners counts counts' waiting'
    → ((p : ℕ) → Contains rest p → Contains waiting' p)
    → All (IsDue owners rest counts') waiting'
    → Settling places owners offers (set standing place false) counts' waiting'
settling-fall places owners offers standing counts waiting rest counts' waiting' place owned low s at up len lowered each kept only =
    let after = set standing place false in
    let within : (P : ℕ → Type 0) → All P waiting → All P rest = λ P h. All-front P rest (place ∷ []) (subst (All P) at h) in
    let count : (slot : ℕ) → slot < length owners → get_or counts' slot 0 ≡ count_by (feeds (stands after) slot) offers = λ slot h.
    let before = s.counted slot h in
    let parts = count-split standing place slot up offers in
    let now = lowered slot in
    omega arith in
    let stay : (members : ℕ → Bool) → FeedsItself owners offers members → (p : ℕ) → p < places → members p ≡ true → stands after p ≡ true = λ members itself p h t.
    let apart : p ≢ place = λ e.
    let waits : Contains waiting place = subst (λ (l : List ℕ). Contains l place) (sym at) (Contains-push rest place) in
    let never : false ≡ true = sym (All-contains (λ q. members q ≡ false) waiting place (s.doomed members itself) waits) ∙ ap members (sym e) ∙ t in
    cc in
    get_or-set_other standing place p false false apart ∙ s.stays members itself p h t in
    record {
      standing_len = length-set standing place false ∙ s.standing_len;
      counts_len = len ∙ s.counts_len;
      counted = count;
      placed = λ j d inside. elim (only j d inside) [
        | inl w ↦ All-contains (λ p. p < places) rest (get_or waiting' j d) (within (λ p. p < places) s.placed) w
        | inr o ↦ subst (λ (n : ℕ). n < places) o.2.1 (owned o.0 0 o.1)
      ];
      empty = λ slot h zero. elim (each slot h zero) [
        | inl e ↦ elim (s.empty slot h e) [
          | inl f ↦ inl (falls-only standing place (get_or owners slot 0) f)
          | inr w ↦ elim (Contains-push_cases rest place (get_or owners slot 0) (subst (λ (l : List ℕ). Contains l (get_or owners slot 0)) at w)) [
            | inl r ↦ inr (kept (get_or owners slot 0) r)
            | inr e ↦ inl (ap (stands after) (sym e) ∙ falls-itself standing place)
          ]
        ]
        | inr w ↦ inr w
      ];
      stays = stay;
      doomed = λ members itself j d inside. elim (only j d inside) [
        | inl w ↦ All-contains (λ p. members p ≡ false) rest (get_or waiting' j d) (within (λ p. members p ≡ false) (s.doomed members itself)) w
        | inr o ↦ subst (λ (n : ℕ). members n ≡ false) o.2.1 (no-member places owners offers after members o.0 low itself (stay members itself) o.1 (sym (count o.0 o.1) ∙ o.2.0))
      ];
    }

pub settled-itself : (places : ℕ) (owners : List ℕ) (offers : List Offer) (standing : List Bool) (counts waiting : List ℕ)
    → Settling places owners offers standing counts waiting → length waiting ≡ 0 → FeedsItself owners offers (stands standing)
settled-itself places owners offers standing counts waiting s none = record {
  fed = λ slot held up.
      by_bool (list_any (feeds (stands standing) slot) offers) (list_any (feeds (stands standing) slot) offers ≡ true)
      (λ t. t)
      (λ f.
      let zero = s.counted slot held ∙ count-none (feeds (stands standing) slot) offers f in
      elim (s.empty slot held zero) [
        | inl e ↦ absurd (let never : false ≡ true = sym e ∙ up in cc)
        | inr w ↦ absurd (let inside = w.1 in omega arith)
      ]);
}

-- ---- what the dropping of offers asks

-- the offers of a place that stands are counted
pub dropped-counted : (places : ℕ) (owners : List ℕ) (offers : List Offer) (standing : List Bool) (counts waiting : List ℕ) (place : ℕ)
    → Settling places owners offers standing counts waiting → stands standing place ≡ true
    → (slot : ℕ) → slot < length owners → count_by (is_into slot) (filter (λ l. eqb l.provider place) offers) ≤ get_or counts slot 0
dropped-counted places owners offers standing counts waiting place s up slot held =
    let before = s.counted slot held in
    let parts = count-split standing place slot up offers in
    omega arith

pub written-back : {X : Type 0} (counts counts' : List X) (n : ℕ) → length counts' ≡ n → take n (counts' ++ drop (length counts') counts) ≡ counts'
written-back counts counts' n len = take_at counts' (drop (length counts') counts) n len
