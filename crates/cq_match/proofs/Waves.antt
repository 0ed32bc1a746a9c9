-- Rounds of falls, over places and slots.
use Rattle.std.proofs.Common.{◌≡◌, ℕ, zero, suc, ◌+◌, ◌-◌, ◌<◌, ◌≤◌, ◌↔◌, ◌⊎◌, inl, inr, Bool, true, false, not, ◌&&◌, ◌||◌, eqb, List, [], ◌∷◌, ◌++◌, length, get_or, map, filter, replicate, count_by, refl, sym, ap, ◌∙◌, subst, arith, nat_eq, ◌==◌, eq-eqb}
use Rattle.std.specs.List.{All, AllZip, Contains, list_any}
use Rattle.std.specs.List.Sorted.{IsStrictlyIncreasing}
use Rattle.std.specs.Set.{is_member}
use Rattle.std.proofs.lemmas.Bool.{eqb-true}
use Rattle.std.proofs.lemmas.Bool.Decides.{nat_tests}
use Rattle.std.proofs.lemmas.Cmp.{nat_eq_equiv}
use Rattle.std.proofs.lemmas.List.{get_or-map, get_or_default, get_or-replicate, length-map, map-append}
use Rattle.std.proofs.lemmas.List.Elements.{All-contains, Contains-get_or, All-from_get_or}
use Rattle.std.proofs.lemmas.List.Folds.{list_any-append}
use Rattle.std.proofs.lemmas.Map.Keys.{sorted_from_strictly_increasing}
use Rattle.std.proofs.lemmas.Map.Made.{is_member-filter}
use Rattle.cq_atom.specs.declared.edge.Edge.{Edge}
use Rattle.cq_match.specs.declared.falls.Fall.{Fall}
use Rattle.cq_match.specs.declared.falls.Reason.{Reason}
use Rattle.cq_match.specs.declared.falls.Reason.TheVariants.{NotAble, Unmet}
use Rattle.cq_match.specs.declared.settle.Offer.{Offer}
use Rattle.cq_match.specs.Falling.{is_unmet, IsFirstReason, fallen, FallsNext, IsRound, AreRounds, Start, Next, AreAllRounds}
use Rattle.cq_match.specs.Matched.{numbers, is_supplied}
use Rattle.cq_match.specs.Steps.Falls.{IsFallOf}
use Rattle.cq_match.specs.Steps.Places.{number_at, posts_at, able_at, slots_at, IsRanked, AreSlots, AreOffersOf}
use Rattle.cq_match.specs.Steps.Settle.{stands, is_into, feeds}
use Rattle.cq_match.proofs.Bridge.{here-Contains, later-Contains, none-Contains}
use Rattle.cq_match.proofs.Dropping.{IsUnfed, EachWaits}
use Rattle.cq_match.proofs.Felled.{Fell}
use Rattle.cq_match.proofs.Offered.{within-slots}
use Rattle.cq_match.proofs.Ranks.{Nodes, one-place}
use Rattle.cq_match.proofs.Reasons.{mapped-has, mapped-from, first-once, first-same, unmet-is}
use Rattle.cq_match.proofs.Settling.{count-some, count-none, feeds-more, settling-start}
use Rattle.cq_match.proofs.Standing.{number-known}
use Rattle.cq_match.proofs.Tests.{by_bool, same_tests}
use Rattle.cq_match.proofs.Union.{HasEnds, member-contained, contained-member, unable-slot, past-last}

-- What stays true of places and slots from round to round.
pub record Waving (ranked : Nodes) (owners : List ℕ) (offers : List Offer) (standing : List Bool) (counts waiting : List ℕ) : Type 0 where
  pub standing_len : length standing ≡ length ranked
  pub counts_len : length counts ≡ length owners
  pub counted : (slot : ℕ) → slot < length owners → get_or counts slot 0 ≡ count_by (feeds (stands standing) slot) offers
  pub due : All (IsUnfed owners counts) waiting
  pub empty : (slot : ℕ) → slot < length owners → get_or counts slot 0 ≡ 0 → (stands standing (get_or owners slot 0) ≡ false) ⊎ Contains waiting (get_or owners slot 0)

-- The rounds so far, and who has fallen in them.
pub record SoFar (ranked : Nodes) (edges : List Edge) (standing : List Bool) (falls : List Fall) : Type 0 where
  pub rounds : AreRounds ranked edges falls
  pub gone : (place : ℕ) → place < length ranked → is_member nat_eq (fallen falls) (number_at ranked place) ≡ not (stands standing place)

-- The places that fall next are those that wait and stand.
abbrev pub Keeps : List Bool → List ℕ → List ℕ → Type 0
Keeps standing waiting round = (place : ℕ) → Contains round place ↔ (Contains waiting place × (stands standing place ≡ true))

same-fall : (a b : Fall) → a.node ≡ b.node → a.reason ≡ b.reason → a ≡ b
same-fall a b e h =
    let node : a ≡ record { node = b.node; reason = a.reason } = ap (λ n. record { node = n; reason = a.reason }) e in
    node ∙ ap (λ r. record { node = b.node; reason = r }) h

-- the places of a round are due
pub round-due : (owners counts : List ℕ) (standing : List Bool) (waiting round : List ℕ) → Keeps standing waiting round → All (IsUnfed owners counts) waiting → All (IsUnfed owners counts) round
round-due owners counts standing waiting round keeps due k d low =
    All-contains (IsUnfed owners counts) waiting (get_or round k d) due ((keeps (get_or round k d)).0 (Contains-get_or round k d low)).0

module _ {X Y : Type 0} (R : X → Y → Type 0) where
  pub zip-left : (xs : List X) (ys : List Y) → AllZip R xs ys → (x : X) → Contains xs x → (y : Y) × Contains ys y × R x y
  zip-left [] ys h x c = absurd (none-Contains x c)
  zip-left (z ∷ xs) [] h x c = absurd h
  zip-left (z ∷ xs) (w ∷ ys) (first, rest) x (zero, low, at) = (w, here-Contains w ys, subst (λ v. R v w) at first)
  zip-left (z ∷ xs) (w ∷ ys) (first, rest) x (suc k, low, at) =
      let found = zip-left xs ys rest x (k, (let l : suc k < suc (length xs) = low in omega arith), at) in
      (found.0, later-Contains w found.0 ys found.1, found.2)

  pub zip-right : (xs : List X) (ys : List Y) → AllZip R xs ys → (y : Y) → Contains ys y → (x : X) × Contains xs x × R x y
  zip-right [] [] h y c = absurd (none-Contains y c)
  zip-right [] (w ∷ ys) h y c = absurd h
  zip-right (z ∷ xs) [] h y c = absurd h
  zip-right (z ∷ xs) (w ∷ ys) (first, rest) y (zero, low, at) = (z, here-Contains z xs, subst (R z) at first)
  zip-right (z ∷ xs) (w ∷ ys) (first, rest) y (suc k, low, at) =
      let found = zip-right xs ys rest y (k, (let l : suc k < suc (length ys) = low in omega arith), at) in
      (found.0, later-Contains z found.0 xs found.1, found.2)

module _ (ranked : Nodes) (starts owners : List ℕ) (offers : List Offer) (rising : IsRanked ranked) (s : AreSlots ranked starts owners) where
  -- a place that is due has its slots, one of them unfed
  pub due-low : (counts : List ℕ) (p : ℕ) → IsUnfed owners counts p → p < length ranked
  due-low counts p (slot, held, (none, owner)) = subst (λ n. n < length ranked) owner (s.owner_low slot held)

  pub due-within : (counts : List ℕ) (p : ℕ) → IsUnfed owners counts p → get_or starts p 0 + slots_at ranked p ≤ length owners
  due-within counts p (slot, held, (none, owner)) =
      let from : get_or starts p 0 ≤ slot = subst (λ n. get_or starts n 0 ≤ slot) owner (s.owned_from slot held) in
      let to : slot < get_or starts p 0 + slots_at ranked p = subst (λ n. slot < get_or starts n 0 + slots_at ranked n) owner (s.owned_to slot held) in
      let low = due-low counts p (slot, held, (none, owner)) in
      let most = s.slot_low p (slots_at ranked p - 1) low (omega arith) in
      omega arith

  pub due-empty : (counts : List ℕ) (p : ℕ) → IsUnfed owners counts p → (k : ℕ) × (k < slots_at ranked p) × (get_or counts (get_or starts p 0 + k) 0 ≡ 0)
  due-empty counts p (slot, held, (none, owner)) =
      let from : get_or starts p 0 ≤ slot = subst (λ n. get_or starts n 0 ≤ slot) owner (s.owned_from slot held) in
      let to : slot < get_or starts p 0 + slots_at ranked p = subst (λ n. slot < get_or starts n 0 + slots_at ranked n) owner (s.owned_to slot held) in
      let at : get_or starts p 0 + (slot - get_or starts p 0) ≡ slot = omega arith in
      (slot - get_or starts p 0, (let l : slot - get_or starts p 0 < slots_at ranked p = omega arith in l), ap (λ n. get_or counts n 0) at ∙ none)

  module _ (edges : List Edge) (ends : All (HasEnds ranked) edges) (l : AreOffersOf ranked starts (length owners) edges offers)
      (standing : List Bool) (counts waiting : List ℕ) (w : Waving ranked owners offers standing counts waiting) (falls : List Fall) (f : SoFar ranked edges standing falls) where
    abbrev gone : List ℕ
    gone = fallen falls

    abbrev up : ℕ → Bool
    up n = not (is_member nat_eq gone n)

    abbrev rest : List ℕ
    rest = filter up (numbers ranked)

    rest-known : (n : ℕ) → Contains (numbers ranked) n → is_member nat_eq rest n ≡ not (is_member nat_eq gone n)
    rest-known n h = is_member-filter nat_eq_equiv up n (λ x e. ap up (eqb-true n x e)) (numbers ranked) ∙ ap (λ (b : Bool). b && up n) (contained-member (numbers ranked) n h)

    rest-stands : (q : ℕ) → q < length ranked → is_member nat_eq rest (number_at ranked q) ≡ stands standing q
    rest-stands q low = rest-known (number_at ranked q) (number-known ranked q low) ∙ ap not (f.gone q low) ∙ twice (stands standing q)
      where
        twice : (b : Bool) → not (not b) ≡ b
        twice true = refl
        twice false = refl

    -- a slot is fed from places that stand where the others supply its postcondition
    fed-supplied : (p k : ℕ) → p < length ranked → k < slots_at ranked p → list_any (feeds (stands standing) (get_or starts p 0 + k)) offers ≡ is_supplied edges rest (number_at ranked p) k
    fed-supplied p k low within =
        let slot = get_or starts p 0 + k in
        let members : ℕ → Bool = λ q. is_member nat_eq rest (number_at ranked q) in
        let offered : All (λ o. o.provider < length ranked) offers = λ j d inside. (l.low j d inside).0 in
        same_tests (list_any (feeds (stands standing) slot) offers) (list_any (feeds members slot) offers)
        (λ t. feeds-more (length ranked) (stands standing) members slot (λ q inner e. rest-stands q inner ∙ e) offers offered t)
        (λ t. feeds-more (length ranked) members (stands standing) slot (λ q inner e. sym (rest-stands q inner) ∙ e) offers offered t) ∙ l.same rest p k low within

    none-fed : (slot : ℕ) → slot < length owners → (get_or counts slot 0 == 0) ≡ not (list_any (feeds (stands standing) slot) offers)
    none-fed slot held =
        let all = w.counted slot held in
        by_bool (list_any (feeds (stands standing) slot) offers) ((get_or counts slot 0 == 0) ≡ not (list_any (feeds (stands standing) slot) offers))
        (λ t. let some = count-some (feeds (stands standing) slot) offers t in rw t (some-not (get_or counts slot 0) (omega arith)))
        (λ n. let none = count-none (feeds (stands standing) slot) offers n in rw n (eq-eqb (get_or counts slot 0) 0 (all ∙ none)))
      where
        some-not : (n : ℕ) → 1 ≤ n → eqb n 0 ≡ false
        some-not n h = grind (arith, nat_tests)

    -- what the counts of a place's slots tell
    counts-tell : (p k : ℕ) → p < length ranked → k < posts_at ranked p → (get_or counts (get_or starts p 0 + k) 0 == 0) ≡ is_unmet edges gone (number_at ranked p) k
    counts-tell p k low inside =
        let within = within-slots ranked p k inside in
        none-fed (get_or starts p 0 + k) (s.slot_low p k low within) ∙ ap not (fed-supplied p k low within)
        ∙ sym (unmet-is (Contains (numbers ranked)) edges gone rest (number_at ranked p) k (λ j d low'. (ends j d low').0) rest-known)

    -- a place that stands and has a reason waits
    empty-waits : (p k : ℕ) → p < length ranked → k < slots_at ranked p → stands standing p ≡ true → get_or counts (get_or starts p 0 + k) 0 ≡ 0 → Contains waiting p
    empty-waits p k low within stand none =
        let slot = get_or starts p 0 + k in
        let owner = s.slot_owner p k low within in
        elim (w.empty slot (s.slot_low p k low within) none) [
          | inl down ↦ absurd (let never : false ≡ true = sym down ∙ ap (stands standing) owner ∙ stand in cc)
          | inr waits ↦ subst (Contains waiting) owner waits
        ]

    reason-waits : (p : ℕ) (r : Reason) → p < length ranked → stands standing p ≡ true → IsFirstReason (is_unmet edges gone (number_at ranked p)) (get_or ranked p (0, 0, false)) r → Contains waiting p
    reason-waits p NotAble low stand down =
        let k = posts_at ranked p in
        let within = unable-slot (able_at ranked p) k down in
        let held = s.slot_low p k low within in
        let unfed : list_any (feeds (stands standing) (get_or starts p 0 + k)) offers ≡ false =
        by_bool (is_supplied edges rest (number_at ranked p) k) (list_any (feeds (stands standing) (get_or starts p 0 + k)) offers ≡ false)
        (λ t. absurd (past-last ranked edges rest p rising ends low t))
        (λ n. fed-supplied p k low within ∙ n) in
        empty-waits p k low within stand (w.counted (get_or starts p 0 + k) held ∙ count-none (feeds (stands standing) (get_or starts p 0 + k)) offers unfed)
    reason-waits p (Unmet k) low stand (able, inside, e, lower) =
        let within = within-slots ranked p k inside in
        empty-waits p k low within stand (eqb-true (get_or counts (get_or starts p 0 + k) 0) 0 (counts-tell p k low inside ∙ e))

    module _ (round : List ℕ) (grows : IsStrictlyIncreasing round) (keeps : Keeps standing waiting round) (added : List Fall) (are : AllZip (IsFallOf ranked starts counts) round added) where
      round-low : (p : ℕ) → Contains round p → p < length ranked
      round-low p h = due-low counts p (All-contains (IsUnfed owners counts) waiting p w.due ((keeps p).0 h).0)

      -- the reason reported of a place is its first
      told-first : (p : ℕ) (r : Reason) → p < length ranked → IsFirstReason (λ k. get_or counts (get_or starts p 0 + k) 0 == 0) (get_or ranked p (0, 0, false)) r → IsFirstReason (is_unmet edges gone (number_at ranked p)) (get_or ranked p (0, 0, false)) r
      told-first p r low h = first-same (λ k. get_or counts (get_or starts p 0 + k) 0 == 0) (is_unmet edges gone (number_at ranked p)) (get_or ranked p (0, 0, false)) r (λ k inside. counts-tell p k low inside) h

      added-next : (fall : Fall) → Contains added fall → FallsNext ranked edges gone fall
      added-next fall h =
          let found = zip-right (IsFallOf ranked starts counts) round added are fall h in
          let p = found.0 in
          let low = round-low p found.1 in
          let node = get_or ranked p (0, 0, false) in
          let stand = ((keeps p).0 found.1).1 in
          ((p, node, low, get_or_default ranked p node (0, 0, false) low, (sym found.2.0, told-first p fall.reason low found.2.1)), ap (is_member nat_eq gone) found.2.0 ∙ f.gone p low ∙ ap not stand)

      next-added : (fall : Fall) → FallsNext ranked edges gone fall → Contains added fall
      next-added fall ((p, node, low, at, (is, first)), out) =
          let here : get_or ranked p (0, 0, false) ≡ node = get_or_default ranked p (0, 0, false) node low ∙ at in
          let number : number_at ranked p ≡ fall.node = ap (λ (x : ℕ × ℕ × Bool). x.0) here ∙ is in
          let stand : stands standing p ≡ true = down-up (stands standing p) (sym (f.gone p low) ∙ ap (is_member nat_eq gone) number ∙ out) in
          let first' : IsFirstReason (is_unmet edges gone (number_at ranked p)) (get_or ranked p (0, 0, false)) fall.reason =
          subst (λ (x : ℕ × ℕ × Bool). IsFirstReason (is_unmet edges gone x.0) x fall.reason) (sym here) first in
          let waits = reason-waits p fall.reason low stand first' in
          let found = zip-left (IsFallOf ranked starts counts) round added are p ((keeps p).1 (waits, stand)) in
          let same = first-once (is_unmet edges gone (number_at ranked p)) (get_or ranked p (0, 0, false)) found.0.reason fall.reason (told-first p found.0.reason low found.2.1) first' in
          subst (Contains added) (same-fall found.0 fall (found.2.0 ∙ number) same) found.1
        where
          down-up : (b : Bool) → not b ≡ false → b ≡ true
          down-up true e = refl
          down-up false e = absurd (let never : true ≡ false = e in cc)

      added-numbers : fallen added ≡ map (number_at ranked) round
      added-numbers = go round added are
        where
          go : (round : List ℕ) (added : List Fall) → AllZip (IsFallOf ranked starts counts) round added → fallen added ≡ map (number_at ranked) round
          go [] [] h = refl
          go [] (y ∷ ys) h = absurd h
          go (x ∷ xs) [] h = absurd h
          go (x ∷ xs) (y ∷ ys) (first, rest) = let here = first.0 in let later = go xs ys rest in cc

      numbers-rise : IsStrictlyIncreasing (map (number_at ranked) round)
      numbers-rise k low =
          let len = length-map round (number_at ranked) in
          let inside : k + 1 < length round = omega arith in
          let here = get_or-map (number_at ranked) round k 0 0 (omega arith) in
          let next = get_or-map (number_at ranked) round (k + 1) 0 0 inside in
          let less = rising (get_or round k 0) (get_or round (k + 1) 0) (grows k inside) (round-low (get_or round (k + 1) 0) (Contains-get_or round (k + 1) 0 inside)) in
          rw (here, next) less

      -- What is reported about the places of a round is a round.
      pub is-round : IsRound ranked edges gone added
      is-round = record {
        each = λ fall. (added-next fall, next-added fall);
        rising = rw added-numbers (sorted_from_strictly_increasing (map (number_at ranked) round) numbers-rise);
      }

      round-member : (p : ℕ) → p < length ranked → is_member nat_eq (map (number_at ranked) round) (number_at ranked p) ≡ is_member nat_eq round p
      round-member p low =
          same_tests (is_member nat_eq (map (number_at ranked) round) (number_at ranked p)) (is_member nat_eq round p)
          (λ t.
          let found = mapped-from (number_at ranked) round (number_at ranked p) (member-contained (map (number_at ranked) round) (number_at ranked p) t) in
          contained-member round p (subst (Contains round) (one-place ranked rising found.0 p (round-low found.0 found.1) low found.2) found.1))
          (λ t. contained-member (map (number_at ranked) round) (number_at ranked p) (mapped-has (number_at ranked) round p (member-contained round p t)))

      pub so-far-next : (standing' : List Bool) → Fell standing standing' round → SoFar ranked edges standing' (falls ++ added)
      so-far-next standing' fell = record {
        rounds = Next falls added f.rounds is-round;
        gone = λ p low.
            let n = number_at ranked p in
            let split : fallen (falls ++ added) ≡ gone ++ map (number_at ranked) round = map-append (λ (x : Fall). x.node) falls added ∙ ap (λ (xs : List ℕ). gone ++ xs) added-numbers in
            ap (λ (xs : List ℕ). is_member nat_eq xs n) split ∙ list_any-append (eqb n) gone (map (number_at ranked) round)
            ∙ ap (λ (b : Bool). is_member nat_eq gone n || b) (round-member p low) ∙ ap (λ (b : Bool). b || is_member nat_eq round p) (f.gone p low)
            ∙ either (stands standing p) (is_member nat_eq round p) ∙ ap not (sym (fell p));
      }
        where
          either : (a b : Bool) → (not a || b) ≡ not (a && not b)
          either true true = refl
          either true false = refl
          either false b = refl

    -- where none waits all have fallen that fall
    pub all-rounds : length waiting ≡ 0 → AreAllRounds ranked edges falls
    all-rounds none = record {
      rounds = f.rounds;
      last = is-round [] (λ k low. absurd (let l : k + 1 < 0 = low in omega arith))
          (λ p. (λ h. absurd (none-Contains p h), λ h. absurd (let inside : h.0.0 < length waiting = h.0.1 in omega arith))) [] tt;
    }

  pub waving-start : (counts waiting : List ℕ) → All (λ o. (o.provider < length ranked) × (o.slot < length owners)) offers → length counts ≡ length owners
      → ((slot : ℕ) → slot < length owners → get_or counts slot 0 ≡ count_by (is_into slot) offers)
      → ((slot : ℕ) → slot < length owners → get_or counts slot 0 ≡ 0 → Contains waiting (get_or owners slot 0))
      → All (IsUnfed owners counts) waiting
      → Waving ranked owners offers (replicate (length ranked) true) counts waiting
  waving-start counts waiting low len counted each only =
      let owned : All (λ p. p < length ranked) owners = All-from_get_or (λ p. p < length ranked) owners 0 s.owner_low in
      let settling = settling-start (length ranked) owners offers counts waiting owned (λ j d inside. (low j d inside).0) len counted each only in
      record {
        standing_len = settling.standing_len;
        counts_len = len;
        counted = settling.counted;
        due = only;
        empty = settling.empty;
      }

  pub waving-next : (standing standing' : List Bool) (counts counts' waiting waiting' round : List ℕ) → Waving ranked owners offers standing counts waiting → Keeps standing waiting round → Fell standing standing' round
      → length standing' ≡ length standing → length counts' ≡ length counts
      → ((slot : ℕ) → slot < length owners → get_or counts' slot 0 ≡ count_by (feeds (stands standing') slot) offers)
      → EachWaits owners counts counts' waiting' → All (IsUnfed owners counts') waiting'
      → Waving ranked owners offers standing' counts' waiting'
  waving-next standing standing' counts counts' waiting waiting' round w keeps fell same_len same_counts counted each only = record {
    standing_len = same_len ∙ w.standing_len;
    counts_len = same_counts ∙ w.counts_len;
    counted = counted;
    due = only;
    empty = λ slot held none.
        let p = get_or owners slot 0 in
        elim (each slot held none) [
          | inl before ↦ inl (fell p ∙ by_bool (stands standing p) ((stands standing p && not (is_member nat_eq round p)) ≡ false)
              (λ t.
              elim (w.empty slot held before) [
                | inl down ↦ absurd (let never : false ≡ true = sym down ∙ t in cc)
                | inr waits ↦ rw (t, contained-member round p ((keeps p).1 (waits, t))) refl
              ])
              (λ n. rw n refl))
          | inr waits ↦ inr waits
        ];
  }

pub so-far-start : (ranked : Nodes) (edges : List Edge) → SoFar ranked edges (replicate (length ranked) true) []
so-far-start ranked edges = record {
  rounds = Start;
  gone = λ p low. sym (ap not (get_or-replicate (length ranked) p true false low));
}
