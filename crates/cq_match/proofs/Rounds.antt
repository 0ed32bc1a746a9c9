-- What all rounds of falls have: a falling list, each node once, and all that are not matched.
use Rattle.std.proofs.Common.{◌≡◌, ℕ, ◌<◌, ◌↔◌, Bool, true, false, not, ◌&&◌, ◌||◌, List, [], ◌∷◌, ◌++◌, get_or, filter, refl, sym, ap, ◌∙◌, subst, arith, nat_eq, eqb, eq-eqb, append_assoc, Result, Ok, Err, IfOk}
use Rattle.std.specs.List.{All, Any, Contains, IsDistinct}
use Rattle.std.specs.List.Sorted.{IsPermutation}
use Rattle.std.specs.Set.{is_member}
use Rattle.std.proofs.lemmas.Bool.{eqb-true}
use Rattle.std.proofs.lemmas.Bool.Decides.{Decides-eqb}
use Rattle.std.proofs.lemmas.Cmp.{nat_eq_equiv}
use Rattle.std.proofs.lemmas.List.{append-nil, map-append}
use Rattle.std.proofs.lemmas.List.Elements.{All-head, All-tail, All-append, All-from_recursion, recursion_from_All, Contains-get_or}
use Rattle.std.proofs.lemmas.List.Folds.{list_any-append}
use Rattle.std.proofs.lemmas.List.Kept.{AllPairs-from_increasing}
use Rattle.std.proofs.lemmas.List.Sorted.{Contains-permutation, IsPermutation-sym}
use Rattle.std.proofs.lemmas.List.Sums.{list_all-from_AllPass}
use Rattle.std.proofs.lemmas.Map.Keys.{IsDistinct-cons, IsDistinct-head, IsDistinct-tail, IsStrictlyIncreasing-from_sorted}
use Rattle.std.proofs.lemmas.Map.Made.{is_member-filter, IsDistinct-from_AllPairs}
use Rattle.cq_atom.specs.declared.edge.Edge.{Edge}
use Rattle.cq_match.specs.declared.falls.Fall.{Fall}
use Rattle.cq_match.specs.declared.falls.Reason.{Reason}
use Rattle.cq_match.specs.declared.falls.Reason.TheVariants.{NotAble}
use Rattle.cq_match.specs.Matched.{numbers, is_supplied, has_each_post, is_closed, is_matched}
use Rattle.cq_match.specs.Falling.{is_unmet, IsFirstReason, fallen, IsFallingAfter, IsFalling, IsUnmatched, FallsNext, IsRound, AreRounds, Start, Next, AreAllRounds}
use Rattle.cq_match.proofs.Bridge.{none-Contains, listed-number}
use Rattle.cq_match.proofs.Ranks.{Nodes}
use Rattle.cq_match.proofs.Reasons.{mapped-from, first-has, has-more, first-unmet, unmet-more, unmet-is, falling-unmatched}
use Rattle.cq_match.proofs.Tests.{by_bool, both}
use Rattle.cq_match.proofs.Union.{HasEnds, member-contained, contained-member, each-post, part-found}

module _ (nodes : Nodes) (edges : List Edge) where
  -- ---- all rounds are a falling list

  pub falling-append : (gone : List ℕ) (falls more : List Fall) → IsFallingAfter nodes edges gone falls → IsFallingAfter nodes edges (gone ++ fallen falls) more → IsFallingAfter nodes edges gone (falls ++ more)
  falling-append gone [] more h later = subst (λ (l : List ℕ). IsFallingAfter nodes edges l more) (append-nil gone) later
  falling-append gone (fall ∷ falls) more (some, rest) later =
      (some, falling-append (gone ++ fall.node ∷ []) falls more rest (subst (λ (l : List ℕ). IsFallingAfter nodes edges l more) (sym (append_assoc gone (fall.node ∷ []) (fallen falls))) later))

  round-falling : (gone more : List ℕ) (round : List Fall) → ((n : ℕ) → is_member nat_eq gone n ≡ true → is_member nat_eq more n ≡ true) → All (FallsNext nodes edges gone) round → IsFallingAfter nodes edges more round
  round-falling gone more [] within h = tt
  round-falling gone more (fall ∷ round) within h =
      let next = All-head (FallsNext nodes edges gone) fall round h in
      let some = next.0 in
      let node = some.1 in
      let has = has-more (is_unmet edges gone node.0) (is_unmet edges more node.0) node fall.reason (λ k e. unmet-more edges gone more node.0 k within e) (first-has (is_unmet edges gone node.0) node fall.reason some.4.1) in
      let wider : (n : ℕ) → is_member nat_eq gone n ≡ true → is_member nat_eq (more ++ fall.node ∷ []) n ≡ true = λ n e.
      list_any-append (eqb n) more (fall.node ∷ []) ∙ ap (λ (b : Bool). b || is_member nat_eq (fall.node ∷ []) n) (within n e) in
      ((some.0, some.1, some.2, some.3, (some.4.0, has)), round-falling gone (more ++ fall.node ∷ []) round wider (All-tail (FallsNext nodes edges gone) fall round h))

  each-next : (gone : List ℕ) (round : List Fall) → IsRound nodes edges gone round → All (FallsNext nodes edges gone) round
  each-next gone round r k d low = (r.each (get_or round k d)).0 (Contains-get_or round k d low)

  pub rounds-falling : (falls : List Fall) → AreRounds nodes edges falls → IsFalling nodes edges falls
  rounds-falling _ Start = tt
  rounds-falling _ (Next falls round before r) =
      falling-append [] falls round (rounds-falling falls before) (round-falling (fallen falls) (fallen falls) round (λ n e. e) (each-next (fallen falls) round r))

  -- ---- each node is in them once

  distinct-append : (xs ys : List ℕ) → IsDistinct nat_eq xs → IsDistinct nat_eq ys → ((n : ℕ) → Contains ys n → is_member nat_eq xs n ≡ false) → IsDistinct nat_eq (xs ++ ys)
  distinct-append [] ys h g apart = g
  distinct-append (x ∷ xs) ys h g apart =
      let P : ℕ → Type 0 = λ y. nat_eq x y ≡ false in
      let here : All P xs = All-from_recursion P xs (IsDistinct-head nat_eq x xs h) in
      let there : All P ys = λ k d low. flip x (get_or ys k d) (is_member nat_eq xs (get_or ys k d)) (apart (get_or ys k d) (Contains-get_or ys k d low)) in
      IsDistinct-cons nat_eq x (xs ++ ys) (recursion_from_All P (xs ++ ys) (All-append P xs ys here there))
      (distinct-append xs ys (IsDistinct-tail nat_eq x xs h) g (λ n c. or-right (nat_eq n x) (is_member nat_eq xs n) (apart n c)))
    where
      flip : (a b : ℕ) (rest : Bool) → (eqb b a || rest) ≡ false → eqb a b ≡ false
      flip a b rest e =
          by_bool (eqb a b) (eqb a b ≡ false)
          (λ t. absurd (let never : true ≡ false = rw (eqb-true a b t, eq-eqb b b refl) at e in cc))
          (λ f. f)

      or-right : (a b : Bool) → (a || b) ≡ false → b ≡ false
      or-right true b e = absurd (let never : true ≡ false = e in cc)
      or-right false b e = e

  round-distinct : (gone : List ℕ) (round : List Fall) → IsRound nodes edges gone round → IsDistinct nat_eq (fallen round)
  round-distinct gone round r =
      let pairs = AllPairs-from_increasing (fallen round) (IsStrictlyIncreasing-from_sorted (fallen round) r.rising) in
      IsDistinct-from_AllPairs Decides-eqb (fallen round) (λ i j d before low e. let less = pairs i j d before low in absurd (omega arith))

  pub rounds-distinct : (falls : List Fall) → AreRounds nodes edges falls → IsDistinct nat_eq (fallen falls)
  unfolding IsDistinct
  rounds-distinct _ Start = tt
  rounds-distinct _ (Next falls round before r) =
      let split : fallen (falls ++ round) ≡ fallen falls ++ fallen round = map-append (λ (f : Fall). f.node) falls round in
      rw split (distinct-append (fallen falls) (fallen round) (rounds-distinct falls before) (round-distinct (fallen falls) round r)
      (λ n c.
      let found = mapped-from (λ (f : Fall). f.node) round n c in
      ap (is_member nat_eq (fallen falls)) (sym found.2) ∙ ((r.each found.0).0 found.1).1))

  -- ---- and they have all that are not matched

  module _ (gone : List ℕ) (ends : All (HasEnds nodes) edges)
      (no-next : (node : ℕ × ℕ × Bool) (r : Reason) → Contains nodes node → is_member nat_eq gone node.0 ≡ false → IsFirstReason (is_unmet edges gone node.0) node r → ⊥) where
    abbrev stays : ℕ → Bool
    stays n = not (is_member nat_eq gone n)

    abbrev rest : List ℕ
    rest = filter stays (numbers nodes)

    rest-member : (n : ℕ) → is_member nat_eq rest n ≡ (is_member nat_eq (numbers nodes) n && stays n)
    rest-member n = is_member-filter nat_eq_equiv stays n (λ x e. ap stays (eqb-true n x e)) (numbers nodes)

    rest-known : (n : ℕ) → Contains (numbers nodes) n → is_member nat_eq rest n ≡ not (is_member nat_eq gone n)
    rest-known n h = rest-member n ∙ ap (λ (b : Bool). b && stays n) (contained-member (numbers nodes) n h)

    rest-able : (node : ℕ × ℕ × Bool) → Contains nodes node → is_member nat_eq gone node.0 ≡ false → node.2 ≡ true
    rest-able node listed out = by_bool node.2 (node.2 ≡ true) (λ t. t) (λ f. absurd (no-next node NotAble listed out f))

    rest-supplied : (node : ℕ × ℕ × Bool) (k : ℕ) → Contains nodes node → is_member nat_eq gone node.0 ≡ false → k < node.1 → is_supplied edges rest node.0 k ≡ true
    rest-supplied node k listed out low =
        by_bool (is_supplied edges rest node.0 k) (is_supplied edges rest node.0 k ≡ true) (λ t. t)
        (λ f.
        let unmet : is_unmet edges gone node.0 k ≡ true = unmet-is (Contains (numbers nodes)) edges gone rest node.0 k (λ j d inside. (ends j d inside).0) rest-known ∙ ap not f in
        let first = first-unmet (is_unmet edges gone node.0) node k (rest-able node listed out) low unmet in
        absurd (no-next node first.0 listed out first.1))

    rest-closed : is_closed nodes edges rest ≡ true
    unfolding is_closed
    rest-closed =
        list_all-from_AllPass (λ x. not (is_member nat_eq rest x.0) || (x.2 && has_each_post edges rest x)) nodes
        (λ k d low.
        let node = get_or nodes k d in
        let listed = Contains-get_or nodes k d low in
        by_bool (is_member nat_eq rest node.0) ((not (is_member nat_eq rest node.0) || (node.2 && has_each_post edges rest node)) ≡ true)
        (λ t.
        let out : is_member nat_eq gone node.0 ≡ false = not-true (is_member nat_eq gone node.0) (sym (rest-known node.0 (listed-number nodes node listed)) ∙ t) in
        let all : (node.2 && has_each_post edges rest node) ≡ true = both node.2 (has_each_post edges rest node) (rest-able node listed out) (each-post edges rest node (λ j inside. rest-supplied node j listed out inside)) in
        rw all (or-true (not (is_member nat_eq rest node.0))))
        (λ f. rw f refl))
      where
        not-true : (b : Bool) → not b ≡ true → b ≡ false
        not-true true e = absurd (let never : false ≡ true = e in cc)
        not-true false e = refl

        or-true : (b : Bool) → (b || true) ≡ true
        or-true true = refl
        or-true false = refl

    pub unmatched-gone : (n : ℕ) → IsUnmatched nodes edges n → Contains gone n
    unfolding is_matched
    unmatched-gone n (known, down) =
        by_bool (is_member nat_eq gone n) (Contains gone n)
        (λ t. member-contained gone n t)
        (λ f.
        let member : is_member nat_eq rest n ≡ true = rest-known n known ∙ ap not f in
        let up = part-found (λ set. is_closed nodes edges set && is_member nat_eq set n) stays (numbers nodes) (both (is_closed nodes edges rest) (is_member nat_eq rest n) rest-closed member) in
        absurd (let never : false ≡ true = sym down ∙ up in cc))

  round-none : (gone : List ℕ) → IsRound nodes edges gone [] → (node : ℕ × ℕ × Bool) (r : Reason) → Contains nodes node → is_member nat_eq gone node.0 ≡ false → IsFirstReason (is_unmet edges gone node.0) node r → ⊥
  round-none gone last node r (k, low, at) out first =
      none-Contains (record { node = node.0; reason = r }) ((last.each (record { node = node.0; reason = r })).1 ((k, node, low, at, (refl, first)), out))

  -- The nodes of all rounds are those that are not matched.
  pub rounds-unmatched : (falls : List Fall) → All (HasEnds nodes) edges → AreAllRounds nodes edges falls → (n : ℕ) → Contains (fallen falls) n ↔ IsUnmatched nodes edges n
  rounds-unmatched falls ends all n = (falling-unmatched nodes edges falls (rounds-falling falls all.rounds) n, unmatched-gone (fallen falls) ends (round-none (fallen falls) all.last) n)

-- ---- the nodes in another order

module _ (nodes ranked : Nodes) (edges : List Edge) (moved : IsPermutation nodes ranked) where
  some-moved : (P : ℕ × ℕ × Bool → Type 0) (xs ys : Nodes) → IsPermutation xs ys → Any P xs → Any P ys
  some-moved P xs ys m some = let there = Contains-permutation xs ys some.1 m (some.0, some.2, some.3) in (there.0, some.1, there.1, there.2, some.4)

  round-moved : (gone : List ℕ) (round : List Fall) → IsRound ranked edges gone round → IsRound nodes edges gone round
  round-moved gone round r = record {
    each = λ fall. (
      λ h. let next = (r.each fall).0 h in (some-moved (λ node. (node.0 ≡ fall.node) × IsFirstReason (is_unmet edges gone node.0) node fall.reason) ranked nodes (IsPermutation-sym nodes ranked moved) next.0, next.1),
      λ h. (r.each fall).1 (some-moved (λ node. (node.0 ≡ fall.node) × IsFirstReason (is_unmet edges gone node.0) node fall.reason) nodes ranked moved h.0, h.1),
    );
    rising = r.rising;
  }

  rounds-moved : (falls : List Fall) → AreRounds ranked edges falls → AreRounds nodes edges falls
  rounds-moved _ Start = Start
  rounds-moved _ (Next falls round before r) = Next falls round (rounds-moved falls before) (round-moved (fallen falls) round r)

  pub all-moved : (falls : List Fall) → AreAllRounds ranked edges falls → AreAllRounds nodes edges falls
  all-moved falls all = record { rounds = rounds-moved falls all.rounds; last = round-moved (fallen falls) [] all.last }

-- ---- what all answers have

pub if-ok-so : {X Y : Type 0} (r : Result X Y) (P Q : X → Type 0) → ((x : X) → P x → Q x) → IfOk r P → IfOk r Q
if-ok-so (Ok x) P Q f p = f x p
if-ok-so (Err e) P Q f p = tt
