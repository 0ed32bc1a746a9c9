-- Places that fall one by one, and those that then wait.
use Rattle.std.proofs.Common.{◌≡◌, ℕ, zero, suc, ◌+◌, ◌<◌, ◌≤◌, ◌≢◌, ◌⊎◌, inl, inr, Bool, true, false, not, ◌&&◌, ◌||◌, eqb, List, [], ◌∷◌, ◌++◌, length, get_or, set, take, filter, count_by, nat_eq, refl, sym, ap, ◌∙◌, subst, arith, add-one, eq-eqb}
use Rattle.std.specs.List.{All, AllZip, Contains}
use Rattle.std.specs.List.Sorted.{IsStrictlyIncreasing}
use Rattle.std.specs.Set.{is_member}
use Rattle.std.proofs.lemmas.Bool.{eqb-true}
use Rattle.std.proofs.lemmas.Bool.Decides.{nat_tests}
use Rattle.std.proofs.lemmas.List.{get_or-set_other, get_or-take, get_or_default, length-take}
use Rattle.std.proofs.lemmas.List.Elements.{All-contains}
use Rattle.std.proofs.lemmas.List.Folds.{list_any_more, list_any_none}
use Rattle.std.proofs.lemmas.List.Kept.{AllPairs-from_increasing}
use Rattle.cq_match.specs.declared.settle.Offer.{Offer}
use Rattle.cq_match.specs.Steps.Settle.{stands, is_into, feeds}
use Rattle.cq_match.proofs.Bridge.{here-Contains, later-Contains, none-Contains}
use Rattle.cq_match.proofs.Dropping.{IsUnfed, EachWaits}
use Rattle.cq_match.proofs.Settling.{count-split, falls-itself}
use Rattle.cq_match.proofs.Tests.{by_bool, both}

-- ---- the part of a list that passes a test

module _ (test : ℕ → Bool) where
  in-kept : (y x : ℕ) (xs kept : List ℕ) → (Contains xs x → Contains kept x) → Contains (y ∷ xs) x → Contains (y ∷ kept) x
  in-kept y x xs kept more (zero, low, at) = subst (Contains (y ∷ kept)) at (here-Contains y kept)
  in-kept y x xs kept more (suc k, low, at) = later-Contains y x kept (more (k, (let l : suc k < suc (length xs) = low in omega arith), at))

  in-rest : (y x : ℕ) (xs : List ℕ) → test x ≡ true → test y ≡ false → Contains (y ∷ xs) x → Contains xs x
  in-rest y x xs t f (zero, low, at) = absurd (let never : false ≡ true = sym f ∙ ap test at ∙ t in cc)
  in-rest y x xs t f (suc k, low, at) = (k, (let l : suc k < suc (length xs) = low in omega arith), at)

  pub filtered-has : (xs : List ℕ) (x : ℕ) → Contains xs x → test x ≡ true → Contains (filter test xs) x
  filtered-has [] x h t = absurd (none-Contains x h)
  filtered-has (y ∷ xs) x h t =
      by_bool (test y) (Contains (filter test (y ∷ xs)) x)
      (λ e. rw e (in-kept y x xs (filter test xs) (λ c. filtered-has xs x c t) h))
      (λ f. rw f (filtered-has xs x (in-rest y x xs t f h) t))

  from-kept : (y x : ℕ) (xs kept : List ℕ) → test y ≡ true → (Contains kept x → Contains xs x × (test x ≡ true)) → Contains (y ∷ kept) x → Contains (y ∷ xs) x × (test x ≡ true)
  from-kept y x xs kept e back (zero, low, at) = (subst (Contains (y ∷ xs)) at (here-Contains y xs), ap test (sym at) ∙ e)
  from-kept y x xs kept e back (suc k, low, at) =
      let found = back (k, (let l : suc k < suc (length kept) = low in omega arith), at) in
      (later-Contains y x xs found.0, found.1)

  pub filtered-from : (xs : List ℕ) (x : ℕ) → Contains (filter test xs) x → Contains xs x × (test x ≡ true)
  filtered-from [] x h = absurd (none-Contains x h)
  filtered-from (y ∷ xs) x h =
      by_bool (test y) (Contains (y ∷ xs) x × (test x ≡ true))
      (λ e. let inside : Contains (y ∷ filter test xs) x = rw e at h in from-kept y x xs (filter test xs) e (λ c. filtered-from xs x c) inside)
      (λ f. let inside : Contains (filter test xs) x = rw f at h in let found = filtered-from xs x inside in (later-Contains y x xs found.0, found.1))

-- ---- lists that go side by side

zip-next : {X Y : Type 0} (R : X → Y → Type 0) (xs : List X) (ys : List Y) (i : ℕ) (d : X) (y : Y) → i < length xs → AllZip R (take i xs) ys → R (get_or xs i d) y → AllZip R (take (suc i) xs) (ys ++ y ∷ [])
zip-next R [] ys i d y low h r = absurd (let none : i < 0 = low in omega arith)
zip-next R (x ∷ xs) [] zero d y low h r = (r, tt)
zip-next R (x ∷ xs) (z ∷ ys) zero d y low h r = absurd h
zip-next R (x ∷ xs) [] (suc i) d y low h r = absurd h
zip-next R (x ∷ xs) (z ∷ ys) (suc i) d y low (first, rest) r = (first, zip-next R xs ys i d y (let l : suc i < suc (length xs) = low in omega arith) rest r)

pub zip-more : {X Y : Type 0} (R : X → Y → Type 0) (xs : List X) (ys : List Y) (i : ℕ) (d : X) (y : Y) → i < length xs → AllZip R (take i xs) ys → R (get_or xs i d) y → AllZip R (take (i + 1) xs) (ys ++ y ∷ [])
zip-more R xs ys i d y low h r = rw add-one (zip-next R xs ys i d y low h r)

-- ---- places that fall

abbrev pub Fell : List Bool → List Bool → List ℕ → Type 0
Fell start standing round = (place : ℕ) → stands standing place ≡ (stands start place && not (is_member nat_eq round place))

abbrev pub Counted : List ℕ → List Offer → List Bool → List ℕ → Type 0
Counted owners offers standing counts = (slot : ℕ) → slot < length owners → get_or counts slot 0 ≡ count_by (feeds (stands standing) slot) offers

-- a place of a rising list does not stand before itself
not-before : (round : List ℕ) (i : ℕ) → IsStrictlyIncreasing round → i < length round → is_member nat_eq (take i round) (get_or round i 0) ≡ false
not-before round i rising low =
    list_any_none (eqb (get_or round i 0)) (take i round) (λ k d inside.
    let len = length-take i round in
    let before : k < i = omega arith in
    let here : get_or (take i round) k d ≡ get_or round k 0 = get_or-take i round k d before ∙ get_or_default round k d 0 (omega arith) in
    let less = AllPairs-from_increasing round rising k i 0 before low in
    ap (eqb (get_or round i 0)) here ∙ differs (get_or round i 0) (get_or round k 0) less)
  where
    differs : (a b : ℕ) → b < a → eqb a b ≡ false
    differs a b h = grind (arith, nat_tests)

pub up-still : (start standing : List Bool) (round : List ℕ) (i : ℕ) → IsStrictlyIncreasing round → All (λ place. stands start place ≡ true) round → i < length round → Fell start standing (take i round) → stands standing (get_or round i 0) ≡ true
up-still start standing round i rising up low fell =
    let place = get_or round i 0 in
    fell place ∙ both (stands start place) (not (is_member nat_eq (take i round) place)) (up i 0 low) (ap not (not-before round i rising low))

pub offers-counted : (owners : List ℕ) (offers : List Offer) (standing : List Bool) (counts : List ℕ) (place : ℕ) → stands standing place ≡ true → Counted owners offers standing counts
    → (slot : ℕ) → slot < length owners → count_by (is_into slot) (filter (λ l. eqb l.provider place) offers) ≤ get_or counts slot 0
offers-counted owners offers standing counts place up counted slot held =
    let before = counted slot held in
    let parts = count-split standing place slot up offers in
    omega arith

pub fell-more : (start standing : List Bool) (round : List ℕ) (i : ℕ) → i < length round → Fell start standing (take i round) → Fell start (set standing (get_or round i 0) false) (take (i + 1) round)
fell-more start standing round i low fell p =
    let place = get_or round i 0 in
    let more : is_member nat_eq (take (i + 1) round) p ≡ (is_member nat_eq (take i round) p || eqb p place) = list_any_more (eqb p) round i 0 low in
    by_bool (eqb p place) (stands (set standing place false) p ≡ (stands start p && not (is_member nat_eq (take (i + 1) round) p)))
    (λ t. ap (stands (set standing place false)) (eqb-true p place t) ∙ falls-itself standing place ∙ sym (rw (more, t) (none (stands start p) (is_member nat_eq (take i round) p))))
    (λ f.
    let apart : p ≢ place = λ e. let never : false ≡ true = sym f ∙ eq-eqb p place e in cc in
    get_or-set_other standing place p false false apart ∙ fell p ∙ sym (rw (more, f) (same (stands start p) (is_member nat_eq (take i round) p))))
  where
    none : (a b : Bool) → (a && not (b || true)) ≡ false
    none true true = refl
    none true false = refl
    none false b = refl

    same : (a b : Bool) → (a && not (b || false)) ≡ (a && not b)
    same a true = refl
    same a false = refl

pub counted-more : (owners : List ℕ) (offers : List Offer) (standing : List Bool) (counts counts' : List ℕ) (place : ℕ) → stands standing place ≡ true → Counted owners offers standing counts
    → ((slot : ℕ) → get_or counts' slot 0 + count_by (is_into slot) (filter (λ l. eqb l.provider place) offers) ≡ get_or counts slot 0) → Counted owners offers (set standing place false) counts'
counted-more owners offers standing counts counts' place up counted lowered slot held =
    let before = counted slot held in
    let parts = count-split standing place slot up offers in
    let now = lowered slot in
    omega arith

pub each-more : (owners start counts counts' waiting waiting' : List ℕ) → EachWaits owners start counts waiting → EachWaits owners counts counts' waiting' → ((p : ℕ) → Contains waiting p → Contains waiting' p) → EachWaits owners start counts' waiting'
each-more owners start counts counts' waiting waiting' before now kept slot held none =
    elim (now slot held none) [
      | inl z ↦ elim (before slot held z) [
        | inl s ↦ inl s
        | inr w ↦ inr (kept (get_or owners slot 0) w)
      ]
      | inr w ↦ inr w
    ]

pub only-more : (owners : List ℕ) (offers : List Offer) (place : ℕ) (counts counts' waiting waiting' : List ℕ)
    → ((slot : ℕ) → get_or counts' slot 0 + count_by (is_into slot) (filter (λ l. eqb l.provider place) offers) ≡ get_or counts slot 0)
    → All (IsUnfed owners counts) waiting → All (λ p. Contains waiting p ⊎ IsUnfed owners counts' p) waiting' → All (IsUnfed owners counts') waiting'
only-more owners offers place counts counts' waiting waiting' lowered before now k d low =
    elim (now k d low) [
      | inl w ↦
          let due = All-contains (IsUnfed owners counts) waiting (get_or waiting' k d) before w in
          let less = lowered due.0 in
          let none = due.2.0 in
          (due.0, due.1, ((let z : get_or counts' due.0 0 ≡ 0 = omega arith in z), due.2.1))
      | inr o ↦ o
    ]
