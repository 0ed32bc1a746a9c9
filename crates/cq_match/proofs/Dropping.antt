-- One offer less is counted, and its slot's owner may have to wait for its fall.
use Rattle.std.proofs.Common.{◌≡◌, ℕ, ◌+◌, ◌-◌, ◌<◌, ◌≤◌, ◌≢◌, ◌⊎◌, inl, inr, true, false, cond, eqb, List, [], ◌∷◌, ◌++◌, length, get_or, set, drop, count_by, sum, refl, sym, ap, ◌∙◌, subst, arith, eq-eqb, SomeIndex}
use Rattle.std.specs.List.{All, Contains}
use Rattle.std.proofs.lemmas.Bool.{eqb-true}
use Rattle.std.proofs.lemmas.List.{get_or-set_same, get_or-set_other}
use Rattle.std.proofs.lemmas.List.Elements.{Contains-append_left, Contains-push, All-push}
use Rattle.std.proofs.lemmas.List.Sums.{sum_by-drop_more, sum_by-set}
use Rattle.cq_match.specs.declared.settle.Offer.{Offer}
use Rattle.cq_match.specs.Steps.Settle.{is_into}
use Rattle.cq_match.proofs.Tests.{by_bool}

count-here : (offers : List Offer) (i slot : ℕ) (d : Offer) → i < length offers → eqb (get_or offers i d).slot slot ≡ true → count_by (is_into slot) (drop i offers) ≡ 1 + count_by (is_into slot) (drop (i + 1) offers)
count-here offers i slot d low t =
    let more = sum_by-drop_more (λ l. cond (is_into slot l) 1 0) offers i d low in
    let one : cond (is_into slot (get_or offers i d)) 1 0 ≡ 1 = rw t refl in
    more ∙ ap (λ n. n + count_by (is_into slot) (drop (i + 1) offers)) one

count-elsewhere : (offers : List Offer) (i slot : ℕ) (d : Offer) → i < length offers → eqb (get_or offers i d).slot slot ≡ false → count_by (is_into slot) (drop i offers) ≡ 0 + count_by (is_into slot) (drop (i + 1) offers)
count-elsewhere offers i slot d low f =
    let more = sum_by-drop_more (λ l. cond (is_into slot l) 1 0) offers i d low in
    let none : cond (is_into slot (get_or offers i d)) 1 0 ≡ 0 = rw f refl in
    more ∙ ap (λ n. n + count_by (is_into slot) (drop (i + 1) offers)) none

-- What is counted of a slot, and what is still to be dropped of it: now, at first, and of all that are dropped.
abbrev pub Lowered : List ℕ → List ℕ → List Offer → ℕ → Type 0
Lowered start counts offers i = (slot : ℕ) → get_or counts slot 0 + count_by (is_into slot) offers ≡ get_or start slot 0 + count_by (is_into slot) (drop i offers)

abbrev pub Enough : List ℕ → List ℕ → List Offer → Type 0
Enough owners start offers = (slot : ℕ) → slot < length owners → count_by (is_into slot) offers ≤ get_or start slot 0

pub counts-some : (owners start counts : List ℕ) (offers : List Offer) (i k : ℕ) (d : Offer) → i < length offers → k ≡ (get_or offers i d).slot → k < length owners → Enough owners start offers → Lowered start counts offers i → 1 ≤ get_or counts k 0
counts-some owners start counts offers i k d low at held enough lowered =
    let here = count-here offers i k d low (eq-eqb (get_or offers i d).slot k (sym at)) in
    let now = lowered k in
    let most = enough k held in
    omega arith

pub lowered-more : (owners start counts : List ℕ) (offers : List Offer) (i k : ℕ) (d : Offer) → i < length offers → k ≡ (get_or offers i d).slot → k < length counts → k < length owners → Enough owners start offers → Lowered start counts offers i
    → Lowered start (set counts k (get_or counts k 0 - 1)) offers (i + 1)
lowered-more owners start counts offers i k d low at inside held enough lowered slot =
    let n = get_or counts k 0 in
    by_bool (eqb (get_or offers i d).slot slot) (get_or (set counts k (n - 1)) slot 0 + count_by (is_into slot) offers ≡ get_or start slot 0 + count_by (is_into slot) (drop (i + 1) offers))
    (λ t.
    let same : k ≡ slot = at ∙ eqb-true (get_or offers i d).slot slot t in
    let after : get_or (set counts k (n - 1)) slot 0 ≡ n - 1 = ap (λ m. get_or (set counts k (n - 1)) m 0) (sym same) ∙ get_or-set_same counts k (n - 1) 0 inside in
    let before : get_or counts slot 0 ≡ n = ap (λ m. get_or counts m 0) (sym same) in
    let here = count-here offers i slot d low t in
    let some = counts-some owners start counts offers i k d low at held enough lowered in
    let now = lowered slot in
    omega arith)
    (λ f.
    let apart : slot ≢ k = λ e. let never : false ≡ true = sym f ∙ eq-eqb (get_or offers i d).slot slot (sym at ∙ sym e) in cc in
    let other = get_or-set_other counts k slot (n - 1) 0 apart in
    let here = count-elsewhere offers i slot d low f in
    let now = lowered slot in
    omega arith)

-- The owner of each slot that counts none now and counted some at first waits.
abbrev pub EachWaits : List ℕ → List ℕ → List ℕ → List ℕ → Type 0
EachWaits owners start counts waiting = (slot : ℕ) → slot < length owners → get_or counts slot 0 ≡ 0 → (get_or start slot 0 ≡ 0) ⊎ Contains waiting (get_or owners slot 0)

pub each-emptied : (owners start counts waiting : List ℕ) (k m : ℕ) → EachWaits owners start counts waiting → EachWaits owners start (set counts k m) (waiting ++ get_or owners k 0 ∷ [])
each-emptied owners start counts waiting k m each slot low zero =
    by_bool (eqb slot k) ((get_or start slot 0 ≡ 0) ⊎ Contains (waiting ++ get_or owners k 0 ∷ []) (get_or owners slot 0))
    (λ t. inr (subst (λ (n : ℕ). Contains (waiting ++ get_or owners k 0 ∷ []) (get_or owners n 0)) (sym (eqb-true slot k t)) (Contains-push waiting (get_or owners k 0))))
    (λ f.
    let apart : slot ≢ k = λ e. let never : false ≡ true = sym f ∙ eq-eqb slot k e in cc in
    let other = get_or-set_other counts k slot m 0 apart in
    elim (each slot low (sym other ∙ zero)) [ inl e ↦ inl e | inr w ↦ inr (Contains-append_left waiting (get_or owners k 0 ∷ []) (get_or owners slot 0) w) ])

pub each-left : (owners start counts waiting : List ℕ) (k m : ℕ) → k < length counts → (m ≡ 0 → ⊥) → EachWaits owners start counts waiting → EachWaits owners start (set counts k m) waiting
each-left owners start counts waiting k m inside some each slot low zero =
    by_bool (eqb slot k) ((get_or start slot 0 ≡ 0) ⊎ Contains waiting (get_or owners slot 0))
    (λ t.
    let after : get_or (set counts k m) slot 0 ≡ m = ap (λ n. get_or (set counts k m) n 0) (eqb-true slot k t) ∙ get_or-set_same counts k m 0 inside in
    absurd (some (sym after ∙ zero)))
    (λ f.
    let apart : slot ≢ k = λ e. let never : false ≡ true = sym f ∙ eq-eqb slot k e in cc in
    let other = get_or-set_other counts k slot m 0 apart in
    each slot low (sym other ∙ zero))

-- Whoever waits waited at first, or owns a slot that counts none.
abbrev pub IsDue : List ℕ → List ℕ → List ℕ → ℕ → Type 0
IsDue owners first counts place = Contains first place ⊎ SomeIndex owners (λ slot. (get_or counts slot 0 ≡ 0) × (get_or owners slot 0 ≡ place))

due-still : (owners first counts : List ℕ) (k m place : ℕ) → 1 ≤ get_or counts k 0 → IsDue owners first counts place → IsDue owners first (set counts k m) place
due-still owners first counts k m place some (inl w) = inl w
due-still owners first counts k m place some (inr (slot, low, (zero, own))) =
    let apart : slot ≢ k = λ e. let same : get_or counts slot 0 ≡ get_or counts k 0 = ap (λ n. get_or counts n 0) e in omega arith in
    inr (slot, low, (get_or-set_other counts k slot m 0 apart ∙ zero, own))

pub only-left : (owners first counts waiting : List ℕ) (k m : ℕ) → 1 ≤ get_or counts k 0 → All (IsDue owners first counts) waiting → All (IsDue owners first (set counts k m)) waiting
only-left owners first counts waiting k m some only = λ j d low. due-still owners first counts k m (get_or waiting j d) some (only j d low)

pub only-emptied : (owners first counts waiting : List ℕ) (k m : ℕ) → 1 ≤ get_or counts k 0 → k < length counts → k < length owners → m ≡ 0 → All (IsDue owners first counts) waiting → All (IsDue owners first (set counts k m)) (waiting ++ get_or owners k 0 ∷ [])
only-emptied owners first counts waiting k m some inside low zero only =
    All-push (IsDue owners first (set counts k m)) waiting (get_or owners k 0) (only-left owners first counts waiting k m some only)
    (inr (k, low, (get_or-set_same counts k m 0 inside ∙ zero, refl)))

pub sum-lowered : (counts : List ℕ) (k : ℕ) → 1 ≤ get_or counts k 0 → k < length counts → sum (set counts k (get_or counts k 0 - 1)) + 1 ≡ sum counts
sum-lowered counts k some inside =
    let change = sum_by-set (λ x. x) counts k (get_or counts k 0 - 1) 0 inside in
    omega arith

-- The owners of the slots before the i-th that count none are found.
abbrev pub FoundBelow : List ℕ → List ℕ → List ℕ → ℕ → Type 0
FoundBelow owners counts found i = (slot : ℕ) → slot < i → get_or counts slot 0 ≡ 0 → Contains found (get_or owners slot 0)

pub found-more : (owners counts found : List ℕ) (i : ℕ) → FoundBelow owners counts found i → FoundBelow owners counts (found ++ get_or owners i 0 ∷ []) (i + 1)
found-more owners counts found i each slot low zero =
    by_bool (eqb slot i) (Contains (found ++ get_or owners i 0 ∷ []) (get_or owners slot 0))
    (λ t. subst (λ (n : ℕ). Contains (found ++ get_or owners i 0 ∷ []) (get_or owners n 0)) (sym (eqb-true slot i t)) (Contains-push found (get_or owners i 0)))
    (λ f.
    let apart : slot ≢ i = λ e. let never : false ≡ true = sym f ∙ eq-eqb slot i e in cc in
    Contains-append_left found (get_or owners i 0 ∷ []) (get_or owners slot 0) (each slot (omega arith) zero))

pub found-same : (owners counts found : List ℕ) (i : ℕ) → get_or counts i 0 ≢ 0 → FoundBelow owners counts found i → FoundBelow owners counts found (i + 1)
found-same owners counts found i some each slot low zero =
    by_bool (eqb slot i) (Contains found (get_or owners slot 0))
    (λ t. absurd (some (ap (λ n. get_or counts n 0) (sym (eqb-true slot i t)) ∙ zero)))
    (λ f.
    let apart : slot ≢ i = λ e. let never : false ≡ true = sym f ∙ eq-eqb slot i e in cc in
    each slot (omega arith) zero)

-- The place owns a slot that counts none.
abbrev pub IsUnfed : List ℕ → List ℕ → ℕ → Type 0
IsUnfed owners counts place = SomeIndex owners (λ slot. (get_or counts slot 0 ≡ 0) × (get_or owners slot 0 ≡ place))

pub owned-more : (owners counts found : List ℕ) (i : ℕ) → i < length owners → get_or counts i 0 ≡ 0 → All (IsUnfed owners counts) found → All (IsUnfed owners counts) (found ++ get_or owners i 0 ∷ [])
owned-more owners counts found i low zero only = All-push (IsUnfed owners counts) found (get_or owners i 0) only (i, low, (zero, refl))
