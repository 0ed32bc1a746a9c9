-- Heads that nearly supply a postcondition, as they are found.
use Rattle.std.proofs.Common.{◌≡◌, ℕ, zero, suc, ◌+◌, ◌<◌, inl, inr, Bool, if◌then◌else◌, List, [], ◌∷◌, ◌++◌, length, map, take, get_or, sym, ap, subst, ◌∙◌, arith, append_assoc}
use Rattle.std.specs.List.{flat_map, enumerate_from}
use Rattle.std.proofs.lemmas.List.{append-nil, map-append, take_more, length-take}
use Rattle.std.proofs.Math.ListN.{length-map}
use Rattle.cq_atom.specs.Atom.{TermContent, AtomRecord}
use Rattle.std.specs.Prelude.{Option, Some, None}
use Rattle.std.specs.List.{Contains}
use Rattle.std.specs.Option.{option_map_or}
use Rattle.std.proofs.lemmas.List.Sorted.{Contains-permutation, IsPermutation-sym}
use Rattle.std.proofs.lemmas.Option.{slice_get_within}
use Rattle.cq_board.specs.Near.{differ, differences, misses, miss_if, misses_of, post_named, misses_named, AreNearest}
use Rattle.cq_board.proofs.Among.{Contains-In, In-Contains}
use Rattle.cq_board.proofs.Ends.{In-get_or, In-enumerate}
use Rattle.cq_board.specs.Pool.{PendingQuery}
use Rattle.cq_board.proofs.Members.{In, by_bool, In-flat_map_gives}

one-more : (ss ts : List TermContent) (i : ℕ) (d e : TermContent) → i < length ss → length ss ≡ length ts
    → differences (take (suc i) ss) (take (suc i) ts) ≡ differences (take i ss) (take i ts) + (if differ (get_or ss i d) (get_or ts i e) then 1 else 0)
one-more [] ts i d e low same = absurd (let none : i < 0 = low in omega arith)
one-more (s ∷ ss) [] i d e low same = absurd (let none : suc (length ss) ≡ 0 = same in omega arith)
one-more (s ∷ ss) (t ∷ ts) zero d e low same = let back : (if differ s t then 1 else 0) + 0 ≡ 0 + (if differ s t then 1 else 0) = omega arith in back
one-more (s ∷ ss) (t ∷ ts) (suc i) d e low same =
    let one : ℕ = if differ s t then 1 else 0 in
    let last : ℕ = if differ (get_or ss i d) (get_or ts i e) then 1 else 0 in
    let more = one-more ss ts i d e (let l : suc i < suc (length ss) = low in omega arith) (let l : suc (length ss) ≡ suc (length ts) = same in omega arith) in
    ap (λ (n : ℕ). one + n) more ∙ (let assoc : one + (differences (take i ss) (take i ts) + last) ≡ one + differences (take i ss) (take i ts) + last = omega arith in assoc)

-- one more place
pub differences_more : (ss ts : List TermContent) (i : ℕ) (d e : TermContent) → i < length ss → length ss ≡ length ts
    → differences (take (i + 1) ss) (take (i + 1) ts) ≡ differences (take i ss) (take i ts) + (if differ (get_or ss i d) (get_or ts i e) then 1 else 0)
differences_more ss ts i d e low same =
    let next : suc i ≡ i + 1 = omega arith in
    subst (λ (k : ℕ). differences (take k ss) (take k ts) ≡ differences (take i ss) (take i ts) + (if differ (get_or ss i d) (get_or ts i e) then 1 else 0)) next (one-more ss ts i d e low same)

enumerate-append : {X : Type 0} (n : ℕ) (xs : List X) (y : X) → enumerate_from n (xs ++ y ∷ []) ≡ enumerate_from n xs ++ (n + length xs, y) ∷ []
enumerate-append n [] y = let at : n ≡ n + 0 = omega arith in ap (λ (m : ℕ). (m, y) ∷ []) at
enumerate-append n (x ∷ xs) y =
    let at : n + 1 + length xs ≡ n + suc (length xs) = omega arith in
    ap (λ ps. (n, x) ∷ ps) (enumerate-append (n + 1) xs y ∙ ap (λ (m : ℕ). enumerate_from (n + 1) xs ++ (m, y) ∷ []) at)

flat-append : {X Y : Type 0} (f : X → List Y) (xs : List X) (y : X) → flat_map f (xs ++ y ∷ []) ≡ flat_map f xs ++ f y
flat-append f [] y = append-nil (f y)
flat-append f (x ∷ xs) y = ap (λ ys. f x ++ ys) (flat-append f xs y) ∙ sym (append_assoc (f x) (flat_map f xs) (f y))

-- what one more element with its place gives
pub flat_more : {X Y : Type 0} (f : ℕ × X → List Y) (xs : List X) (i : ℕ) (d : X) → i < length xs → flat_map f (enumerate_from 0 (take (i + 1) xs)) ≡ flat_map f (enumerate_from 0 (take i xs)) ++ f (i, get_or xs i d)
flat_more f xs i d low =
    let count = length-take i xs in
    let at : 0 + length (take i xs) ≡ i = omega arith in
    ap (λ ys. flat_map f (enumerate_from 0 ys)) (take_more xs i d low) ∙ ap (flat_map f) (enumerate-append 0 (take i xs) (get_or xs i d)) ∙ flat-append f (enumerate_from 0 (take i xs)) (0 + length (take i xs), get_or xs i d)
    ∙ ap (λ (n : ℕ). flat_map f (enumerate_from 0 (take i xs)) ++ f (n, get_or xs i d)) at

-- the same of the places that a list of seats has
pub flat_more_by : {X Z Y : Type 0} (f : ℕ × Z → List Y) (place : X → Z) (xs : List X) (i : ℕ) (d : X) → i < length xs
    → flat_map f (enumerate_from 0 (map place (take (i + 1) xs))) ≡ flat_map f (enumerate_from 0 (map place (take i xs))) ++ f (i, place (get_or xs i d))
flat_more_by f place xs i d low =
    let before = map place (take i xs) in
    let y = get_or xs i d in
    let count : length before ≡ length (take i xs) = length-map (take i xs) place in
    let many = length-take i xs in
    let at : 0 + length before ≡ i = omega arith in
    ap (λ ys. flat_map f (enumerate_from 0 (map place ys))) (take_more xs i d low) ∙ ap (λ ys. flat_map f (enumerate_from 0 ys)) (map-append place (take i xs) (y ∷ []))
    ∙ ap (flat_map f) (enumerate-append 0 before (place y)) ∙ flat-append f (enumerate_from 0 before) (0 + length before, place y)
    ∙ ap (λ (n : ℕ). flat_map f (enumerate_from 0 before) ++ f (n, place y)) at

pub counts_one : (b : Bool) (before after : ℕ) → b ≡ Bool.true → after ≡ before + 1 → after ≡ before + (if b then 1 else 0)
counts_one Bool.true before after e is = is
counts_one Bool.false before after e is = absurd (let never : Bool.false ≡ Bool.true = e in cc)

pub counts_none : (b : Bool) (before after : ℕ) → b ≡ Bool.false → after ≡ before → after ≡ before + (if b then 1 else 0)
counts_none Bool.true before after e is = absurd (let never : Bool.true ≡ Bool.false = e in cc)
counts_none Bool.false before after e is = let back : after ≡ before + 0 = omega arith in back

-- ---- the places of heads that miss

miss-low : (wanted : AtomRecord) (pending : List PendingQuery) (miss : ℕ × ℕ × ℕ) → In miss (misses_of wanted pending) → miss.1 < length pending
miss-low wanted pending miss h =
    let by_query = In-flat_map_gives (λ p. flat_map (miss_if wanted p.0) (enumerate_from 0 p.1.query.heads)) (enumerate_from 0 pending) miss h in
    let p = by_query.0 in
    let by_head = In-flat_map_gives (miss_if wanted p.0) (enumerate_from 0 p.1.query.heads) miss by_query.2 in
    let low : p.0 < length pending = slice_get_within pending p.0 p.1 (In-enumerate pending p by_query.1) in
    by_bool (misses wanted by_head.0.1) (miss.1 < length pending)
    (λ t. elim (rw t at by_head.2) as (λ _. miss.1 < length pending) [ inl e ↦ subst (λ (k : ℕ). k < length pending) (sym (ap (λ x. x.1) e)) low | inr never ↦ absurd never ])
    (λ f. absurd (rw f at by_head.2))

all-low : (wanted : Option AtomRecord) (pending : List PendingQuery) (miss : ℕ × ℕ × ℕ) → In miss (option_map_or (λ w. misses_of w pending) wanted []) → miss.1 < length pending
all-low None pending miss h = absurd h
all-low (Some wanted) pending miss h = miss-low wanted pending miss h

-- the places of the nearest are those of pending queries
pub nearest-low : (name : List ℕ) (post : ℕ) (pending : List PendingQuery) (nearest : List (ℕ × ℕ × ℕ)) → AreNearest (misses_named name post pending) nearest → (k : ℕ) (d : ℕ × ℕ × ℕ) → k < length nearest → (get_or nearest k d).1 < length pending
nearest-low name post pending nearest are k d low =
    let all = misses_named name post pending in
    let miss = get_or nearest k d in
    let within : In miss (take 3 are.sorted) = subst (λ ms. In miss ms) are.first (In-get_or nearest k d low) in
    let sorted : Contains are.sorted miss = Contains-In are.sorted miss (in-take 3 are.sorted miss within) in
    all-low (post_named name post pending) pending miss (In-Contains all miss (Contains-permutation are.sorted all miss (IsPermutation-sym all are.sorted are.permutation) sorted))
  where
    in-take : {X : Type 0} (n : ℕ) (xs : List X) (x : X) → In x (take n xs) → In x xs
    in-take zero xs x h = absurd h
    in-take (suc n) [] x h = absurd h
    in-take (suc n) (y ∷ xs) x (inl e) = inl e
    in-take (suc n) (y ∷ xs) x (inr h) = inr (in-take n xs x h)
