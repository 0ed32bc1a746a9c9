-- Seats that are walked through in their order, and a roster that is copied.
use Rattle.std.proofs.Common.{◌≡◌, ℕ, ◌+◌, ◌≤◌, List, [], ◌∷◌, length, map, get_or, Option, Some, None, Result, Ok, Err, IfOk, IsTrue, refl, sym, ap, subst, ◌∙◌, arith}
use Rattle.std.specs.Borrow.{Bor}
use Rattle.std.specs.Prelude.{MatchOption}
use Rattle.std.specs.List.{AllZip, slice_get}
use Rattle.std.specs.Iterator.Runs.{SomeRun, WholeRun}
use Rattle.std.specs.Map.Iter.{TakesFirst, ShowsInOrder, deref}
use Rattle.std.specs.Option.{option_copied, option_map}
use Rattle.std.proofs.lemmas.Option.{slice_get_past, slice_get_read}
use Rattle.cq_roster.specs.Roster.{SeatRecord}
use Rattle.cq_roster.specs.Steps.Kept.{IsKept}

-- the seat at a place, where there is one
pub nth-read : {X : Type 0} (start xs : List X) (n : ℕ) (r : Option (Bor X))
    → SomeRun (TakesFirst (deref {X = X})) start (λ p. MatchOption r (IsTrue p.whole × (p.len ≤ n)) (λ x. (p.len ≡ n + 1) × (p.at n ≡ Some x)))
    → ShowsInOrder (deref {X = X}) → start ≡ xs → option_copied r ≡ slice_get xs n
nth-read {X} start xs n None run shows same =
    let p = run.0 in
    let seen = shows p p.seen in
    sym (ap (λ (l : List X). slice_get l n) (sym (run.1 ∙ same)) ∙ slice_get_past p.from n (subst (λ k. k ≤ n) (seen.1 run.2.0) run.2.1))
nth-read {X} start xs n (Some x) run shows same =
    let p = run.0 in
    let seen = shows p p.seen in
    let few = seen.0 in
    let count = run.2.0 in
    let here = seen.2 n x.now (omega (arith, count)) in
    let read : Some x.now ≡ Some (get_or p.from n x.now) = ap (option_map deref) (sym run.2.1) ∙ here in
    sym (slice_get_read p.from (length p.from) n x.now refl (omega (arith, few, count)) (cc)) ∙ ap (λ (l : List X). slice_get l n) (run.1 ∙ same)

-- all seats
pub all-read : {X T E : Type 0} (read : T → List (Bor X)) (count : T → ℕ) (r : Result T E) (start xs : List X)
    → IfOk r (λ v. Unit {0} → WholeRun (TakesFirst (deref {X = X})) start (λ p. (read v ≡ p.items) × (count v ≡ length p.items)))
    → ShowsInOrder (deref {X = X}) → start ≡ xs → IfOk r (λ v. map (λ s. s.now) (read v) ≡ xs)
all-read {X} read count (Ok v) start xs run shows same =
    let whole = run tt in
    let p = whole.0 in
    ap (map (λ (s : Bor X). s.now)) whole.3.0 ∙ (shows p p.seen).4 whole.2 ∙ whole.1 ∙ same
all-read read count (Err e) start xs run shows same = tt

-- ---- a copy

copied : {X : Type 0} (R : X → X → Type 0) → ((x y : X) → R x y → y ≡ x) → (xs ys : List X) → AllZip R xs ys → ys ≡ xs
copied R same [] [] h = refl
copied R same [] (y ∷ ys) h = absurd h
copied R same (x ∷ xs) [] h = absurd h
copied R same (x ∷ xs) (y ∷ ys) h = let first = same x y h.0 in let rest = copied R same xs ys h.1 in λ i. first i ∷ rest i

-- an entry with the same number, name and place
abbrev SeatCopy : ℕ × SeatRecord → ℕ × SeatRecord → Type 0
SeatCopy p q = (q.0 ≡ p.0) × ((q.1.name ≡ p.1.name) × (q.1.place ≡ p.1.place))

pub order-copied : (old new : List (ℕ × SeatRecord)) → AllZip SeatCopy old new → new ≡ old
order-copied = copied SeatCopy (λ p q h i. (h.0 i, record { name = h.1.0 i; place = h.1.1 i }))

pub numbers-copied : (old new : List (List ℕ × ℕ)) → AllZip (λ p q. (q.0 ≡ p.0) × (q.1 ≡ p.1)) old new → new ≡ old
numbers-copied = copied (λ p q. (q.0 ≡ p.0) × (q.1 ≡ p.1)) (λ p q h i. (h.0 i, h.1 i))

pub kept-copied : (order order2 : List (ℕ × SeatRecord)) (numbers numbers2 : List (List ℕ × ℕ)) (next : ℕ) → order2 ≡ order → numbers2 ≡ numbers → IsKept order numbers next → IsKept order2 numbers2 next
kept-copied order order2 numbers numbers2 next same even kept = subst (λ o. IsKept o numbers2 next) (sym same) (subst (λ n. IsKept order n next) (sym even) kept)
