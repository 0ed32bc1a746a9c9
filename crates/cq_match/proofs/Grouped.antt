-- Lists that are sorted by a number of their elements: those of one number stand side by side.
use Rattle.std.proofs.Common.{◌≡◌, ℕ, ◌+◌, Bool, true, false, eqb, ltb, leb, List, [], ◌∷◌, ◌++◌, length, get_or, take, drop, filter, refl, sym, ap, ◌∙◌, subst, arith}
use Rattle.std.specs.List.{All, AllWithin}
use Rattle.std.specs.List.Sorted.{IsPartitionPoint}
use Rattle.std.proofs.lemmas.Bool.Decides.{nat_tests}
use Rattle.std.proofs.lemmas.List.{take-append-drop, append-nil, length-take, length-drop, get_or-take, get_or-drop}
use Rattle.std.proofs.lemmas.List.Elements.{All-head, All-tail, filter-append}

filter-none : {X : Type 0} (p : X → Bool) (xs : List X) → All (λ l. p l ≡ false) xs → filter p xs ≡ []
filter-none p [] h = refl
filter-none {X} p (x ∷ xs) h =
    let first : p x ≡ false = All-head (λ l. p l ≡ false) x xs h in
    rw first (filter-none p xs (All-tail (λ l. p l ≡ false) x xs h))

filter-every : {X : Type 0} (p : X → Bool) (xs : List X) → All (λ l. p l ≡ true) xs → filter p xs ≡ xs
filter-every p [] h = refl
filter-every {X} p (x ∷ xs) h =
    let first : p x ≡ true = All-head (λ l. p l ≡ true) x xs h in
    rw first (ap (λ (l : List X). x ∷ l) (filter-every p xs (All-tail (λ l. p l ≡ true) x xs h)))

filter-cut : {X : Type 0} (p : X → Bool) (xs : List X) (k : ℕ) → filter p xs ≡ filter p (take k xs) ++ filter p (drop k xs)
filter-cut {X} p xs k = ap (filter p) (sym (take-append-drop k xs)) ∙ filter-append p (take k xs) (drop k xs)

in-front : {X : Type 0} (P : X → Type 0) (xs : List X) (k : ℕ) → AllWithin P xs 0 k → All P (take k xs)
in-front {X} P xs k h j d low =
    let front = length-take k xs in
    subst P (sym (get_or-take k xs j d (omega arith))) (h j d (omega arith) (omega arith))

behind : {X : Type 0} (P : X → Type 0) (xs : List X) (k : ℕ) → AllWithin P xs k (length xs) → All P (drop k xs)
behind {X} P xs k h j d low =
    let rest = length-drop k xs in
    subst P (sym (get_or-drop k xs j d)) (h (k + j) d (omega arith) (omega arith))

below-other : (n place : ℕ) → ltb n place ≡ true → eqb n place ≡ false
below-other n place t = grind (arith, nat_tests)

above-other : (n place : ℕ) → leb n place ≡ false → eqb n place ≡ false
above-other n place t = grind (arith, nat_tests)

between : (n place : ℕ) → ltb n place ≡ false → leb n place ≡ true → eqb n place ≡ true
between n place f t = grind (arith, nat_tests)

pub between-by : {X : Type 0} (key : X → ℕ) (place : ℕ) (elements rest at : List X) (k c : ℕ)
    → IsPartitionPoint (λ l. ltb (key l) place ≡ true) (λ l. ltb (key l) place ≡ false) elements k → rest ≡ drop k elements
    → IsPartitionPoint (λ l. leb (key l) place ≡ true) (λ l. leb (key l) place ≡ false) rest c → at ≡ take c rest
    → at ≡ filter (λ l. eqb (key l) place) elements
between-by {X} key place elements rest at k c first at_rest second at_front =
    let here : X → Bool = λ l. eqb (key l) place in
    let before = filter-none here (take k elements) (λ j d low. below-other (key (get_or (take k elements) j d)) place (in-front (λ l. ltb (key l) place ≡ true) elements k first.0 j d low)) in
    let not_below : All (λ l. ltb (key l) place ≡ false) rest = subst (All (λ l. ltb (key l) place ≡ false)) (sym at_rest) (behind (λ l. ltb (key l) place ≡ false) elements k first.1) in
    let in_front_not_below : All (λ l. ltb (key l) place ≡ false) (take c rest) = λ j d low.
    let front = length-take c rest in
    subst (λ (l : X). ltb (key l) place ≡ false) (sym (get_or-take c rest j d (omega arith))) (not_below j d (omega arith)) in
    let middle = filter-every here (take c rest) (λ j d low. between (key (get_or (take c rest) j d)) place (in_front_not_below j d low) (in-front (λ l. leb (key l) place ≡ true) rest c second.0 j d low)) in
    let after = filter-none here (drop c rest) (λ j d low. above-other (key (get_or (drop c rest) j d)) place (behind (λ l. leb (key l) place ≡ false) rest c second.1 j d low)) in
    let inner : filter here rest ≡ take c rest = filter-cut here rest c ∙ ap (λ (l : List X). filter here (take c rest) ++ l) after ∙ append-nil (filter here (take c rest)) ∙ middle in
    let outer : filter here elements ≡ filter here rest = filter-cut here elements k ∙ ap (λ (l : List X). l ++ filter here (drop k elements)) before ∙ ap (filter here) (sym at_rest) in
    at_front ∙ sym inner ∙ sym outer
