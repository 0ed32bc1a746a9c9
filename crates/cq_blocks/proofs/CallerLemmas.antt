-- What callers make of the places that a search finds.
use Rattle.std.proofs.Common.{◌≡◌, ℕ, ◌≤◌, Bool, true, false, true≢false, List, [], ◌∷◌, length, get_or, inl, inr, sym, ◌∙◌, arith}
use Rattle.std.specs.List.Sorted.{IsPartitionPoint}
use Rattle.std.proofs.lemmas.Bool.{cases_lt}

-- where all that pass the one test pass the other, the place of the one is not after that of the other
pub points-rise : {X : Type 0} (p q : X → Bool) (xs : List X) (i j : ℕ) → ((x : X) → p x ≡ true → q x ≡ true) → i ≤ length xs → IsPartitionPoint (λ y. p y ≡ true) (λ y. p y ≡ false) xs i
    → IsPartitionPoint (λ y. q y ≡ true) (λ y. q y ≡ false) xs j → i ≤ j
points-rise p q [] i j implies within first second = omega (arith, within)
points-rise p q (x ∷ xs) i j implies within first second =
    elim (cases_lt j i) [
      | inl less ↦
          absurd (true≢false (sym (implies (get_or (x ∷ xs) j x) (first.0 j x (omega arith) less)) ∙ second.1 j x (omega arith) (omega (arith, less, within))))
      | inr le ↦ le
    ]
