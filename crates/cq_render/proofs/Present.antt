-- What is in a list is found there.
use Rattle.std.proofs.Common.{◌≡◌, ◌<◌, None, ℕ, List, length, inl, inr, arith}
use Rattle.std.specs.List.{slice_get}
use Rattle.std.proofs.lemmas.Option.{slice_get_cases}

-- an element below the length is not missed
pub not_missed : {X : Type 0} (xs : List X) (n i : ℕ) → n ≡ length xs → i < n → slice_get xs i ≡ None → ⊥
not_missed xs n i many low none = elim ((slice_get_cases xs i).1) [ inl there ↦ cc (none, there.2) | inr past ↦ omega (arith, past.0, many, low) ]
