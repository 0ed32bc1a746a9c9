-- What is picked from a list.
use Rattle.std.specs.Prelude.{◌≡◌, ◌⊎◌, ℕ, List, [], ◌∷◌}

-- The second list has those of the first that have the property, in their order.
abbrev pub Picks : (ℕ → Type 0) → List ℕ → List ℕ → Type 0
Picks P [] ys = ys ≡ []
Picks P (x ∷ xs) ys = (P x × (rest : List ℕ) × (ys ≡ x ∷ rest) × Picks P xs rest) ⊎ ((P x → ⊥) × Picks P xs ys)
