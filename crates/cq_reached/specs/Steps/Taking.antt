-- How one query after the other is taken.
use Rattle.std.specs.Prelude.{◌≡◌, ◌⊎◌, ℕ, List, [], ◌∷◌, ◌++◌, map}
use Rattle.cq_board.specs.Pool.{PoolRecord}
use Rattle.cq_reached.specs.declared.quick.Taken.{Taken}
use Rattle.cq_reached.specs.Reached.{CanGo, AreReached}

-- What is kept of those that are taken, as names.
abbrev pub names_of : {A : Type 0} → List (Taken A) → List (List ℕ)
names_of taken = map (λ t. t.name.now) taken

-- The name goes after those that were taken, or no coordinating choice has it and all of them.
abbrev pub IsNext : PoolRecord → List (List ℕ) → List ℕ → List (List ℕ) → Type 0
IsNext pool taken name after = (after ≡ taken ++ name ∷ []) ⊎ ((CanGo pool (taken ++ name ∷ []) → ⊥) × (after ≡ taken))

-- These are taken of the names, if only some coordinating choice has them all.
abbrev pub AreTaken : PoolRecord → List (List ℕ) → List (List ℕ) → Type 0
AreTaken pool names taken = CanGo pool taken → AreReached pool [] names taken

-- What is taken of the rest, after these, is what is taken of all names, if only some coordinating choice has it all.
abbrev pub LeadsOn : PoolRecord → List (List ℕ) → List (List ℕ) → List (List ℕ) → Type 0
LeadsOn pool names taken rest = (all : List (List ℕ)) → CanGo pool all → AreReached pool taken rest all → AreReached pool [] names all
