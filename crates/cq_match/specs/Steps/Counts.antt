-- The numbers that a node keeps for its postconditions.
use Rattle.std.specs.Prelude.{ℕ, List, [], ◌∷◌}
use Rattle.cq_match.specs.declared.counts.Numbers.{Numbers}
use Rattle.cq_match.specs.declared.counts.Numbers.TheVariants.{Empty, One, Many}

abbrev pub numbers_in : {A : Type 0} → Numbers A → List ℕ
numbers_in Empty = []
numbers_in (One count) = count ∷ []
numbers_in (Many counts) = counts.items
