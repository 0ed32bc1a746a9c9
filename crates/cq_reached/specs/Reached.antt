-- Coordinating choices for the queries that are reached, where each comes after those that were posted before it.
-- (coordinating sets: Gupta et al., SIGMOD 2011; who is reached: this project's profile)
use Rattle.std.specs.Prelude.{◌≡◌, ◌⊎◌, ℕ, List, [], ◌∷◌, ◌++◌}
use Rattle.cq_board.specs.Pool.{PoolRecord}
use Rattle.cq_board.specs.Named.{matched_names}
use Rattle.cq_board.specs.Choice.{ChoiceRecord}
use Rattle.cq_choose.specs.Choosing.{IsChoiceFor}

-- Some coordinating choice has them all.
abbrev pub CanGo : PoolRecord → List (List ℕ) → Type 0
CanGo pool names = (choices : List ChoiceRecord) × IsChoiceFor pool names choices

-- One after the other of the names, each is taken of which some coordinating choice has it and all that were taken before.
abbrev pub AreReached : PoolRecord → List (List ℕ) → List (List ℕ) → List (List ℕ) → Type 0
AreReached pool taken [] all = all ≡ taken
AreReached pool taken (name ∷ names) all =
    (CanGo pool (taken ++ name ∷ []) × AreReached pool (taken ++ name ∷ []) names all) ⊎ ((CanGo pool (taken ++ name ∷ []) → ⊥) × AreReached pool taken names all)

-- The choices coordinate and have the matched queries that are reached in posting order.
abbrev pub IsReachedChoice : PoolRecord → List ChoiceRecord → Type 0
IsReachedChoice pool choices = (taken : List (List ℕ)) × AreReached pool [] (matched_names pool) taken × IsChoiceFor pool taken choices
