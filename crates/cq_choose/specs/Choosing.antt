-- Coordinating choices in which given queries are chosen for.
-- (coordinating sets: Gupta et al., SIGMOD 2011; given queries: this project's profile)
use Rattle.std.specs.Prelude.{ℕ, ⊤, List, map}
use Rattle.std.specs.List.{All, Contains}
use Rattle.cq_board.specs.Pool.{PoolRecord}
use Rattle.cq_board.specs.Choice.{ChoiceRecord, chosen_name, IsCoordinating}
use Rattle.cq_choose.specs.declared.choosing.Answer.{Answer}
use Rattle.cq_choose.specs.declared.choosing.Answer.TheVariants.{Found, Impossible, Undecided}

-- The choices coordinate, and something is chosen for each of the names.
pub record IsChoiceFor (pool : PoolRecord) (names : List (List ℕ)) (choices : List ChoiceRecord) : Type 0 where
  pub coordinating : IsCoordinating pool choices
  pub named : All (Contains (map chosen_name choices)) names

-- The claim holds of the choices, where some were found.
abbrev pub IfFound : {A : Type 0} → Answer A → (List ChoiceRecord → Type 0) → Type 0
IfFound (Found choices) P = P choices.items
IfFound Impossible P = ⊤
IfFound Undecided P = ⊤
