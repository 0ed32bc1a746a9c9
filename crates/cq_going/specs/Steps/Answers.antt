-- What is told of an answer.
use Rattle.std.specs.Prelude.{⊤, ℕ, List}
use Rattle.cq_board.specs.Pool.{PoolRecord}
use Rattle.cq_choose.specs.declared.choosing.Answer.{Answer}
use Rattle.cq_choose.specs.declared.choosing.Answer.TheVariants.{Found, Impossible, Undecided}
use Rattle.cq_going.specs.Going.{IsFor, HasNone}

-- Choices were found for the names, or there are none.
abbrev pub IsAnswerFor : {A : Type 0} → PoolRecord → List (List ℕ) → Answer A → Type 0
IsAnswerFor pool names (Found choices) = IsFor pool names choices.items
IsAnswerFor pool names Impossible = HasNone pool names
IsAnswerFor pool names Undecided = ⊤
