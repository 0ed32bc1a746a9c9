-- What a history of changes leaves. (this project's profile)
use Rattle.std.specs.Prelude.{ℕ, ◌+◌, ◌-◌, ◌≤◌, List, [], ◌∷◌}
use Rattle.cq_budget.specs.declared.change.Change.{Change}
use Rattle.cq_budget.specs.declared.change.Change.TheVariants.{Opened, Took, Gave}

-- The bytes that are out after one change more.
abbrev pub out_after : ℕ → Change → ℕ
out_after out (Opened _) = out
out_after out (Took bytes) = out + bytes
out_after out (Gave bytes) = out - bytes

-- The bytes that are out after these changes, where so many were out before them.
abbrev pub out_from : ℕ → List Change → ℕ
out_from out [] = out
out_from out (change ∷ changes) = out_from (out_after out change) changes

-- The bytes that are out after a history.
abbrev pub out_of : List Change → ℕ
out_of history = out_from 0 history

-- The budget, with which a history begins.
abbrev pub budget_of : List Change → ℕ
budget_of [] = 0
budget_of (Opened bytes ∷ _) = bytes
budget_of (Took _ ∷ _) = 0
budget_of (Gave _ ∷ _) = 0

-- No more is out than the budget.
abbrev pub IsWithin : List Change → Type 0
IsWithin history = out_of history ≤ budget_of history
