-- What is known of a change, by how it ended. (this project's profile)
use Rattle.std.specs.Prelude.{ℕ, ◌+◌, ◌<◌, ◌≤◌, List, length}
use mathlib.Core.List.{IsPrefix}
use Rattle.cq_budget.specs.declared.change.Change.{Change}
use Rattle.cq_budget.specs.declared.count.End.{End}
use Rattle.cq_budget.specs.declared.count.End.TheVariants.{Made, Full, Lost}
use Rattle.cq_budget.specs.Counting.{out_after, out_of, budget_of, IsWithin}
use Rattle.cq_budget.specs.Steps.Rules.{EndsWith}

-- It stands last in a history that began so; or such a history left no room for it; or so many changes of other threads stand in it.
abbrev pub Settles : ℕ → End → List Change → Change → List Change → Type 0
Settles tries Made begun change history = EndsWith begun change history × IsWithin history
Settles tries Full begun change history = IsPrefix begun history × (budget_of history < out_after (out_of history) change)
Settles tries Lost begun change history = IsPrefix begun history × (length begun + tries ≤ length history)
