-- What callers see of a `Budget`. (this project's profile)
use Rattle.std.specs.Prelude.{ℕ}
use Rattle.cq_budget.specs.declared.Budget.{Budget}

-- How many bytes may be out at a time.
abbrev pub bytes_of : {B : Type 0} → Budget B → ℕ
bytes_of heap = heap.count.budget
