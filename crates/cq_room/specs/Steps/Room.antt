-- What contracts see of a locked desk. (this project's profile)
use Rattle.std.specs.Prelude.{ℕ, List}
use Rattle.cq_desk.specs.declared.journal.Entry.{Entry}
use Rattle.cq_desk.specs.History.{History}

-- The accepted edits with their authors, the publications that are shown, and how many entries came before the last checkpoint.
pub record LockedRecord (E : Type 0) : Type 0 where
  pub journal : List (Entry E)
  pub shown : History (Entry E)
  pub base : ℕ
