-- What contracts see of a room's parts. (this project's profile)
use Rattle.std.specs.Prelude.{ℕ}
use Rattle.logbook.specs.Pages.{Book}

-- The histories of what is published and of what is entered, the opening content, how many entries the journal may hold, and how many sessions there are.
pub record PartsRecord (C : Type 0) : Type 0 where
  pub book : Book × Book
  pub opening : C
  pub limit : ℕ
  pub sessions : ℕ
