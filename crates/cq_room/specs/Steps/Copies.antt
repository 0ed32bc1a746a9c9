-- What contracts see of two copies. (this project's profile)
use Rattle.std.specs.Prelude.{List}

-- What is shown, and the operations that readers do not see yet.
pub record CopiesRecord (T O : Type 0) : Type 0 where
  pub shown : T
  pub pending : List O
