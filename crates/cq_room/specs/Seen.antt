-- What contracts see of one copy of a state. (this project's profile)
use Rattle.std.specs.Prelude.{List}
use Rattle.cq_room.specs.declared.mark.Mark.{Mark}

-- A content, and the marks whose edits it has taken in.
pub record ShownRecord (E C : Type 0) : Type 0 where
  pub marks : List (Mark E)
  pub content : C
