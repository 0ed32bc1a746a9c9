-- What is asked of a pool. (this project's profile)
use Rattle.std.specs.Prelude.{ℕ, List}
use Rattle.cq_atom.specs.Atom.{RowRecord}
use Rattle.cq_atom.specs.Query.{QueryRecord}
use Rattle.cq_atom.specs.declared.edit.EditKind.{EditKind}

-- An edit, by the bytes of its names and by the parts of its query or row.
abbrev pub Edit : Type 0
Edit = EditKind (List ℕ) QueryRecord RowRecord
