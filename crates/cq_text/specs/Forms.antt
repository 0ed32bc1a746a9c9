-- The limits of each form of scripts. (this project's profile)
use Rattle.std.specs.Prelude.{ℕ}
use Rattle.cq_atom.specs.Limits.{max_arity, max_atoms}
use Rattle.cq_text.specs.Limits.{max_bytes}
use Rattle.cq_text.specs.declared.form.Form.{Form}
use Rattle.cq_text.specs.declared.form.Form.TheVariants.{One, Two}

-- The most terms of an atom, and the most columns of a relation.
abbrev pub most_terms : Form → ℕ
most_terms One = 8
most_terms Two = max_arity

-- The most atoms of a part of a query.
abbrev pub most_atoms : Form → ℕ
most_atoms One = 8
most_atoms Two = max_atoms

-- The most bytes of a line or of a query's text.
abbrev pub most_bytes : Form → ℕ
most_bytes One = 131072
most_bytes Two = max_bytes

-- The number that a `board` line names a form by.
abbrev pub number_of_form : Form → ℕ
number_of_form One = 1
number_of_form Two = 2
