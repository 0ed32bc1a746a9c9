-- The limits of names, texts, atoms and queries. (this project's profile)
use Rattle.std.specs.Prelude.{ℕ}

-- The most bytes of a name.
abbrev pub max_name : ℕ
max_name = 32

-- The most bytes of a text.
abbrev pub max_text : ℕ
max_text = 255

-- The most terms of an atom, and values of a row.
abbrev pub max_arity : ℕ
max_arity = 16

-- The most atoms of each part of a query.
abbrev pub max_atoms : ℕ
max_atoms = 16
