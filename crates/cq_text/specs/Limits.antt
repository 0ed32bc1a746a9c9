-- The limits of texts that no single form has. (this project's profile)
use Rattle.std.specs.Prelude.{ℕ}

-- The most bytes of a line or of a query's text in any form.
abbrev pub max_bytes : ℕ
max_bytes = 524288

-- The greatest number of a form that `board` may name.
abbrev pub max_form : ℕ
max_form = 2

-- The most that `limits` may name, of pending queries and of journal entries.
abbrev pub max_count : ℕ
max_count = 1000000
