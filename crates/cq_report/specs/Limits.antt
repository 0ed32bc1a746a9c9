-- The limits of a script that names none. (this project's profile)
use Rattle.std.specs.Prelude.{ℕ}

-- The most pending queries.
abbrev pub pool_limit : ℕ
pool_limit = 1000

-- The most journal entries.
abbrev pub journal_limit : ℕ
journal_limit = 100000
