-- The limit of a catalog. (this project's profile)
use Rattle.std.specs.Prelude.{ℕ}

-- The most relations that a catalog declares.
abbrev pub max_relations : ℕ
max_relations = 64
