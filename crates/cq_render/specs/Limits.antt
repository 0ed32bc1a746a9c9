-- Which numbers all readers of JSON keep. (this project's profile)
use Rattle.std.specs.Prelude.{ℕ}

-- The greatest whole number that is kept as it is, as is minus it: 2^53.
abbrev pub most_kept : ℕ
most_kept = 9007199254740992
