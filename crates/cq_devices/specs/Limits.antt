-- The limits of reads. (this project's profile)
use Rattle.std.specs.Prelude.{ℕ}

-- The most reads of one call that reads a source to its end.
abbrev pub max_reads : ℕ
max_reads = 1048576

-- The most bytes that one read of such a call asks for.
abbrev pub max_piece : ℕ
max_piece = 4096
