-- The front of a line that is kept.
use Rattle.std.specs.Prelude.{ℕ, List, take}
use Rattle.cq_report.specs.declared.line_buffer.TheConstants.{KEPT}

-- All of the line, or as much of it as tells that it is too long.
unfoldable pub kept : List ℕ → List ℕ
kept line = take KEPT line
