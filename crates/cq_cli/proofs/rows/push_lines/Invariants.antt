use Rattle.std.proofs.Common.{◌≡◌, ◌++◌, take, string_bytes}
use Rattle.cq_cli.specs.Rows.{rows_output}
use Rattle.cq_cli.proofs.rows.push_lines.Given as goal

abbrev pub invariant-loop-row : goal.invariant-loop-row
invariant-loop-row g l = string_bytes l.lines ≡ string_bytes l.initial.lines ++ rows_output (take l.row-index l.rows)
