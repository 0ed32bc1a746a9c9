use Rattle.std.proofs.Common.{◌≡◌, ◌++◌, take, drop}
use Rattle.cq_csv.specs.Csv.{first_lines}
use Rattle.cq_csv.proofs.lines.first_lines.Given as goal

abbrev pub invariant-loop-place : goal.invariant-loop-place
invariant-loop-place l = first_lines l.count l.bytes ≡ take l.place l.bytes ++ first_lines l.left (drop l.place l.bytes)
