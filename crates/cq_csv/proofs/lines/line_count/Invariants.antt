use Rattle.std.proofs.Common.{◌≡◌, ◌≤◌, ◌+◌, ◌++◌, ℕ, take, drop}
use Rattle.cq_csv.specs.Csv.{first_lines}
use Rattle.cq_csv.proofs.lines.line_count.Given as goal

abbrev pub invariant-loop-byte : goal.invariant-loop-byte
invariant-loop-byte l = record {
  few : l.count ≤ l.byte-index + 1;
  some : 1 ≤ l.count;
  lines : (more : ℕ) → first_lines (l.count + more) l.bytes ≡ take l.byte-index l.bytes ++ first_lines (1 + more) (drop l.byte-index l.bytes);
}
