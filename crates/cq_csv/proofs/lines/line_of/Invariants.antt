use Rattle.std.proofs.Common.{◌<◌, ◌≤◌, ◌-◌, length}
use Rattle.cq_csv.specs.Csv.{csv_records, first_lines}
use Rattle.cq_csv.proofs.lines.line_of.Given as goal

abbrev pub invariant-loop-high : goal.invariant-loop-high
invariant-loop-high l = record {
  order : l.low < l.high;
  before : length (csv_records l.layout (first_lines l.low l.bytes)) ≤ l.index;
  within : l.index < length (csv_records l.layout (first_lines l.high l.bytes));
}

abbrev pub decreases-loop-high : goal.decreases-loop-high
decreases-loop-high l = l.high - l.low
