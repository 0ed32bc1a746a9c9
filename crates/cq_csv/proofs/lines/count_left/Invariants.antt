use Rattle.std.proofs.Common.{◌≡◌, List, length}
use Rattle.csv.specs.Reading.{reader_config}
use Rattle.cq_csv.specs.Csv.{CsvRecord}
use Rattle.cq_csv.specs.Steps.Csv.{IsBehind, text_left}
use Rattle.cq_csv.proofs.lines.count_left.Given as goal

abbrev pub invariant-loop-place : goal.invariant-loop-place
invariant-loop-place l = record {
  read : List CsvRecord;
  behind : IsBehind (reader_config l.fn.reader) (text_left l.fn.reader) read l.reader;
  count : length read ≡ l.place;
}
