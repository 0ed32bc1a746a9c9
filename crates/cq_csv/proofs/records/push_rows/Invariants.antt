use Rattle.std.proofs.Common.{◌≡◌, List, length, drop, map}
use Rattle.csv.specs.Reading.{strip_bom}
use Rattle.cq_csv.specs.Csv.{AreGood, CsvRecord, config_of, header_count, row_of_record}
use Rattle.cq_csv.specs.Steps.Csv.{IsBehind}
use Rattle.cq_csv.proofs.records.push_rows.Given as goal

abbrev pub invariant-loop-place : goal.invariant-loop-place
invariant-loop-place g l = record {
  read : List CsvRecord;
  behind : IsBehind (config_of l.fn.layout) (strip_bom l.fn.bytes) read l.reader;
  count : length read ≡ l.place;
  good : AreGood l.fn.arity (drop (header_count l.fn.layout) read);
  rows : l.rows.items ≡ map (row_of_record l.fn.relation) (drop (header_count l.fn.layout) read);
}
