use Rattle.std.proofs.Common.{◌≡◌, None, length, take, filter_map}
use Rattle.csv.specs.Records.{fields_of}
use Rattle.cq_text.specs.Field.{value_of_field}
use Rattle.cq_csv.specs.Csv.{field_flaw, first_wrong}
use Rattle.cq_csv.proofs.records.push_values.Given as goal

abbrev pub invariant-loop-field : goal.invariant-loop-field
invariant-loop-field g l = record {
  record_is : l.field-iterator.row.now ≡ l.fn.fields;
  fields : first_wrong field_flaw (take l.field-iterator.at (fields_of l.fn.fields)) ≡ None;
  values : l.values.items ≡ filter_map value_of_field (take l.field-iterator.at (fields_of l.fn.fields));
  count : length (take l.field-iterator.at (fields_of l.fn.fields)) ≡ length l.values.items;
}
