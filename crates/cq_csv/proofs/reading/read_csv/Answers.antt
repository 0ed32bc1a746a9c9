use Rattle.std.proofs.Common.{◌≡◌, map}
use Rattle.cq_csv.specs.Csv.{AreGood, IsFirstFault, csv_records, row_of_record}
use Rattle.cq_csv.proofs.Csv.{fault_of_input, rows_of_input}
use Rattle.cq_csv.proofs.reading.read_csv.Goals as goal

pub returns-clause-rows : goal.returns-clause-rows
returns-clause-rows g c =
    rows_of_input _ _ _ c.in_ok-bytes.ensures.whole c.rows_of.result
    (λ rows input. AreGood c.args.arity (csv_records c.args.layout input) × (rows.items ≡ map (row_of_record c.args.relation.now) (csv_records c.args.layout input))) (rw c.as_slice.ensures.value at c.rows_of.ensures.rows)

pub returns-clause-record : goal.returns-clause-record
returns-clause-record g c =
    fault_of_input _ _ _ c.in_ok-bytes.ensures.whole c.rows_of.result
    (λ fault input. IsFirstFault c.args.arity c.args.layout input fault) (rw c.as_slice.ensures.value at c.rows_of.ensures.fault)
