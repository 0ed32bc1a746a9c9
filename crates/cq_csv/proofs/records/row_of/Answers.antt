use Rattle.std.proofs.Common.{◌≡◌, arith, length, refl}
use Rattle.csv.specs.Records.{fields_of}
use Rattle.cq_csv.proofs.Csv.{made_row, record_good}
use Rattle.cq_csv.proofs.records.row_of.Goals as goal

pub returns-in-Ok-clause-row : goal.returns-in-Ok-clause-row
returns-in-Ok-clause-row g c =
    let width : length (fields_of c.args.fields.now) ≡ c.args.arity = omega (arith, c.if-len-arity.false, c.len.ensures) in
    let made = made_row _ _ c.in-Ok.row c.in-Ok.ensures in
    (record_good c.args.arity (fields_of c.args.fields.now) width c.in_ok-push_values.ensures.fields, rw (made, c.in_ok-push_values.ensures.values) refl)
