use Rattle.std.proofs.Common.{ap, arith, length}
use Rattle.cq_csv.proofs.Csv.{strip_bom-length}
use Rattle.cq_csv.proofs.lines.count_records.Goals as goal

pub count_left-requires-clause-most : goal.count_left-requires-clause-most
count_left-requires-clause-most c = omega (arith, ap length c.reader_of-reader.ensures.text, strip_bom-length c.args.bytes.now)
