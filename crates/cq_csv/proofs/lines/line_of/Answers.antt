use Rattle.std.proofs.Common.{◌≡◌, ◌∙◌, ap, arith, length, List, ℕ}
use Rattle.cq_csv.specs.Csv.{csv_records, first_lines}
use Rattle.cq_csv.proofs.Fronts.{no_lines, no_records, some_lines}
use Rattle.cq_csv.proofs.lines.line_of.Goals as goal

pub loop-high-init : goal.loop-high-init
loop-high-init c =
    let bytes = c.args.bytes.now in
    let count = λ (bs : List ℕ). length (csv_records c.args.layout bs) in
    let none : count (first_lines 0 bytes) ≡ 0 = ap count (no_lines bytes) ∙ ap length (no_records c.args.layout) in
    let all : count (first_lines c.line_count-high.result bytes) ≡ count bytes = ap count c.line_count-high.ensures in
    record {
      order = some_lines c.args.layout bytes c.args.index c.line_count-high.result c.line_count-high.ensures c.requires;
      before = omega (arith, none);
      within = omega (arith, all, c.requires);
    }
