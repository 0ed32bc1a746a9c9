use Rattle.std.proofs.Common.{◌≡◌, ◌∙◌, ◌+◌, ◌++◌, ap, arith, List, ℕ, take, drop}
use Rattle.std.proofs.lemmas.List.{append-nil, drop_all, take_all}
use Rattle.cq_csv.specs.Csv.{first_lines}
use Rattle.cq_csv.proofs.Fronts.{line_ended, line_goes_on}
use Rattle.cq_csv.proofs.lines.line_count.Goals.{then-byte-eq10, else-byte-eq10}
use Rattle.cq_csv.proofs.lines.line_count.Goals as goal

pub loop-byte-preserved : goal.loop-byte-preserved
loop-byte-preserved c =
    let i = c.loop-byte.invariant in
    let bytes = c.args.bytes.now in
    let at = c.loop-byte.byte-index in
    elim c.if-byte-eq10.branch [
      | then-byte-eq10 w ↦ record {
        few = omega (arith, i.few, w.count-is);
        some = omega (arith, w.count-is);
        lines = λ more.
            let one : c.if-byte-eq10.count + more ≡ c.loop-byte.count + (1 + more) = omega (arith, w.count-is) in
            let two : 1 + (1 + more) ≡ (1 + more) + 1 = omega arith in
            ap (λ (n : ℕ). first_lines n bytes) one ∙ i.lines (1 + more) ∙ ap (λ (n : ℕ). take at bytes ++ first_lines n (drop at bytes)) two
            ∙ line_ended bytes at (1 + more) c.loop-byte-test.true w.if-byte-eq10.true;
      }
      | else-byte-eq10 w ↦ record {
        few = omega (arith, i.few, w.count-is);
        some = omega (arith, i.some, w.count-is);
        lines = λ more.
            ap (λ (n : ℕ). first_lines (n + more) bytes) w.count-is ∙ i.lines more ∙ line_goes_on bytes at (1 + more) c.loop-byte-test.true w.if-byte-eq10.false (omega arith);
      }
    ]

pub returns : goal.returns
returns c =
    let bytes = c.args.bytes.now in
    let at = c.loop-byte.byte-index in
    let none : c.loop-byte.count ≡ c.loop-byte.count + 0 = omega arith in
    let all = ap (λ (l : List ℕ). take at bytes ++ first_lines 1 l) (drop_all at bytes c.loop-byte-test.false) in
    ap (λ (n : ℕ). first_lines n bytes) none ∙ c.loop-byte.invariant.lines 0 ∙ all ∙ append-nil (take at bytes) ∙ take_all at bytes c.loop-byte-test.false
