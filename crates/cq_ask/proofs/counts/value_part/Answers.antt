use Rattle.std.proofs.Common.{◌≤◌, ◌<◌, ◌^◌, ◌∙◌, ◌++◌, ℕ, List, ap, append-nil, arith}
use Rattle.std.specs.Prelude.{decimal}
use Rattle.std.proofs.lemmas.Bool.{le-leb, lt-leb}
use Rattle.cq_render.specs.Limits.{most_kept}
use Rattle.cq_ask.proofs.Counted.{number_text, quoted_text}
use Rattle.cq_ask.proofs.counts.value_part.Goals.{then-number-from, else-number-from}
use Rattle.cq_ask.proofs.counts.value_part.Goals as goal

pub returns : goal.returns
returns c =
    let n = c.args.number in
    let words = c.args.words.now in
    let small : n < 2 ^ 128 = omega (arith, c.ranges.number) in
    elim c.if-number-from.branch [
      | then-number-from w ↦
          let few : n ≤ most_kept = omega (arith, w.if-number-from.true, c.from.ensures) in
          ap (λ mark. words ++ ((mark.now ++ decimal n) ++ mark.now)) w.mark-is ∙ ap (λ (z : List ℕ). words ++ z) (append-nil (decimal n) ∙ number_text n (le-leb n most_kept few))
      | else-number-from w ↦
          let many : most_kept < n = omega (arith, w.if-number-from.false, c.from.ensures) in
          ap (λ mark. words ++ ((mark.now ++ decimal n) ++ mark.now)) w.mark-is ∙ ap (λ (z : List ℕ). words ++ z) (quoted_text n small (lt-leb n most_kept many))
    ]
