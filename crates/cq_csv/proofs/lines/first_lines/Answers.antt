use Rattle.std.proofs.Common.{◌++◌, ◌∙◌, ap, sym, List, ℕ, take, drop}
use Rattle.std.proofs.lemmas.List.{append-nil}
use Rattle.cq_csv.specs.Csv.{first_lines}
use Rattle.cq_csv.proofs.Fronts.{no_lines}
use Rattle.cq_csv.proofs.lines.first_lines.Goals as goal

pub returns-then-left-eq0 : goal.returns-then-left-eq0
returns-then-left-eq0 c =
    let bytes = c.args.bytes.now in
    let i = c.loop-place.place in
    let rest = drop i bytes in
    let none = ap (λ (n : ℕ). first_lines n rest) c.if-left-eq0.true ∙ no_lines rest in
    sym (c.loop-place.invariant ∙ ap (λ (l : List ℕ). take i bytes ++ l) none ∙ append-nil (take i bytes))
