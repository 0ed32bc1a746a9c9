use Rattle.std.proofs.Common.{◌++◌, ◌∷◌, ℕ, List, drop, sym, ap, subst, ◌∙◌}
use Rattle.cq_report.specs.Lines.{HasNoEnd}
use Rattle.cq_report.proofs.Cutting.{HasNoEnd-before, HasNoEnd-none, cut_first}
use Rattle.cq_report.proofs.running.first_line.Goals as goal

pub returns-in_err-end-clause-none : goal.returns-in_err-end-clause-none
returns-in_err-end-clause-none c = rw c.from_residual.ensures (HasNoEnd-none c.args.bytes.now (sym c.in_err-end.ensures))

pub returns-clause-line : goal.returns-clause-line
returns-clause-line c = subst HasNoEnd (sym c.split_at.ensures.front) (HasNoEnd-before c.args.bytes.now c.in_ok-end.end (sym c.in_ok-end.ensures))

pub returns-clause-cut : goal.returns-clause-cut
returns-clause-cut c =
    let rest = c.split_at-2.ensures.back ∙ ap (drop 1) c.split_at.ensures.back in
    cut_first c.args.bytes.now c.in_ok-end.end (sym c.in_ok-end.ensures)
    ∙ ap (λ (l : List ℕ). l ++ (10 ∷ drop 1 (drop c.in_ok-end.end c.args.bytes.now))) (sym c.split_at.ensures.front)
    ∙ ap (λ (l : List ℕ). c.split_at.result.0.now ++ (10 ∷ l)) (sym rest)
