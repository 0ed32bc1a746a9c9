use Rattle.std.proofs.Common.{sym, ap, ◌∙◌}
use Rattle.std.specs.Ordering.{is_eq}
use Rattle.cq_blocks.proofs.Halving.{computes-next}
use Rattle.cq_blocks.proofs.fate.fate_of.Goals as goal

pub returns-then-not-is_eq-clause-fate : goal.returns-then-not-is_eq-clause-fate
returns-then-not-is_eq-clause-fate g c ord p first second =
    let next = computes-next ord first c.order.ensures in
    (next.0, second, ap is_eq (sym next.1) ∙ sym c.if-not-is_eq.ensures)

pub returns-then-pred-clause-fate : goal.returns-then-pred-clause-fate
returns-then-pred-clause-fate g c ord p first second =
    let next = computes-next ord first c.order.ensures in
    let passes = computes-next p second c.pred.ensures in
    (next.0, passes.0, (ap is_eq (sym next.1) ∙ sym c.if-not-is_eq.ensures, sym passes.1 ∙ c.if-pred.true))

pub returns-else-pred-clause-fate : goal.returns-else-pred-clause-fate
returns-else-pred-clause-fate g c ord p first second =
    let next = computes-next ord first c.order.ensures in
    let passes = computes-next p second c.pred.ensures in
    (next.0, passes.0, (ap is_eq (sym next.1) ∙ sym c.if-not-is_eq.ensures, sym passes.1 ∙ c.if-pred.false))
