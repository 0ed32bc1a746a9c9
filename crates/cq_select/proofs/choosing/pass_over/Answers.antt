use Rattle.std.proofs.Common.{◌∙◌, true, false, get_or, length, ap, sym}
use Rattle.cq_select.proofs.Turning.{passed-over}
use Rattle.cq_select.proofs.choosing.pass_over.Goals as goal

pub returns-then-is_marked-clause-choosing : goal.returns-then-is_marked-clause-choosing
returns-then-is_marked-clause-choosing g c wanted s =
    let trail = c.args.trail.now in
    passed-over c.args.supply.now wanted trail (length c.suppliers_of.result.now) s
    (ap (λ l. get_or l trail.choice.atom false) (sym c.deref.ensures.value) ∙ sym c.is_marked.ensures ∙ c.if-is_marked.true) (ap length c.suppliers_of.ensures)
