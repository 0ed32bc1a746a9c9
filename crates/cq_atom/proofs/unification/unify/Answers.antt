use Rattle.std.proofs.Common.{sym, ◌∙◌}
use Rattle.cq_atom.proofs.Finite.{unify-tells}
use Rattle.cq_atom.proofs.Never.{unify-never}
use Rattle.cq_atom.proofs.unification.unify.Goals as goal

pub returns-then-eq-clause-unifies : goal.returns-then-eq-clause-unifies
returns-then-eq-clause-unifies g c =
    unify-tells c.args.a.now c.args.b.now c.can_meet.result c.terms.result.now c.terms-then-eq.result.now c.relation.result.now c.relation-2.result.now
    c.relation.ensures.value c.relation-2.ensures.value (sym c.eq.ensures ∙ c.if-eq.true) c.terms.ensures.value c.terms-then-eq.ensures.value c.can_meet.ensures

pub returns-else-eq-clause-unifies : goal.returns-else-eq-clause-unifies
returns-else-eq-clause-unifies g c =
    unify-never c.args.a.now c.args.b.now c.eq.result c.relation.result.now c.relation-2.result.now c.relation.ensures.value c.relation-2.ensures.value c.eq.ensures c.if-eq.false
