use Rattle.std.proofs.Common.{sym, subst, ◌∙◌}
use Rattle.cq_atom.specs.Text.{is_name}
use Rattle.cq_rel.specs.Tables.{IsCatalog}
use Rattle.cq_rel.proofs.Catalogs.{IsCatalog-declared_as, name-made}
use Rattle.cq_rel.proofs.Refused.{on_err}
use Rattle.cq_rel.proofs.Declared.{answer-fault, answer-none, answer-declared}
use Rattle.cq_rel.proofs.catalog.Catalog.declare.Goals as goal

pub invariant_of-self-2 : goal.invariant_of-self-2
invariant_of-self-2 g c =
    IsCatalog-declared_as c.self.inside.entries.items c.args.self.now c.push.new.self.items c.args.relation.now c.in-Ok.relation c.args.arity c.self.view_is c.self.invariant
    c.in_default.ensures (name-made (is_name c.args.relation.now) c.args.relation.now c.in-Ok.relation c.in-Ok.ensures) c.in_ok-push.ensures.items

pub returns-in-Some-clause-answer : goal.returns-in-Some-clause-answer
returns-in-Some-clause-answer g c = answer-fault _ c.in-Some.fault c.in-Some.ensures

pub returns-in_default-new-clause-answer : goal.returns-in_default-new-clause-answer
returns-in_default-new-clause-answer g c = answer-none _ c.in_default.ensures

pub returns-clause-answer : goal.returns-clause-answer
returns-clause-answer g c = answer-declared _ c.in_default.ensures

pub invariant_of-self : goal.invariant_of-self
invariant_of-self g c = subst IsCatalog (sym c.in_err-push.ensures.items) c.self.invariant

pub returns-in_err-push-clause-err : goal.returns-in_err-push-clause-err
returns-in_err-push-clause-err g c = on_err c.from_residual-in_err-push.result (c.in_err-push.ensures.items ∙ c.self.view_is)
