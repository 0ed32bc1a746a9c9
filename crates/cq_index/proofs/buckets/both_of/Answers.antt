use Rattle.std.proofs.Common.{nat_eq, ap, ◌∙◌}
use Rattle.std.specs.Cmp.{nat_eq_equiv}
use Rattle.std.specs.List.{list_any}
use Rattle.std.specs.HashSet.{contains}
use Rattle.std.proofs.lemmas.Result.{IfOk-from_err}
use Rattle.cq_index.proofs.Filled.{two-in}
use Rattle.cq_index.proofs.buckets.both_of.Goals as goal

pub returns-in_err-insert : goal.returns-in_err-insert
returns-in_err-insert g c = IfOk-from_err c.from_residual.result _ c.from_residual.ensures.0

pub returns-in_err-insert-2 : goal.returns-in_err-insert-2
returns-in_err-insert-2 g c = IfOk-from_err c.from_residual-in_err-insert-2.result _ c.from_residual-in_err-insert-2.ensures.0

pub returns-in_err-new : goal.returns-in_err-new
returns-in_err-new g c = IfOk-from_err c.from_residual-in_err-new.result _ c.from_residual-in_err-new.ensures.0

pub returns : goal.returns
returns g c p =
    two-in (nat_eq c.args.other p) (nat_eq c.args.one p) (nat_eq p c.args.one) (contains nat_eq c.in_ok-new.field-0.value p) (contains nat_eq c.insert.new.self p) (contains nat_eq c.new-places.result p)
    (ap (λ places. contains nat_eq places p) c.in_ok-new.ensures.ok ∙ c.in_ok-insert-2.ensures.updates.0 p) (c.in_ok-insert.ensures.updates.0 p) (ap (list_any (nat_eq p)) c.new-places.ensures.empty) (nat_eq_equiv.symm p c.args.one)
