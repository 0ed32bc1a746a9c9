use Rattle.std.proofs.Common.{◌≡◌, ◌∙◌, Option, None, sym, ap, subst}
use Rattle.std.proofs.lemmas.Result.{IfOk-weaker}
use Rattle.cq_desk.specs.Machine.{reopened}
use Rattle.cq_board.specs.Pool.{PoolRecord}
use Rattle.cq_board.specs.Setup.{limits_fault, with_limits}
use Rattle.cq_board.specs.declared.setup.LimitsFault.{LimitsFault}
use Rattle.cq_report.specs.declared.outcome.Outcome.{Outcome}
use Rattle.cq_report.specs.declared.outcome.Outcome.TheVariants.{Accepted}
use Rattle.cq_report.specs.Machine.{ServingRecord, limited_later, shown}
use Rattle.cq_report.proofs.Resetting.{limited, too_many}
use Rattle.cq_report.proofs.later.limit.Goals as goal

pub returns-in-Ok-clause-ok : goal.returns-in-Ok-clause-ok
returns-in-Ok-clause-ok g c =
    let floor = c.args.floor.now in
    let limits = c.args.limits in
    let here : c.in_ok-board.board ≡ shown floor = c.in_ok-board.ensures ∙ c.board.ensures in
    let none : limits_fault (shown floor) limits ≡ None =
    subst (λ (pool : PoolRecord). limits_fault pool limits ≡ None) here (limited (limits_fault c.in_ok-board.board limits) c.set_limits.result c.in-Ok.field-0 c.set_limits.ensures.answer c.in-Ok.is) in
    let Told : PoolRecord → ServingRecord × Outcome = λ pool. (reopened pool limits.journal floor, Accepted) in
    IfOk-weaker c.reopen.result _ _
    (λ outcome is. is ∙ ap Told (c.in-Ok.ensures.ok ∙ ap (λ (pool : PoolRecord). with_limits pool limits) here)
    ∙ sym (ap (λ (fault : Option LimitsFault). limited_later fault floor (with_limits (shown floor) limits)) none))
    c.reopen.ensures.ok

pub returns-in-Err-clause-ok : goal.returns-in-Err-clause-ok
returns-in-Err-clause-ok g c =
    let floor = c.args.floor.now in
    let limits = c.args.limits in
    let here : c.in_ok-board.board ≡ shown floor = c.in_ok-board.ensures ∙ c.board.ensures in
    let some = too_many (limits_fault c.in_ok-board.board limits) c.set_limits.result c.in-Err.field-0 c.set_limits.ensures.answer c.in-Err.is in
    sym (ap (λ (pool : PoolRecord). limited_later (limits_fault pool limits) floor (with_limits (shown floor) limits)) (sym here) ∙ ap (λ (fault : Option LimitsFault). limited_later fault floor (with_limits (shown floor) limits)) some)
