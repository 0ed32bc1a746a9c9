use Rattle.std.proofs.Common.{◌≡◌, ◌∙◌, ℕ, Option, None, sym, ap, subst}
use Rattle.std.specs.Prelude.{Err}
use Rattle.std.proofs.lemmas.Result.{IfOk-weaker}
use Rattle.cq_desk.specs.Machine.{reopened}
use Rattle.cq_board.specs.Pool.{PoolRecord}
use Rattle.cq_board.specs.Setup.{relation_fault, with_relation}
use Rattle.cq_board.specs.declared.setup.RelationFault.{RelationFault}
use Rattle.cq_board.specs.declared.setup.RelationFault.TheVariants.{Refused, InUse}
use Rattle.cq_report.specs.declared.outcome.Outcome.{Outcome}
use Rattle.cq_report.specs.declared.outcome.Outcome.TheVariants.{Accepted}
use Rattle.cq_report.specs.Machine.{ServingRecord, declared_later, shown}
use Rattle.cq_report.proofs.Resetting.{accepted, refused}
use Rattle.cq_report.proofs.later.declare.Goals as goal

pub returns-in-Ok-clause-ok : goal.returns-in-Ok-clause-ok
returns-in-Ok-clause-ok g c =
    let floor = c.args.floor.now in
    let name = c.args.name.now in
    let arity = c.args.arity in
    let here : c.in_ok-board.board ≡ shown floor = c.in_ok-board.ensures ∙ c.board.ensures in
    let none : relation_fault (shown floor) name arity ≡ None =
    subst (λ (pool : PoolRecord). relation_fault pool name arity ≡ None) here (accepted (relation_fault c.in_ok-board.board name arity) c.declare.result c.in-Ok.field-0 c.declare.ensures.answer c.in-Ok.is) in
    let Told : PoolRecord → ℕ → ServingRecord × Outcome = λ pool limit. (reopened pool limit floor, Accepted) in
    IfOk-weaker c.reopen.result _ _
    (λ outcome is. is ∙ ap (λ pool. Told pool c.limit.result) (c.in-Ok.ensures.ok ∙ ap (λ (pool : PoolRecord). with_relation pool name arity) here) ∙ ap (Told (with_relation (shown floor) name arity)) c.limit.ensures
    ∙ sym (ap (λ (fault : Option RelationFault). declared_later fault floor (with_relation (shown floor) name arity)) none))
    c.reopen.ensures.ok

pub returns-in-Err-Refused-clause-ok : goal.returns-in-Err-Refused-clause-ok
returns-in-Err-Refused-clause-ok g c =
    let floor = c.args.floor.now in
    let name = c.args.name.now in
    let arity = c.args.arity in
    let here : c.in_ok-board.board ≡ shown floor = c.in_ok-board.ensures ∙ c.board.ensures in
    let some = refused (relation_fault c.in_ok-board.board name arity) c.declare.result (Refused c.in-Err-Refused.fault) c.declare.ensures.answer (c.in-Err-Refused.is ∙ ap Err c.in-Err-Refused.field-0-is) (λ never. absurd cc) in
    sym (ap (λ (pool : PoolRecord). declared_later (relation_fault pool name arity) floor (with_relation (shown floor) name arity)) (sym here) ∙ ap (λ (fault : Option RelationFault). declared_later fault floor (with_relation (shown floor) name arity)) some)

pub returns-in-Err-InUse-clause-ok : goal.returns-in-Err-InUse-clause-ok
returns-in-Err-InUse-clause-ok g c =
    let floor = c.args.floor.now in
    let name = c.args.name.now in
    let arity = c.args.arity in
    let here : c.in_ok-board.board ≡ shown floor = c.in_ok-board.ensures ∙ c.board.ensures in
    let some = refused (relation_fault c.in_ok-board.board name arity) c.declare.result InUse c.declare.ensures.answer (c.in-Err-InUse.is ∙ ap Err c.in-Err-InUse.field-0-is) (λ never. absurd cc) in
    sym (ap (λ (pool : PoolRecord). declared_later (relation_fault pool name arity) floor (with_relation (shown floor) name arity)) (sym here) ∙ ap (λ (fault : Option RelationFault). declared_later fault floor (with_relation (shown floor) name arity)) some)
