use Rattle.std.proofs.Common.{◌≡◌, ◌<◌, ◌≤◌, [], ◌∷◌, if◌then◌else◌, length, ap, sym, ◌∙◌, subst, OnOk, OnErr}
use Rattle.std.specs.Prelude.{IfOk}
use Rattle.cq_desk.specs.History.{edits_of}
use Rattle.cq_room.specs.Steps.Room.{LockedRecord}
use Rattle.cq_room.proofs.Checkpoints.{on_either, on_err, on_ok, since_all}
use Rattle.cq_room.proofs.room.LockedDesk.checkpoint.Goals as goal

pub invariant_of-self : goal.invariant_of-self
invariant_of-self g c = let k = c.self.inside in let inv = c.self.invariant in let old = k.desk in let now = c.checkpoint.new.self in let n = g.N.RoomName in
    on_either c.checkpoint.result _ _ _ c.checkpoint.ensures.ok c.checkpoint.ensures.err
    (λ is. (
      ap (λ v. g.P.Publisher.opening v.publisher ∷ []) is ∙ inv.0,
      ap (λ v. v.limit) is ∙ inv.1,
      inv.2 ∙ sym (ap (λ v. v.journal) is),
      subst (λ v. v.base ≤ (if n.renews then length v.journal else 0)) (sym is) (since_all n.renews (length old.journal) c.requires),
    ))
    (λ is. (
      ap (λ v. g.P.Publisher.opening v.publisher ∷ []) is ∙ inv.0,
      ap (λ v. v.limit) is ∙ inv.1,
      inv.2 ∙ sym (ap (λ v. v.journal) is),
      subst (λ v. v.base ≤ (if n.renews then length v.journal else 0)) (sym is) inv.3,
    ))

pub returns-clause-ok : goal.returns-clause-ok
returns-clause-ok g c =
    let G : LockedRecord g.row.L-Edit.Denot → LockedRecord g.row.L-Edit.Denot = λ v. record v { base = length v.journal } in
    on_ok c.checkpoint.result _ _ (λ is. ap (λ v. record { journal = v.journal; shown = g.P.Publisher.shown v.publisher; base = v.base }) is ∙ ap G c.self.view_is) c.checkpoint.ensures.ok

pub returns-clause-count : goal.returns-clause-count
returns-clause-count g c = subst (λ v. IfOk c.checkpoint.result (λ n. n ≡ length v.journal)) c.self.view_is c.checkpoint.ensures.count

pub returns-clause-published : goal.returns-clause-published
returns-clause-published g c = subst (λ v. OnOk c.checkpoint.result (edits_of v.shown ≡ v.journal)) c.self.view_is c.checkpoint.ensures.published

pub returns-clause-err : goal.returns-clause-err
returns-clause-err g c =
    on_err c.checkpoint.result _ _ (λ is. ap (λ v. record { journal = v.journal; shown = g.P.Publisher.shown v.publisher; base = v.base }) is ∙ c.self.view_is) c.checkpoint.ensures.err

pub returns-clause-unpublished : goal.returns-clause-unpublished
returns-clause-unpublished g c = subst (λ v. OnErr c.checkpoint.result (length (edits_of v.shown) < length v.journal)) c.self.view_is c.checkpoint.ensures.unpublished
