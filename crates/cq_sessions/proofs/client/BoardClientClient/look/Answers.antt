use Rattle.std.proofs.Common.{length, sym, ap, subst, ◌∙◌}
use Rattle.std.proofs.lemmas.List.{length-map}
use mathlib.Core.List.{IsPrefix}
use Rattle.cq_desk.specs.History.{edits_of}
use Rattle.cq_desk.specs.Replies.{journal_edits}
use Rattle.cq_sessions.specs.Steps.Clients.{known_in, IsSeated}
use Rattle.cq_sessions.proofs.Clients.{prefix_edits}
use Rattle.cq_sessions.proofs.client.BoardClientClient.look.Goals as goal

pub returns-in-Ok-clause-shown : goal.returns-in-Ok-clause-shown
returns-in-Ok-clause-shown g c =
    c.count-count.ensures ∙ (sym (length-map (edits_of c.in-Ok.look.history) (λ j. j.edit))
    ∙ (ap (λ z. length (journal_edits (edits_of z.history))) (sym c.leave.ensures) ∙ ap length (sym (ap known_in c.replace.ensures.after))))

pub returns-in-Ok-clause-seen : goal.returns-in-Ok-clause-seen
returns-in-Ok-clause-seen g c =
    let knew = sym c.self.view_is ∙ ap known_in (sym c.take.ensures.value ∙ c.in-Some.is) in
    subst (λ z. IsPrefix c.args.self.now z) (sym (ap known_in c.replace.ensures.after))
    (subst (λ z. IsPrefix z (journal_edits (edits_of c.leave.result.history))) (sym knew)
    (subst (λ z. IsPrefix (journal_edits (edits_of c.in-Some.session.history)) (journal_edits (edits_of z.history))) (sym c.leave.ensures) (prefix_edits c.in-Ok.look.history c.in-Some.session.history c.in-Ok.ensures.history)))

pub invariant_of-self : goal.invariant_of-self
invariant_of-self g c = (subst IsSeated (sym c.replace.ensures.after) tt, c.self.invariant.1, c.self.invariant.2, c.self.invariant.3)
