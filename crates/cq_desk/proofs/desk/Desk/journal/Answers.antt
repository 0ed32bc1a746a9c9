use Rattle.std.proofs.Common.{◌+◌, ◌≤◌, drop, length, subst, ap, ◌∙◌, arith}
use Rattle.cq_desk.specs.Replies.{AreAccepted, journal_edits}
use Rattle.cq_desk.proofs.Basing.{based_within, shown_short, whole_rest}
use Rattle.cq_desk.proofs.desk.Desk.journal.Goals as goal

pub returns-clause-value : goal.returns-clause-value
returns-clause-value g c = let d = c.self.inside in c.deref.ensures.value ∙ whole_rest d.base (g.P.Publisher.history d.publisher) d.journal.items (based_within c.self.invariant) ∙ ap (λ v. drop v.base v.journal) c.self.view_is

pub returns-clause-accepted : goal.returns-clause-accepted
returns-clause-accepted g c = subst (λ v. AreAccepted g.L.Live.after g.L.Live.why (g.P.Publisher.opening v.publisher) (journal_edits v.journal)) c.self.view_is c.self.invariant.accepted

pub returns-clause-within : goal.returns-clause-within
returns-clause-within g c = subst (λ v. length v.journal ≤ v.base + v.limit) c.self.view_is c.self.invariant.within

pub returns-clause-base : goal.returns-clause-base
returns-clause-base g c = let b = c.self.invariant.based in let n = shown_short c.self.invariant in
    subst (λ v. v.base ≤ length v.journal) c.self.view_is (omega (arith, b, n))
