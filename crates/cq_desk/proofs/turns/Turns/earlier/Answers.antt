use Rattle.std.proofs.Common.{◌≡◌, subst, arith}
use Rattle.cq_desk.proofs.Turning.{shown_was, past_was}
use Rattle.cq_desk.proofs.turns.Turns.earlier.Goals as goal

pub returns-then-self : goal.returns-then-self
returns-then-self g c = let d = c.self.inside in let more = c.if-self.true in
    subst (λ v. g.L.Live.content d.shown ≡ v.earlier) c.self.view_is
    (shown_was g.L.Live.after (g.L.Live.content d.origin.value) (g.L.Live.content d.past) (g.L.Live.content d.shown) d.limit d.base d.skipped d.before d.behind (g.L.Live.content d.other) d.entries.items d.published d.taken (omega (arith, more)) c.self.invariant)

pub returns-else-self : goal.returns-else-self
returns-else-self g c = let d = c.self.inside in let most = c.if-self.false in
    subst (λ v. g.L.Live.content d.past ≡ v.earlier) c.self.view_is
    (past_was g.L.Live.after (g.L.Live.content d.origin.value) (g.L.Live.content d.past) (g.L.Live.content d.shown) d.limit d.base d.skipped d.before d.behind (g.L.Live.content d.other) d.entries.items d.published d.taken (omega (arith, most)) c.self.invariant)
