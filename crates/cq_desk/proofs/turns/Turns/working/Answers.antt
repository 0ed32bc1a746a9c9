use Rattle.std.proofs.Common.{refl, arith}
use Rattle.cq_desk.proofs.Turning.{shown_has, working_is, works_as}
use Rattle.cq_desk.proofs.turns.Turns.working.Goals as goal

pub returns-then-self-len : goal.returns-then-self-len
returns-then-self-len g c = let d = c.self.inside in let short = c.if-self-len.true in let is = c.len.ensures in let len = d.entries.ok.0 in
    works_as g.L.Live.after (g.L.Live.content d.origin.value) (g.L.Live.content d.past) (g.L.Live.content d.shown) d.limit d.base d.skipped d.before d.behind (g.L.Live.content d.shown) d.entries.items d.published c.args.self.now c.self.view_is
    (shown_has g.L.Live.after (g.L.Live.content d.origin.value) (g.L.Live.content d.past) (g.L.Live.content d.shown) d.limit d.base d.skipped d.before d.behind (g.L.Live.content d.other) d.entries.items d.published d.taken (omega (arith, short, is, len)) c.self.invariant)

pub returns-else-self-len : goal.returns-else-self-len
returns-else-self-len g c = let d = c.self.inside in let all = c.if-self-len.false in let is = c.len.ensures in let len = d.entries.ok.0 in let within = c.self.invariant.0.taken_within in
    works_as g.L.Live.after (g.L.Live.content d.origin.value) (g.L.Live.content d.past) (g.L.Live.content d.shown) d.limit d.base d.skipped d.before d.behind (g.L.Live.content d.other) d.entries.items d.published c.args.self.now c.self.view_is
    (working_is g.L.Live.after (g.L.Live.content d.origin.value) (g.L.Live.content d.past) (g.L.Live.content d.shown) d.limit d.base d.skipped d.before d.behind (g.L.Live.content d.other) d.entries.items d.entries.items d.published d.taken (omega (arith, all, is, len, within)) refl c.self.invariant)
