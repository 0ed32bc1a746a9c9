use Rattle.std.proofs.Common.{◌∙◌, ap, arith}
use Rattle.cq_desk.proofs.Turning.{published_seen, viewed}
use Rattle.cq_desk.proofs.turns.Turns.publish.Goals as goal
use Rattle.cq_desk.proofs.turns.Turns.publish.Goals.{then-self-len, else-self-len}

pub returns-clause-done : goal.returns-clause-done
returns-clause-done g c = let d = c.self.inside in let root = g.L.Live.content d.origin.value in let past = c.self.invariant.1.skipped_within in let len = d.entries.ok.0 in let within = c.self.invariant.0.published_within in
    elim c.if-self-len.branch [
      | then-self-len w ↦ let is = w.len-self-inside.ensures in
          ap (λ e. viewed g.L.Live.after (g.L.Live.content e.origin.value) e.limit e.base e.skipped e.before e.published e.entries.items) w.self-inside-is
          ∙ published_seen g.L.Live.after root (g.L.Live.content d.past) (g.L.Live.content d.shown) d.limit d.base d.skipped d.before d.behind d.entries.items d.published w.len-self-inside.result c.args.self.now (omega (arith, is, len)) past c.self.view_is
      | else-self-len w ↦ let is = c.len.ensures in let all = w.if-self-len.false in
          ap (λ e. viewed g.L.Live.after (g.L.Live.content e.origin.value) e.limit e.base e.skipped e.before e.published e.entries.items) w.self-inside-is
          ∙ published_seen g.L.Live.after root (g.L.Live.content d.past) (g.L.Live.content d.shown) d.limit d.base d.skipped d.before d.behind d.entries.items d.published d.published c.args.self.now (omega (arith, is, len, all, within)) past c.self.view_is
    ]
