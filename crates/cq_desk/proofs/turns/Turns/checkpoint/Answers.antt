use mathlib.Core.Logic.{inl}
use Rattle.std.proofs.Common.{◌+◌, ◌-◌, length, ap, ◌∙◌, refl, sym, subst, arith, length-drop}
use Rattle.cq_desk.specs.Steps.Turns.{AreInTurn, AreCounted}
use Rattle.cq_desk.proofs.Turning.{caught_up, renewed_stand, renewed_seen, viewed}
use Rattle.cq_desk.proofs.turns.Turns.checkpoint.Goals as goal

pub invariant_of-self-2 : goal.invariant_of-self-2
invariant_of-self-2 g c = let d = c.self.inside in let es = d.entries.items in let root = g.L.Live.content d.origin.value in let past = g.L.Live.content d.past in let kept = c.catch_up.ensures in
    let inv = caught_up g.L.Live.after root past (g.L.Live.content d.shown) d.limit d.base d.skipped d.before d.behind (g.L.Live.content d.other) (g.L.Live.content c.catch_up.new.state) es es c.deref.result.now d.published d.taken c.catch_up.new.taken
    refl c.deref.ensures.value kept.leads kept.within (inl c.in_ok-catch_up.ensures.all) c.self.invariant in
    let n = length-drop d.skipped es in let view = ap (λ v. length v.journal) c.self.view_is in let done = ap (λ v. v.published) c.self.view_is in let all = c.requires in
    let cut = c.self.invariant.1.skipped_within in let within = c.self.invariant.0.published_within in let told = c.count-count.ensures in
    let last = c.in_ok-last.last in let long = c.len-self-inside.ensures in let len = last.ok.0 in
    subst (λ w. AreInTurn g.L.Live.after (g.L.Live.content w) past (g.L.Live.content d.shown) (g.L.Live.content c.catch_up.new.state) last.items 0 c.len-self-inside.result c.len-self-inside.result × AreCounted c.min-self-inside.result (d.base + c.count-count.result) (length last.items) c.len-self-inside.result c.len-self-inside.result (d.before - d.behind) 0) (sym c.of.ensures)
    (subst (λ l. AreInTurn g.L.Live.after past past (g.L.Live.content d.shown) (g.L.Live.content c.catch_up.new.state) last.items 0 c.len-self-inside.result c.len-self-inside.result × AreCounted l (d.base + c.count-count.result) (length last.items) c.len-self-inside.result c.len-self-inside.result (d.before - d.behind) 0) (sym c.min-self-inside.ensures)
    (renewed_stand g.L.Live.after root past (g.L.Live.content d.shown) d.limit d.base d.skipped d.before d.behind (g.L.Live.content c.catch_up.new.state) es last.items d.published c.catch_up.new.taken c.len-self-inside.result c.count-count.result
    inv (omega (arith, n, view, done, all, cut, within)) (c.in_ok-catch_up.ensures.all ∙ ap length c.deref.ensures.value) c.in_ok-last.ensures.tail (long ∙ len) (omega (arith, told, view, n, cut, within))))

pub returns-clause-ok : goal.returns-clause-ok
returns-clause-ok g c = let d = c.self.inside in let es = d.entries.items in let root = g.L.Live.content d.origin.value in let past = g.L.Live.content d.past in
    let n = length-drop d.skipped es in let view = ap (λ v. length v.journal) c.self.view_is in let done = ap (λ v. v.published) c.self.view_is in let all = c.requires in
    let cut = c.self.invariant.1.skipped_within in let within = c.self.invariant.0.published_within in let told = c.count-count.ensures in
    let last = c.in_ok-last.last in let long = c.len-self-inside.ensures in let len = last.ok.0 in
    ap (λ w. viewed g.L.Live.after (g.L.Live.content w) c.min-self-inside.result (d.base + c.count-count.result) c.len-self-inside.result (d.before - d.behind) c.len-self-inside.result last.items) c.of.ensures
    ∙ (ap (λ l. viewed g.L.Live.after past l (d.base + c.count-count.result) c.len-self-inside.result (d.before - d.behind) c.len-self-inside.result last.items) c.min-self-inside.ensures
    ∙ renewed_seen g.L.Live.after root past (g.L.Live.content d.shown) d.limit d.base d.skipped d.before d.behind (g.L.Live.content d.other) es last.items d.published d.taken c.len-self-inside.result c.count-count.result c.args.self.now
    c.self.invariant (omega (arith, n, view, done, all, cut, within)) c.in_ok-last.ensures.tail (long ∙ len) (told ∙ sym view) c.self.view_is)
