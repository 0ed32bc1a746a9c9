use mathlib.Core.Logic.{inl}
use Rattle.std.proofs.Common.{◌≡◌, ◌+◌, None, Some, length, ap, sym, ◌∙◌, arith}
use Rattle.cq_desk.specs.declared.reply.Reply.TheVariants.{Entered}
use Rattle.cq_desk.proofs.Turning.{caught_up, working_is, works_as, reply_room}
use Rattle.cq_desk.proofs.turns.Turns.append.Goals as goal

pub returns-in-Some-clause-reply : goal.returns-in-Some-clause-reply
returns-in-Some-clause-reply g c = let d = c.self.inside in let kept = c.catch_up.ensures in let es = c.reserve.new.self.items in let root = g.L.Live.content d.origin.value in
    let all : c.catch_up.new.taken ≡ length es = c.in_ok-catch_up.ensures.all ∙ ap length c.deref.ensures.value in
    let inv = caught_up g.L.Live.after root (g.L.Live.content d.past) (g.L.Live.content d.shown) d.limit d.base d.skipped d.before d.behind (g.L.Live.content d.other) (g.L.Live.content c.catch_up.new.state) d.entries.items es c.deref.result.now d.published d.taken c.catch_up.new.taken
    c.reserve.ensures.items c.deref.ensures.value kept.leads kept.within (inl c.in_ok-catch_up.ensures.all) c.self.invariant in
    let works = working_is g.L.Live.after root (g.L.Live.content d.past) (g.L.Live.content d.shown) d.limit d.base d.skipped d.before d.behind (g.L.Live.content c.catch_up.new.state) d.entries.items es d.published c.catch_up.new.taken all c.reserve.ensures.items inv in
    let short = c.if-count-self.false in let limit = ap (λ v. v.limit) c.self.view_is in
    reply_room g.L.Live.after g.L.Live.why c.args.self.now c.args.edit c.count-count.result (g.L.Live.content c.catch_up.new.state) (Some c.in-Some.why) c.count-count.ensures (omega (arith, short, limit))
    (works_as g.L.Live.after root (g.L.Live.content d.past) (g.L.Live.content d.shown) d.limit d.base d.skipped d.before d.behind (g.L.Live.content c.catch_up.new.state) d.entries.items d.published c.args.self.now c.self.view_is works)
    (sym c.in-Some.is ∙ c.in_ok-why.ensures.answer)

pub returns-in-None-clause-reply : goal.returns-in-None-clause-reply
returns-in-None-clause-reply g c = let d = c.self.inside in let kept = c.catch_up.ensures in let es = c.reserve.new.self.items in let root = g.L.Live.content d.origin.value in
    let all : c.catch_up.new.taken ≡ length es = c.in_ok-catch_up.ensures.all ∙ ap length c.deref.ensures.value in
    let inv = caught_up g.L.Live.after root (g.L.Live.content d.past) (g.L.Live.content d.shown) d.limit d.base d.skipped d.before d.behind (g.L.Live.content d.other) (g.L.Live.content c.catch_up.new.state) d.entries.items es c.deref.result.now d.published d.taken c.catch_up.new.taken
    c.reserve.ensures.items c.deref.ensures.value kept.leads kept.within (inl c.in_ok-catch_up.ensures.all) c.self.invariant in
    let works = working_is g.L.Live.after root (g.L.Live.content d.past) (g.L.Live.content d.shown) d.limit d.base d.skipped d.before d.behind (g.L.Live.content c.catch_up.new.state) d.entries.items es d.published c.catch_up.new.taken all c.reserve.ensures.items inv in
    let short = c.if-count-self.false in let limit = ap (λ v. v.limit) c.self.view_is in let base = ap (λ v. v.base) c.self.view_is in
    ap (λ n. Entered (n + c.count-count.result + 1)) base
    ∙ reply_room g.L.Live.after g.L.Live.why c.args.self.now c.args.edit c.count-count.result (g.L.Live.content c.catch_up.new.state) None c.count-count.ensures (omega (arith, short, limit))
    (works_as g.L.Live.after root (g.L.Live.content d.past) (g.L.Live.content d.shown) d.limit d.base d.skipped d.before d.behind (g.L.Live.content c.catch_up.new.state) d.entries.items d.published c.args.self.now c.self.view_is works)
    (sym c.in-None.is ∙ c.in_ok-why.ensures.answer)
