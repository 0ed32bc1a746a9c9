use Rattle.std.proofs.Common.{◌≡◌, ◌≤◌, ◌<◌, length, arith}
use Rattle.std.proofs.lemmas.List.{length-map}
use Rattle.cq_select.specs.Steps.Facts.{asker, chosen_of}
use Rattle.cq_select.proofs.Asking.{front-met, need-found, list-met}
use Rattle.cq_select.proofs.Trailing.{complete}
use Rattle.cq_select.proofs.asked.next_need.Goals as goal

pub open-requires : goal.open-requires
open-requires g c =
    let trail = c.loop-trail.trail in
    let s = c.loop-trail.invariant in
    let by : c.asker-cause.result ≡ asker (chosen_of trail.frames.items) trail.choice.list = rw c.deref.ensures.value at c.asker-cause.ensures in
    (c.in-Some.ensures (chosen_of trail.frames.items) s.trail_is.seats (front-met c.args.supply.now c.args.wanted.now trail c.asker-cause.result c.asked_by-atoms.result.now s by c.asked_by-atoms.ensures)).low

pub returns-in-Some-clause-choice : goal.returns-in-Some-clause-choice
returns-in-Some-clause-choice g c e =
    let supply = c.args.supply.now in
    let wanted = c.args.wanted.now in
    let trail = c.loop-trail.trail in
    let below = chosen_of trail.frames.items in
    let s = c.loop-trail.invariant in
    let len : length below ≡ length trail.frames.items = length-map trail.frames.items (λ f. f.member) in
    let low : trail.choice.list ≤ length below = omega (arith, len, c.len.ensures, trail.frames.ok.0, c.loop-trail-test.true) in
    let by : c.asker-cause.result ≡ asker below trail.choice.list = rw c.deref.ensures.value at c.asker-cause.ensures in
    let f = c.in-Some.ensures below s.trail_is.seats (front-met supply wanted trail c.asker-cause.result c.asked_by-atoms.result.now s by c.asked_by-atoms.ensures) in
    need-found supply wanted trail c.open.new.choice c.in-Some.place c.asker-cause.result c.asked_by-atoms.result.now s low by c.asked_by-atoms.ensures f c.open.ensures

pub loop-trail-preserved : goal.loop-trail-preserved
loop-trail-preserved g c =
    let supply = c.args.supply.now in
    let wanted = c.args.wanted.now in
    let trail = c.loop-trail.trail in
    let below = chosen_of trail.frames.items in
    let s = c.loop-trail.invariant in
    let len : length below ≡ length trail.frames.items = length-map trail.frames.items (λ f. f.member) in
    let low : trail.choice.list ≤ length below = omega (arith, len, c.len.ensures, trail.frames.ok.0, c.loop-trail-test.true) in
    let by : c.asker-cause.result ≡ asker below trail.choice.list = rw c.deref.ensures.value at c.asker-cause.ensures in
    let all = c.in-None.ensures below s.trail_is.seats (front-met supply wanted trail c.asker-cause.result c.asked_by-atoms.result.now s by c.asked_by-atoms.ensures) in
    list-met supply wanted trail c.skip.new.choice c.asker-cause.result c.asked_by-atoms.result.now s low by c.asked_by-atoms.ensures all c.skip.ensures

pub returns-clause-complete : goal.returns-clause-complete
returns-clause-complete g c e =
    let trail = c.loop-trail.trail in
    let s = c.loop-trail.invariant in
    let len : length (chosen_of trail.frames.items) ≡ length trail.frames.items = length-map trail.frames.items (λ f. f.member) in
    let past : length (chosen_of trail.frames.items) < trail.choice.list = omega (arith, len, c.len.ensures, trail.frames.ok.0, c.loop-trail-test.false) in
    complete c.args.supply.now c.args.wanted.now trail.frames.items _ trail.choice.list trail.choice.place s.trail_is.frames s.trail_is.seats s.met past
