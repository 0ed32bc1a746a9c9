use Rattle.std.proofs.Common.{◌≡◌, ◌++◌, ◌∷◌, [], length, ap, subst, sym, arith}
use Rattle.std.specs.List.{Contains}
use Rattle.std.proofs.lemmas.List.{length_push}
use Rattle.cq_select.specs.Steps.Facts.{chosen_of, IsWithin}
use Rattle.cq_select.proofs.Filtering.{not-listed}
use Rattle.cq_select.proofs.Refuting.{nogood-none}
use Rattle.cq_select.proofs.Turning.{conflict-back, still-blocked, reopened}
use Rattle.cq_select.proofs.retreat.retreat.Goals as goal

pub returns-then-contains-clause-back : goal.returns-then-contains-clause-back
returns-then-contains-clause-back g c e wanted ex =
    let supply = c.args.supply.now in
    let before = c.loop-frame.trail in
    let trail = c.take_back.new.trail in
    let after = c.reopen.new.trail in
    let frame = c.in-Some.frame in
    let b = c.loop-frame.invariant.state wanted ex in
    let good = c.in-Some.ensures.good wanted b.trail_is in
    let back = conflict-back supply wanted before trail frame b c.in-Some.ensures.choice c.in-Some.ensures.frames in
    let r = c.in_ok-reopen.ensures in
    reopened supply wanted trail after frame good.0 good.1 back.0 back.1 r.frames r.seats r.lost r.choice r.reason r.dead_len r.dead

pub returns-then-contains-clause-none : goal.returns-then-contains-clause-none
returns-then-contains-clause-none g c e wanted ex chosen s = cc

pub loop-frame-preserved : goal.loop-frame-preserved
loop-frame-preserved g c =
    let supply = c.args.supply.now in
    let before = c.loop-frame.trail in
    let trail = c.take_back.new.trail in
    let frame = c.in-Some.frame in
    let is : before.frames.items ≡ trail.frames.items ++ frame ∷ [] = c.in-Some.ensures.frames in
    let out = not-listed trail.choice.reason.items c.deref.result.now frame.member c.deref.ensures.value (sym c.if-contains.ensures.value) in
    record {
      state = λ wanted ex.
          let b = c.loop-frame.invariant.state wanted ex in
          let good = c.in-Some.ensures.good wanted b.trail_is in
          still-blocked supply wanted before trail frame b c.in-Some.ensures.choice is good.0 out;
      fewer = omega (arith, ap length is, length_push trail.frames.items frame, c.loop-frame.invariant.fewer);
    }

pub returns-clause-none : goal.returns-clause-none
returns-clause-none g c e wanted ex =
    let before = c.loop-frame.trail in
    let b = c.loop-frame.invariant.state wanted ex in
    let none : before.frames.items ≡ [] = c.in_default.ensures.frames in
    let inside : IsWithin before.choice.reason.items [] = λ q i. subst (λ l. Contains (chosen_of l) q) none (b.caused q i) in
    nogood-none c.args.supply.now wanted before.choice.reason.items b.conflict inside
