use Rattle.std.proofs.Common.{◌≡◌, ◌<◌, Ok, List, length, get_or, ap, sym, ◌∙◌, subst, arith}
use Rattle.cq_select.specs.Selection.{suppliers_of}
use Rattle.cq_select.proofs.Turning.{looking}
use Rattle.cq_select.proofs.choosing.try_suppliers.Goals as goal

pub returns-then-branch-clause-chosen : goal.returns-then-branch-clause-chosen
returns-then-branch-clause-chosen g c e wanted start =
    let trail = c.loop-trail.trail in
    let shown = c.suppliers_of-suppliers.result.now in
    let m = c.next_candidate-candidate.result in
    let atom : shown ≡ suppliers_of c.args.supply.now trail.choice.atom = c.loop-trail.invariant.atom in
    let low : trail.choice.tried < length (suppliers_of c.args.supply.now trail.choice.atom) = subst (λ (l : List _). trail.choice.tried < length l) atom c.loop-trail-test.true in
    let served : m ≡ get_or (suppliers_of c.args.supply.now trail.choice.atom) trail.choice.tried 0 = c.next_candidate-candidate.ensures.candidate ∙ ap (λ (l : List _). get_or l trail.choice.tried 0) atom in
    let look = looking c.args.supply.now wanted trail c.next_candidate-candidate.new.choice m (c.loop-trail.invariant.state wanted start) low served c.next_candidate-candidate.ensures.next in
    c.in_ok-take.ensures.chosen (ap Ok c.if-branch.true) wanted look

pub loop-trail-preserved : goal.loop-trail-preserved
loop-trail-preserved g c =
    let trail = c.loop-trail.trail in
    let shown = c.suppliers_of-suppliers.result.now in
    let m = c.next_candidate-candidate.result in
    let refused = ap Ok c.if-branch.false in
    let atom : shown ≡ suppliers_of c.args.supply.now trail.choice.atom = c.loop-trail.invariant.atom in
    let low : trail.choice.tried < length (suppliers_of c.args.supply.now trail.choice.atom) = subst (λ (l : List _). trail.choice.tried < length l) atom c.loop-trail-test.true in
    let served : m ≡ get_or (suppliers_of c.args.supply.now trail.choice.atom) trail.choice.tried 0 = c.next_candidate-candidate.ensures.candidate ∙ ap (λ (l : List _). get_or l trail.choice.tried 0) atom in
    record {
      state = λ wanted start.
          c.in_ok-take.ensures.refused refused wanted
          (looking c.args.supply.now wanted trail c.next_candidate-candidate.new.choice m (c.loop-trail.invariant.state wanted start) low served c.next_candidate-candidate.ensures.next);
      frames = c.in_ok-take.ensures.frames refused ∙ c.loop-trail.invariant.frames;
      atom = atom ∙ ap (suppliers_of c.args.supply.now) (sym (c.in_ok-take.ensures.atom refused ∙ ap (λ x. x.atom) c.next_candidate-candidate.ensures.next));
      rising = omega (arith, c.loop-trail.invariant.rising, c.next_candidate-candidate.ensures.counted);
      within = omega (arith, c.loop-trail.invariant.within, c.next_candidate-candidate.ensures.counted, c.if-steps-budget.false);
    }
