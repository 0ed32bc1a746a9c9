use Rattle.std.proofs.Common.{◌≡◌, ◌+◌, ◌<◌, ◌∷◌, ◌++◌, [], length, take, Some, sym, ap, subst, ◌∙◌, arith}
use Rattle.std.proofs.lemmas.List.{take_all, take_more}
use Rattle.cq_sessions.specs.Steps.Rooms.{IsFirstOf}
use Rattle.cq_sessions.proofs.Faults.{first-on, first-or}
use Rattle.cq_sessions.proofs.files.first_fault.Goals as goal
use Rattle.cq_sessions.proofs.files.first_fault.Goals.{in-Ok, in-Err}

pub loop-left-preserved : goal.loop-left-preserved
loop-left-preserved g c =
    let lefts = c.args.lefts.now in
    let at = c.loop-left in
    let left = c.left-item.result in
    let missing = length lefts < c.args.count in
    let front = take at.left-index lefts in
    let more : take (at.left-index + 1) lefts ≡ front ++ left ∷ [] = take_more lefts at.left-index left c.loop-left-test.true ∙ ap (λ x. front ++ x ∷ []) (sym c.left-item.is) in
    elim c.match-left.branch [
      | in-Ok w ↦ rw w.first-is (subst (λ z. IsFirstOf missing z at.first) (sym more) (first-on missing front left w.in-Ok.field-0 at.first w.in-Ok.is at.invariant))
      | in-Err w ↦ rw w.first-is (subst (λ z. IsFirstOf missing z (Some w.or_before.result)) (sym more)
          (first-or missing front left w.in-Err.fault w.or_before.result at.first w.in-Err.is w.or_before.ensures.one w.or_before.ensures.this w.or_before.ensures.that at.invariant))
    ]

pub returns : goal.returns
returns g c =
    let lefts = c.args.lefts.now in
    subst (λ z. IsFirstOf (length lefts < c.args.count) z c.loop-left.first) (take_all c.loop-left.left-index lefts (omega (arith, c.loop-left-test.false))) c.loop-left.invariant
