use Rattle.std.proofs.Common.{◌≤◌, ap, subst, arith, length, List}
use mathlib.Core.List.{IsPrefix}
use Rattle.cq_room.specs.declared.mark.Mark.{Mark}
use Rattle.cq_room.proofs.Fronts.{prefix_shorter}
use Rattle.cq_room.proofs.trail.Trail.begins.Goals as goal

pub returns-then-self-other-clause-one : goal.returns-then-self-other-clause-one
returns-then-self-other-clause-one g c =
    let both = c.learn.new.self.log in
    let this : IsPrefix c.self.inside.seen.log both = subst (λ (l : List (Mark g.row.L-Edit.Denot)). IsPrefix l both) (ap (λ s. s.log) c.again-both.ensures) c.learn.ensures.2 in
    let le = c.if-self-other.true in
    let less : length c.self.inside.seen.log ≤ length c.other.inside.seen.log = omega (arith, c.self.invariant.0, c.other.invariant.0, le) in
    rw (← c.self.view_is, ← c.other.view_is) (prefix_shorter c.self.inside.seen.log c.other.inside.seen.log both this c.learn.ensures.3 less)

pub returns-clause-one : goal.returns-clause-one
returns-clause-one g c =
    let both = c.learn.new.self.log in
    let this : IsPrefix c.self.inside.seen.log both = subst (λ (l : List (Mark g.row.L-Edit.Denot)). IsPrefix l both) (ap (λ s. s.log) c.again-both.ensures) c.learn.ensures.2 in
    let le = c.if-self-other.false in
    let less : length c.other.inside.seen.log ≤ length c.self.inside.seen.log = omega (arith, c.self.invariant.0, c.other.invariant.0, le) in
    rw (← c.self.view_is, ← c.other.view_is) (prefix_shorter c.other.inside.seen.log c.self.inside.seen.log both c.learn.ensures.3 this less)
