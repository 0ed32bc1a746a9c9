use Rattle.std.proofs.Common.{Vec, ℕ, ◌<◌, [], length, refl, ap}
use Rattle.std.proofs.lemmas.List.Elements.{All-nil, All-same}
use Rattle.cq_reached.proofs.OneMore.{one-more}
use Rattle.cq_reached.proofs.groups.joints_of.Goals.{then-is_set+then-is_set-2+in_ok-push, else-is_set}
use Rattle.cq_reached.proofs.groups.joints_of.Goals as goal

pub loop-edge-init : goal.loop-edge-init
loop-edge-init g c =
    let joints = c.new-joints.result.items in
    let few = length c.args.flags.now in
    let one = λ (joint : ℕ × ℕ). joint.0 < few in
    let other = λ (joint : ℕ × ℕ). joint.1 < few in
    record { one = All-same one joints [] c.new-joints.ensures.items (All-nil one); other = All-same other joints [] c.new-joints.ensures.items (All-nil other) }

pub loop-edge-preserved : goal.loop-edge-preserved
loop-edge-preserved g c =
    let joints = c.loop-edge.joints.items in
    let more = c.if-is_set.joints.items in
    let few = length c.args.flags.now in
    let one = λ (joint : ℕ × ℕ). joint.0 < few in
    let other = λ (joint : ℕ × ℕ). joint.1 < few in
    let items = λ (v : Vec (ℕ × ℕ) g.row.A.Denot). v.items in
    elim c.if-is_set.branch [
      | then-is_set+then-is_set-2+in_ok-push w ↦
          let new = w.push.new.self.items in
          let same = ap items w.joints-is in
          record {
            one = one-more one joints new more _ same w.in_ok-push.ensures.items c.loop-edge.invariant.one (w.if-is_set.ensures refl);
            other = one-more other joints new more _ same w.in_ok-push.ensures.items c.loop-edge.invariant.other (w.if-is_set-2.ensures refl);
          }
      | else-is_set w ↦
          let same = ap items w.joints-is in
          record { one = All-same one more joints same c.loop-edge.invariant.one; other = All-same other more joints same c.loop-edge.invariant.other }
    ]

pub returns-clause-one : goal.returns-clause-one
returns-clause-one g c = c.loop-edge.invariant.one

pub returns-clause-other : goal.returns-clause-other
returns-clause-other g c = c.loop-edge.invariant.other
