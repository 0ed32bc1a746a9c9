use Rattle.std.proofs.Common.{◌≡◌, ◌++◌, ◌∷◌, [], get_or}
use Rattle.cq_match.proofs.Dropping.{found-more, found-same, owned-more}
use Rattle.cq_match.proofs.settle.unfed.Goals as goal
use Rattle.cq_match.proofs.settle.unfed.Goals.{then-counts-slot-eq0+in_ok-push, else-counts-slot-eq0}

pub loop-slot-preserved : goal.loop-slot-preserved
loop-slot-preserved g c =
    let owners = c.args.owners.now in
    let counts = c.args.counts.now in
    let i = c.loop-slot.slot in
    let before = c.loop-slot.found.items in
    elim c.if-counts-slot-eq0.branch [
      | then-counts-slot-eq0+in_ok-push w ↦
          let now : c.if-counts-slot-eq0.found.items ≡ before ++ get_or owners i 0 ∷ [] = cc (w.found-is, w.in_ok-push.ensures.items) in
          record {
            each = rw now (found-more owners counts before i c.loop-slot.invariant.each);
            only = rw now (owned-more owners counts before i c.loop-slot-test.true w.if-counts-slot-eq0.true c.loop-slot.invariant.only);
          }
      | else-counts-slot-eq0 w ↦
          let now : c.if-counts-slot-eq0.found.items ≡ before = cc (w.found-is) in
          record {
            each = rw now (found-same owners counts before i w.if-counts-slot-eq0.false c.loop-slot.invariant.each);
            only = rw now c.loop-slot.invariant.only;
          }
    ]
