use Rattle.std.proofs.Common.{◌≡◌, ◌+◌, replicate, subst, sym}
use Rattle.cq_desk.specs.Plain.{AreWithin}
use Rattle.cq_desk.proofs.Counting.{within-replicate}
use Rattle.cq_desk.proofs.floor.Floor.begin.Goals as goal

pub invariant_of-result : goal.invariant_of-result
invariant_of-result g c = let most = c.in_ok-turns.turns.base + c.in_ok-turns.turns.published in
    let is : c.in_ok-seen.seen.items ≡ replicate c.args.sessions 0 = c.in_ok-seen.ensures in
    subst (AreWithin most) (sym is) (within-replicate most c.args.sessions)
