use Rattle.std.proofs.Common.{◌+◌, length, arith, subst, sym}
use Rattle.cq_desk.specs.Plain.{AreWithin}
use Rattle.cq_desk.proofs.Cutting.{within-more}
use Rattle.cq_desk.proofs.floor.Floor.publish.Goals as goal

pub invariant_of-self : goal.invariant_of-self
invariant_of-self g c = let t = c.self.inside.turns in let seen = c.self.inside.seen.items in let front = c.published-known.ensures.within in
    subst (λ v. AreWithin (v.base + v.published) seen) (sym c.publish.ensures.done)
    (within-more (t.base + t.published) (t.base + length t.journal) seen c.self.invariant (omega (arith, front)))
